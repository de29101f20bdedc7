-- The classes of a program, by their numbers: those that are always there, then those of its files in order.
use Rattle.std.specs.Prelude.{◌≡◌, ◌⊎◌, ℕ, suc, List, [], ◌∷◌, ◌++◌, map, Option, Some, None, codes}
use Rattle.std.specs.List.{position_from}
use Rattle.std.specs.Str.{bytes_eq}
use Rattle.jd_syntax.specs.JavaTypes.{PlainIdentifier}
use Rattle.jd_syntax.specs.JavaTrees.{JavaClass, JavaUnit}
use Rattle.jd_ancestry.specs.Ancestors.{Above}

-- ---- the classes

-- a class that a file declares
pub record DeclaredClass : Type 0 where
  -- the file's number
  pub file : ℕ
  pub tree : JavaClass

-- the classes of the files, of which the first has this number
abbrev pub classes_from : ℕ → List JavaUnit → List DeclaredClass
classes_from n [] = []
classes_from n (u ∷ us) = map (λ c. record { file = n; tree = c }) u.classes ++ classes_from (suc n) us

abbrev pub declared_classes : List JavaUnit → List DeclaredClass
declared_classes units = classes_from 0 units

-- the classes that are always there, each with the number of the class that it extends (JLS 4.3.2, 11.1.1)
abbrev pub prelude : List (List ℕ × Option ℕ)
prelude =
    (codes "Object", None)
    ∷ (codes "Throwable", Some 0)
    ∷ (codes "Exception", Some 1)
    ∷ (codes "RuntimeException", Some 2)
    ∷ (codes "NullPointerException", Some 3)
    ∷ (codes "ArithmeticException", Some 3)
    ∷ (codes "IndexOutOfBoundsException", Some 3)
    ∷ (codes "NegativeArraySizeException", Some 3)
    ∷ (codes "ClassCastException", Some 3)
    ∷ (codes "ArrayIndexOutOfBoundsException", Some 6)
    ∷ []

-- how many these are: the first class of the files has this number
abbrev pub prelude_count : ℕ
prelude_count = 10

abbrev pub class_names : List JavaUnit → List (List ℕ)
class_names units = map (λ p. p.0) prelude ++ map (λ d. d.tree.name.name) (declared_classes units)

-- the first class of a name
abbrev pub class_in : List (List ℕ) → List ℕ → Option ℕ
class_in names name = position_from (λ n. bytes_eq n name) 0 names

abbrev pub class_named : List JavaUnit → List ℕ → Option ℕ
class_named units name = class_in (class_names units) name

-- ---- what a class extends (JLS 8.1.4)

-- Object where nothing is written; none where no class has the name
abbrev pub parent_by : List (List ℕ) → Option PlainIdentifier → Option ℕ
parent_by names None = Some 0
parent_by names (Some x) = class_in names x.name

-- of each class the number of the class that it extends
abbrev pub parents : List JavaUnit → List (Option ℕ)
parents units = map (λ p. p.1) prelude ++ map (λ d. parent_by (class_names units) d.tree.parent) (declared_classes units)

-- the class `a` is an ancestor of the class `b`
abbrev pub IsAncestor : List JavaUnit → ℕ → ℕ → Type 0
IsAncestor units a b = Above (parents units) a b

-- the class `a` is the class `b` or extends it, over as many classes as may be
abbrev pub IsSubclass : List JavaUnit → ℕ → ℕ → Type 0
IsSubclass units a b = (a ≡ b) ⊎ IsAncestor units b a

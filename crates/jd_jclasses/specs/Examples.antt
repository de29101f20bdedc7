-- Worked files: which refusal is theirs.
use Rattle.std.specs.Prelude.{ℕ, List, [], ◌∷◌, Option, Some, None, codes}
use Rattle.jd_syntax.specs.JavaTypes.{PlainIdentifier}
use Rattle.jd_syntax.specs.JavaTrees.{JavaClass, JavaUnit}
use Rattle.jd_jclasses.specs.Refusals.{DuplicateClass, CyclicExtends, IsRefused}

-- a class without members
abbrev pub empty_class : ℕ → ℕ → List ℕ → Option PlainIdentifier → JavaClass
empty_class at place name parent = record { at = at; name = record { at = place; name = name }; parent = parent; members = []; end = None }

abbrev pub one_file : List JavaClass → List JavaUnit
one_file classes = record { classes = classes } ∷ []

-- `class A {} class A {}`
abbrev pub two_of_a_name : List JavaUnit
two_of_a_name = one_file (empty_class 0 6 (codes "A") None ∷ empty_class 11 17 (codes "A") None ∷ [])

-- `class E extends E {}`
abbrev pub own_parent : List JavaUnit
own_parent = one_file (empty_class 0 6 (codes "E") (Some (record { at = 16; name = codes "E" })) ∷ [])

pub record ClassExamples : Type 0 where
  pub duplicate : IsRefused two_of_a_name (DuplicateClass 0 17)
  pub cyclic : IsRefused own_parent (CyclicExtends 0 6)

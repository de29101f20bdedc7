-- What a program of the form has: one body, and no invariant.
use Rattle.std.proofs.Common.{◌≡◌, ℕ, zero, suc, true, List, [], ◌∷◌, length, Option, Some, None, refl, subst, arith}
use Rattle.std.specs.Prelude.{⊤, MatchOption}
use Rattle.std.specs.List.{slice_get}
use Rattle.std.specs.Option.{option_and_then}
use Rattle.std.proofs.lemmas.Bool.{eqb-true}
use Rattle.std.proofs.lemmas.Option.{none-some, same_Some}
use Rattle.jd_syntax.specs.JavaTypes.{PlainIdentifier}
use Rattle.jd_syntax.specs.JavaTrees.{JavaClass, JavaMethod, JavaUnit}
use Rattle.jd_syntax.specs.SpecTrees.{PlainSpecBlock}
use Rattle.jd_jclasses.specs.Methods.{routines}
use Rattle.jd_jinfos.specs.Infos.{class_infos, method_infos}
use Rattle.jd_bodies.specs.Bodies.{body_of}
use Rattle.jd_bodies.specs.Declarations.{Declarations}
use Rattle.jd_jml_written.specs.Marked.{class_invariants}
use Rattle.jd_listed_tables.specs.Listed.{body_row, body_rows_from}
use Rattle.jd_programs.specs.Programs.{body_of_declared, body_with, class_tree}
use Rattle.jd_case_obligations.specs.Listed.{variables_of_body}
use Rattle.jd_first_form.specs.Forms.{is_first_form, is_method_form}
use Rattle.jd_first_tasks.proofs.Shape.{by_shape, is_method, left_of_and, with_method}

pub record OneBody (units : List JavaUnit) (d : Declarations) : Type 0 where
  pub tree : JavaMethod
  pub static : tree.is_static ≡ true
  pub rows : body_rows_from d 0 (routines units) ≡ body_row d 0 10 tree ∷ []
  pub body : option_and_then (body_of_declared d) (slice_get (routines units) 0) ≡ Some (body_with d 10 tree)
  pub variables : variables_of_body units d 0 ≡ (body_of d 10 tree).variables
  pub methods : length (method_infos units) ≡ 1

abbrev HasOneBody : Declarations → List JavaUnit → Type 0
HasOneBody d units = OneBody units d

shape_body : (d : Declarations) (at : ℕ) (name : PlainIdentifier) (parent : Option PlainIdentifier) (end : Option PlainSpecBlock) (m : JavaMethod) → is_method_form d m ≡ true → OneBody (with_method at name parent end m) d
shape_body d at name parent end m form = record { tree = m; static = (is_method d m form).static; rows = refl; body = refl; variables = refl; methods = refl }

pub one_body : (units : List JavaUnit) (d : Declarations) → is_first_form d units ≡ true → OneBody units d
one_body units d form = by_shape d (HasOneBody d) (shape_body d) units form

-- ---- no invariant

abbrev Each : {X Y : Type 0} → (X → Option Y) → (Y → Type 0) → List X → Type 0
Each f P [] = ⊤
Each f P (x ∷ xs) = MatchOption (f x) ⊤ P × Each f P xs

found_in : {Y : Type 0} (P : Y → Type 0) (o : Option Y) (y : Y) → MatchOption o ⊤ P → o ≡ Some y → P y
found_in P None y h e = absurd (none-some y e)
found_in P (Some x) y h e = subst P (same_Some x y e) h

each_at : {X Y : Type 0} (f : X → Option Y) (P : Y → Type 0) (xs : List X) (c : ℕ) (y : Y) → Each f P xs → option_and_then f (slice_get xs c) ≡ Some y → P y
each_at f P [] c y all e = absurd (none-some y e)
each_at f P (x ∷ xs) zero y all e = found_in P (f x) y all.0 e
each_at f P (x ∷ xs) (suc c) y all e = each_at f P xs c y all.1 e

no_length : {X : Type 0} (xs : List X) → length xs ≡ 0 → xs ≡ []
no_length [] e = refl
no_length (x ∷ xs) e = absurd (omega (arith, e))

abbrev HasNone : Declarations → List JavaUnit → Type 0
HasNone d units = is_first_form d units ≡ true → (c : ℕ) (t : JavaClass) → class_tree units c ≡ Some t → class_invariants t ≡ []

shape_none : (d : Declarations) (at : ℕ) (name : PlainIdentifier) (parent : Option PlainIdentifier) (end : Option PlainSpecBlock) (m : JavaMethod) → is_method_form d m ≡ true → HasNone d (with_method at name parent end m)
shape_none d at name parent end m method form c t is =
    let none = no_length _ (eqb-true _ 0 (left_of_and _ _ form)) in
    each_at (λ i. i.decl) (λ k. class_invariants k ≡ []) (class_infos (with_method at name parent end m)) c t (tt, (tt, (tt, (tt, (tt, (tt, (tt, (tt, (tt, (tt, (none, tt))))))))))) is

pub no_invariants : (units : List JavaUnit) (d : Declarations) → is_first_form d units ≡ true → (c : ℕ) (t : JavaClass) → class_tree units c ≡ Some t → class_invariants t ≡ []
no_invariants units d form = by_shape d (HasNone d) (shape_none d) units form form

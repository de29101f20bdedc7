-- A program of the first form is one class with one method.
use Rattle.std.proofs.Common.{◌≡◌, arith, ℕ, suc, ◌==◌, ◌&&◌, nat_le, Bool, true, false, true≢false, List, [], ◌∷◌, length, Option, refl, sym}
use Rattle.std.specs.List.{list_all}
use Rattle.std.proofs.lemmas.Bool.{eqb-true}
use Rattle.jd_syntax.specs.JavaTypes.{PlainIdentifier}
use Rattle.jd_syntax.specs.JavaTrees.{JavaMember, FieldMember, ConstantMember, MethodMember, JavaClass, JavaMethod, JavaUnit}
use Rattle.jd_syntax.specs.SpecTrees.{PlainClause, PlainSpecBlock}
use Rattle.jd_jclasses.specs.Classes.{parents}
use Rattle.jd_bodies.specs.Bodies.{body_of}
use Rattle.jd_bodies.specs.Declarations.{Declarations}
use Rattle.jd_specifications.specs.WrittenCases.{cases_of}
use Rattle.jd_jml_written.specs.Marked.{class_invariants}
use Rattle.jd_first_form.specs.Conditions.{all_comparisons, are_few}
use Rattle.jd_first_form.specs.Forms.{are_one_case, class_count, comparison_limit, gives_int, has_signature, is_first_form, is_member_form, is_method_form, is_straight, parameter_limit, takes_int}

pub left_of_and : (a b : Bool) → (a && b) ≡ true → a ≡ true
left_of_and true b e = refl
left_of_and false b e = absurd (true≢false (sym e))

pub right_of_and : (a b : Bool) → (a && b) ≡ true → b ≡ true
right_of_and true b e = e
right_of_and false b e = absurd (true≢false (sym e))

module _ (at : ℕ) (name : PlainIdentifier) (parent : Option PlainIdentifier) (end : Option PlainSpecBlock) where
  abbrev class_of : List JavaMember → JavaClass
  class_of ms = record { at = at; name = name; parent = parent; members = ms; end = end }

  -- one file of one class with one method
  abbrev pub with_method : JavaMethod → List JavaUnit
  with_method m = record { classes = class_of (MethodMember m ∷ []) ∷ [] } ∷ []

module _ (d : Declarations) (P : List JavaUnit → Type 0) (holds : (at : ℕ) (name : PlainIdentifier) (parent : Option PlainIdentifier) (end : Option PlainSpecBlock) (m : JavaMethod) → is_method_form d m ≡ true → P (with_method at name parent end m)) where
  of_members : (at : ℕ) (name : PlainIdentifier) (parent : Option PlainIdentifier) (end : Option PlainSpecBlock) (ms : List JavaMember) → is_member_form d ms ≡ true → P (record { classes = class_of at name parent end ms ∷ [] } ∷ [])
  of_members at name parent end [] e = absurd (true≢false (sym e))
  of_members at name parent end (FieldMember f ∷ ms) e = absurd (true≢false (sym e))
  of_members at name parent end (ConstantMember c ∷ ms) e = absurd (true≢false (sym e))
  of_members at name parent end (MethodMember m ∷ []) e = holds at name parent end m e
  of_members at name parent end (MethodMember m ∷ n ∷ ms) e = absurd (true≢false (sym e))

  of_classes : (cs : List JavaClass) → is_first_form d (record { classes = cs } ∷ []) ≡ true → P (record { classes = cs } ∷ [])
  of_classes [] e = absurd (true≢false (sym e))
  of_classes (c ∷ []) e = of_members c.at c.name c.parent c.end c.members (right_of_and (length (class_invariants c) == 0) (is_member_form d c.members) e)
  of_classes (c ∷ k ∷ cs) e = absurd (let n : length (parents (record { classes = c ∷ k ∷ cs } ∷ [])) ≡ 11 = eqb-true (length (parents (record { classes = c ∷ k ∷ cs } ∷ []))) class_count (left_of_and _ _ e) in omega (arith, n))

  -- what holds of such programs holds of each that has the form
  pub by_shape : (units : List JavaUnit) → is_first_form d units ≡ true → P units
  by_shape [] e = absurd (true≢false (sym e))
  by_shape (u ∷ []) e = of_classes u.classes e
  by_shape (u ∷ v ∷ us) e = absurd (let n : suc (suc (length us)) ≡ 1 = eqb-true (length (u ∷ v ∷ us)) 1 (left_of_and (length (u ∷ v ∷ us) == 1) _ e) in omega (arith, n))

-- ---- the method

one_case : (cs : List (List PlainClause)) → are_one_case cs ≡ true → (c : List PlainClause) × (cs ≡ c ∷ []) × (are_few comparison_limit (all_comparisons c) ≡ true)
one_case [] e = absurd (true≢false (sym e))
one_case (c ∷ []) e = (c, refl, e)
one_case (c ∷ k ∷ cs) e = absurd (true≢false (sym e))

pub record IsMethod (d : Declarations) (m : JavaMethod) : Type 0 where
  pub static : m.is_static ≡ true
  pub gives : gives_int m.result ≡ true
  pub few_parameters : nat_le (length m.parameters) parameter_limit ≡ true
  pub ints : list_all takes_int m.parameters ≡ true
  pub clauses : List PlainClause
  pub cases : cases_of m.specs ≡ clauses ∷ []
  pub few : are_few comparison_limit (all_comparisons clauses) ≡ true
  pub straight : is_straight (body_of d 10 m).code_ ≡ true

pub is_method : (d : Declarations) (m : JavaMethod) → is_method_form d m ≡ true → IsMethod d m
is_method d m e =
    let signature : has_signature m ≡ true = left_of_and (has_signature m) _ e in
    let result_and_parameters = right_of_and m.is_static _ signature in
    let parameters_ = right_of_and (gives_int m.result) _ result_and_parameters in
    let behind = right_of_and (has_signature m) _ e in
    let case = one_case (cases_of m.specs) (left_of_and (are_one_case (cases_of m.specs)) _ behind) in
    record {
      static = left_of_and m.is_static _ signature;
      gives = left_of_and (gives_int m.result) _ result_and_parameters;
      few_parameters = left_of_and (nat_le (length m.parameters) parameter_limit) _ parameters_;
      ints = right_of_and (nat_le (length m.parameters) parameter_limit) _ parameters_;
      clauses = case.0;
      cases = case.1;
      few = case.2;
      straight = right_of_and (are_one_case (cases_of m.specs)) _ behind;
    }

-- What conditions tell is what they say.
use Rattle.std.proofs.Common.{Bool, Decides, List, None, Option, Some, [], ap, cond, false, neg_ℤ, option_map, refl, subst, sym, true, true≢false, ◌↔◌, ◌≡◌, ◌∙◌, ◌∷◌, ℕ, ℤ}
use Rattle.std.proofs.lemmas.Bool.{and_parts}
use Rattle.std.proofs.lemmas.Option.{none-some}
use Rattle.std.specs.List.{list_all}
use Rattle.std.specs.Option.{option_and_then, option_map_or}
use Rattle.jd_model.specs.Programs.{BooleanType, IntType, ReferenceType, ValueType, field_sort}
use Rattle.jd_model.specs.Runs.{wrap32}
use Rattle.jd_model.specs.TermValues.{arithmetic}
use Rattle.jd_patterns.specs.Bindings.{Bindings, Part, Says, Tests, TheFormula, TheKind, TheLiteral, Within}
use Rattle.jd_patterns.specs.Instances.{Instance, of_sort}
use Rattle.jd_patterns.specs.Patterns.{SchemaVar}
use Rattle.jd_sequent.specs.Obligations.{PlainTask}
use Rattle.jd_syntax.specs.CodeNames.{same_sort}
use Rattle.jd_syntax.specs.Codes.{PlainKind}
use Rattle.jd_taclet_stages.proofs.Deciding.{itself, negated, opposite, sorts_decide}
use Rattle.jd_taclet_stages.proofs.Steadiness.{steady_decides}
use Rattle.jd_taclet_stages.specs.Conditions.{Fails, Fixes, Stands, Told, calculate, condition_told, conditions_told, field_of_term, fixing, if_fits, reference_of, tested, told_with}
use Rattle.jd_taclet_stages.specs.Laws.{HoldsOf, SequentConditionsHold}
use Rattle.jd_taclet_stages.specs.Ready.{can_be_told, is_plain, is_single}
use Rattle.jd_taclet_stages.specs.Steadiness.{is_steady}
use Rattle.jd_taclets.specs.Conditions as condition
use Rattle.jd_taclets.specs.Conditions.{AllHold, Calculation, Condition, ConditionClass, Holds, NegationOf, NumberOf, Numeral, OfComputedPart, OfIf, OfSequent, Operation, WrapOf, are_apart, calculated, class_of, fits_literal, is_below, is_named_field, passes, truth_formula, typing}
use Rattle.jd_term.specs.Terms.{NamedField, PlainTerm, sort_of_term}
use Rattle.jd_told_programs.specs.Told.{told_setting}

-- an instantiation is as is told
abbrev pub As : Instance → Told → Type 0
As σ Fails = ⊥
As σ Stands = Unit {0}
As σ (Fixes k x) = Says σ k x

-- ---- tests and parts

module _ (σ : Instance) where
  tested_so : (b : Bool) (P : Type 0) → Decides b P → P ↔ As σ (tested b)
  tested_so true P d = (λ h. tt, λ h. d.0 refl)
  tested_so false P d = (λ h. true≢false (sym (d.1 h)), λ h. absurd h)

  -- the term is a named field with a property
  field_so : (x : PlainTerm) (P : ℕ → Type 0) (F : ℕ → Told) → ((n : ℕ) → P n ↔ As σ (F n)) → ((n : ℕ) × (x ≡ NamedField n) × P n) ↔ As σ (option_map_or F (field_of_term x) Fails)
  field_so (NamedField m) P F each = (λ h. (each m).0 (subst P (sym (same_field h.1)) h.2), λ h. (m, refl, (each m).1 h))
    where
      same_field : {n : ℕ} → NamedField m ≡ NamedField n → m ≡ n
      same_field e = cc
  field_so x P F each = (λ h. none-some h.0 (ap field_of_term h.1), λ h. absurd h)

  -- the type refers to this kind
  reference_so : (d : SchemaVar) (v : ValueType) → (v ≡ ReferenceType (σ.kind d)) ↔ As σ (fixing d (option_map TheKind (reference_of v)))
  reference_so d (ReferenceType k) = (λ e. sym (same_kind e), λ h. ap ReferenceType (sym h))
    where
      same_kind : {j : PlainKind} → ReferenceType k ≡ ReferenceType j → k ≡ j
      same_kind e = cc
  reference_so d IntType = (λ e. not_int e, λ h. absurd h)
    where
      not_int : {j : PlainKind} → IntType ≡ ReferenceType j → ⊥
      not_int e = cc
  reference_so d BooleanType = (λ e. not_boolean e, λ h. absurd h)
    where
      not_boolean : {j : PlainKind} → BooleanType ≡ ReferenceType j → ⊥
      not_boolean e = cc

fixing_field : (k : SchemaVar) (h : ℕ → Option Part) (o : Option ℕ) → fixing k (option_and_then h o) ≡ option_map_or (λ n. fixing k (h n)) o Fails
fixing_field k h None = refl
fixing_field k h (Some n) = refl

fixes_field : (k : SchemaVar) (h : ℕ → Part) (o : Option ℕ) → fixing k (option_map h o) ≡ option_map_or (λ n. Fixes k (h n)) o Fails
fixes_field k h None = refl
fixes_field k h (Some n) = refl

-- ---- numbers

module _ (σ : Instance) where
  plain_is : (c : Calculation) → is_plain c ≡ true → calculate σ c ≡ Some (calculated σ c)
  plain_is (NumberOf n) e = refl
  plain_is (Numeral z) e = refl
  plain_is (Operation op a c) e = absurd (true≢false (sym e))
  plain_is (NegationOf a) e = absurd (true≢false (sym e))
  plain_is (WrapOf a) e = absurd (true≢false (sym e))

  fits_twice : (z : ℤ) (b : Bool) → fits_literal z ≡ b → option_and_then if_fits (cond b (Some z) None) ≡ cond b (Some z) None
  fits_twice z true e = ap (λ x. cond x (Some z) None) e
  fits_twice z false e = refl

  single_is : (c : Calculation) → is_single c ≡ true → option_and_then if_fits (calculate σ c) ≡ if_fits (calculated σ c)
  single_is (NumberOf n) e = refl
  single_is (Numeral z) e = refl
  single_is (Operation op a c) e =
      let h = and_parts (is_plain a) (is_plain c) e in
      (λ i. option_and_then if_fits (option_and_then (λ x. option_and_then (λ y. if_fits (arithmetic op x y)) (plain_is c h.1 i)) (plain_is a h.0 i)))
      ∙ fits_twice (arithmetic op (calculated σ a) (calculated σ c)) (fits_literal (arithmetic op (calculated σ a) (calculated σ c))) refl
  single_is (NegationOf a) e = (λ i. option_and_then if_fits (option_and_then (λ x. if_fits (neg_ℤ x)) (plain_is a e i))) ∙ fits_twice _ (fits_literal (calculated σ (NegationOf a))) refl
  single_is (WrapOf a) e = λ i. option_and_then if_fits (option_and_then (λ x. Some (wrap32 x)) (plain_is a e i))

  literal_fits : (o : Option ℤ) → option_and_then (λ z. option_map TheLiteral (if_fits z)) o ≡ option_map TheLiteral (option_and_then if_fits o)
  literal_fits None = refl
  literal_fits (Some z) = refl

  literal_so : (k : SchemaVar) (z : ℤ) (b : Bool) → (σ.literal k ≡ z) × (b ≡ true) ↔ As σ (fixing k (option_map TheLiteral (cond b (Some z) None)))
  literal_so k z true = (λ h. h.0, λ h. (h, refl))
  literal_so k z false = (λ h. true≢false (sym h.1), λ h. absurd h)

  calculated_so : (k : SchemaVar) (c : Calculation) → is_single c ≡ true → (σ.literal k ≡ calculated σ c) × (fits_literal (calculated σ c) ≡ true) ↔ As σ (fixing k (option_and_then (λ z. option_map TheLiteral (if_fits z)) (calculate σ c)))
  calculated_so k c e =
      subst (λ o. (σ.literal k ≡ calculated σ c) × (fits_literal (calculated σ c) ≡ true) ↔ As σ (fixing k o)) (sym (literal_fits (calculate σ c) ∙ ap (option_map TheLiteral) (single_is c e)))
      (literal_so k (calculated σ c) (fits_literal (calculated σ c)))

-- ---- each condition

module _ (w : Tests) (t : PlainTask) (σ : Instance) where
  abbrev Tells : Condition → Type 0
  Tells c = Holds (told_setting t) σ c ↔ As σ (condition_told w t σ c)

  condition_so : (c : Condition) → can_be_told c ≡ true → HoldsOf (told_setting t) σ (class_of c) c → Tells c
  condition_so (condition.SteadyIn u a) e m = tested_so σ (is_steady (σ.term u) (σ.formula a)) _ (steady_decides (σ.term u) (σ.formula a))
  condition_so (condition.NamedFieldTerm f) e m = tested_so σ _ _ (itself (is_named_field (σ.term f)))
  condition_so (condition.FieldsApart f e) q m = tested_so σ _ _ (itself (are_apart (σ.term f) (σ.term e)))
  condition_so (condition.AtLeastZero n) e m = tested_so σ _ _ (itself _)
  condition_so (condition.TermHasSort u s) e m = tested_so σ _ _ (sorts_decide (sort_of_term (σ.term u)) (of_sort (told_setting t).program σ s))
  condition_so (condition.KindBelow d c) e m = tested_so σ _ _ (itself (is_below (told_setting t).program (σ.kind d) (σ.kind c)))
  condition_so (condition.KindsDiffer d c) e m = tested_so σ _ _ (negated (w.kind.same (σ.kind d) (σ.kind c)) _ (opposite (w.kind.same (σ.kind d) (σ.kind c)) (σ.kind d ≡ σ.kind c) (w.kind.decides (σ.kind d) (σ.kind c))))
  condition_so (condition.FieldRefersTo f d) e m =
      subst (λ z. Holds (told_setting t) σ (condition.FieldRefersTo f d) ↔ As σ z) (sym (fixing_field d (λ n. option_map TheKind (reference_of ((told_setting t).program.field_type n))) (field_of_term (σ.term f))))
      (field_so σ (σ.term f) (λ n. (told_setting t).program.field_type n ≡ ReferenceType (σ.kind d)) (λ n. fixing d (option_map TheKind (reference_of ((told_setting t).program.field_type n)))) (λ n. reference_so σ d ((told_setting t).program.field_type n)))
  condition_so (condition.FieldTakes f s) e m = field_so σ (σ.term f) (λ n. sort_of_term (σ.term s) ≡ field_sort (told_setting t).program n) (λ n. tested (same_sort (sort_of_term (σ.term s)) (field_sort (told_setting t).program n))) (λ n. tested_so σ _ _ (sorts_decide (sort_of_term (σ.term s)) (field_sort (told_setting t).program n)))
  condition_so (condition.Calculated k c) e m = calculated_so σ k c e
  condition_so (condition.WhetherNumbers k q a c) e m =
      let h = and_parts (is_plain a) (is_plain c) e in
      subst (λ z. Holds (told_setting t) σ (condition.WhetherNumbers k q a c) ↔ As σ z) (λ i. fixing k (option_and_then (λ x. option_map (λ y. TheFormula (truth_formula (passes q x y))) (sym (plain_is σ c h.1) i)) (sym (plain_is σ a h.0) i)))
      (λ g. g, λ g. g)
  condition_so (condition.WhetherBelow k d c) e m = (λ h. h, λ h. h)
  condition_so (condition.DefaultTerm k s) e m = (λ h. h, λ h. h)
  condition_so (condition.DefaultExpr k x) e m = (λ h. h, λ h. h)
  condition_so (condition.FieldHasSort k f) e m = (λ h. h, λ h. h)
  condition_so (condition.DeclaredBy k f) e m = absurd (true≢false (sym e))
  condition_so (condition.TypingOf k f h s) e m =
      subst (λ z. Holds (told_setting t) σ (condition.TypingOf k f h s) ↔ As σ z) (sym (fixes_field k (λ n. TheFormula (typing ((told_setting t).program.field_type n) (σ.term h) (σ.term s))) (field_of_term (σ.term f))))
      (field_so σ (σ.term f) (λ n. σ.formula k ≡ typing ((told_setting t).program.field_type n) (σ.term h) (σ.term s)) (λ n. Fixes k (TheFormula (typing ((told_setting t).program.field_type n) (σ.term h) (σ.term s)))) (λ n. (λ g. g, λ g. g)))
  condition_so (condition.InvariantsOf k c h o) e m = (λ g. g, λ g. g)
  condition_so (condition.IndexSort a s) e m = (λ h. tt, λ h. m)
  condition_so (condition.IndexSortInTerm u s) e m = (λ h. tt, λ h. m)
  condition_so (condition.EntrySort s) e m = (λ h. tt, λ h. m)
  condition_so (condition.OnlyIndex a) e m = (λ h. tt, λ h. m)

-- ---- all of them

with_so : (σ : Instance) (T : Told) (o : Option Bindings) → As σ T × Within σ o ↔ Within σ (told_with T o)
with_so σ Fails o = (λ h. absurd h.0, λ h. absurd h)
with_so σ Stands o = (λ h. h.1, λ h. (tt, h))
with_so σ (Fixes k x) None = (λ h. absurd h.1, λ h. absurd h)
with_so σ (Fixes k x) (Some τ) = (λ h. h, λ h. h)

module _ (w : Tests) (t : PlainTask) (σ : Instance) where
  -- where a condition holds, it does if it holds of each sequent
  of_class : (k : ConditionClass) (c : Condition) → Holds (told_setting t) σ c → HoldsOf (told_setting t) σ k c
  of_class OfSequent c h = h
  of_class OfIf c h = tt
  of_class OfComputedPart c h = tt

  pub conditions_tell : (cs : List Condition) → list_all can_be_told cs ≡ true → AllHold (told_setting t) σ cs → Within σ (conditions_told w t σ cs)
  conditions_tell [] e h = tt
  conditions_tell (c ∷ cs) e h =
      let f = and_parts (can_be_told c) (list_all can_be_told cs) e in
      (with_so σ (condition_told w t σ c) (conditions_told w t σ cs)).0 ((condition_so w t σ c f.0 (of_class (class_of c) c h.0)).0 h.0, conditions_tell cs f.1 h.1)

  pub conditions_hold : (cs : List Condition) → list_all can_be_told cs ≡ true → SequentConditionsHold (told_setting t) σ cs → Within σ (conditions_told w t σ cs) → AllHold (told_setting t) σ cs
  conditions_hold [] e m h = tt
  conditions_hold (c ∷ cs) e m h =
      let f = and_parts (can_be_told c) (list_all can_be_told cs) e in
      let g : As σ (condition_told w t σ c) × Within σ (conditions_told w t σ cs) = (with_so σ (condition_told w t σ c) (conditions_told w t σ cs)).1 h in
      ((condition_so w t σ c f.0 m.0).1 g.0, conditions_hold cs f.1 m.1 g.1)

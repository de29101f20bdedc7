-- Instantiations that give alike all that conditions look at make them tell the same; and which variables conditions fix.
use Rattle.std.proofs.Common.{Bool, List, None, Option, Some, [], ap, false, int_le, not, option_map, pos, refl, true, ◌++◌, ◌≡◌, ◌∙◌, ◌∷◌, ℕ, neg_ℤ}
use Rattle.std.specs.Option.{IfSome, option_and_then, option_map_or}
use Rattle.jd_model.specs.Programs.{field_sort}
use Rattle.jd_model.specs.Runs.{wrap32}
use Rattle.jd_model.specs.TermValues.{arithmetic}
use Rattle.jd_pattern_laws.proofs.Filling.{AllSame, halves, sort_fill}
use Rattle.jd_patterns.specs.Bindings.{Bindings, Part, Tests, TheFormula, TheKind, TheLiteral, TheSimple, TheSort, TheTerm}
use Rattle.jd_patterns.specs.Chosen.{kind_of}
use Rattle.jd_patterns.specs.Instances.{Instance}
use Rattle.jd_patterns.specs.Patterns.{SchemaVar}
use Rattle.jd_patterns.specs.Variables.{FormulaKind, KindKind, LiteralKind, VarKind, Variable}
use Rattle.jd_sequent.specs.Obligations.{PlainTask}
use Rattle.jd_syntax.specs.CodeNames.{same_sort}
use Rattle.jd_taclet_stages.proofs.Binding.{variables_in}
use Rattle.jd_taclet_stages.specs.Conditions.{Fails, Fixes, Stands, Told, calculate, condition_told, conditions_told, declared_class, field_of_term, fixing, if_fits, reference_of, tested, told_with}
use Rattle.jd_taclet_stages.specs.Ready.{all_fixed, all_looked_at, calculation_variables, fixed_by, looked_at}
use Rattle.jd_taclet_stages.specs.Steadiness.{is_steady}
use Rattle.jd_taclets.specs.Conditions as condition
use Rattle.jd_taclets.specs.Conditions.{Calculation, Condition, NegationOf, NumberOf, Numeral, Operation, WrapOf, are_apart, default_expr, default_term, invariant_at, is_below, is_named_field, passes, truth_formula, typing}
use Rattle.jd_term.specs.Terms.{sort_of_term}
use Rattle.jd_told_programs.specs.Told.{told_setting}

-- ---- under another instantiation

module _ (σ ρ : Instance) where
  number_alike : (c : Calculation) → AllSame σ ρ (calculation_variables c) → calculate σ c ≡ calculate ρ c
  number_alike (NumberOf n) o = λ i. Some (o.0 i)
  number_alike (Numeral z) o = refl
  number_alike (Operation op a c) o =
      let each = halves σ ρ (calculation_variables a) (calculation_variables c) o in
      λ i. option_and_then (λ x. option_and_then (λ y. if_fits (arithmetic op x y)) (number_alike c each.1 i)) (number_alike a each.0 i)
  number_alike (NegationOf a) o = λ i. option_and_then (λ x. if_fits (neg_ℤ x)) (number_alike a o i)
  number_alike (WrapOf a) o = λ i. option_and_then (λ x. Some (wrap32 x)) (number_alike a o i)

  module _ (w : Tests) (t : PlainTask) where
    condition_alike : (c : Condition) → AllSame σ ρ (looked_at c) → condition_told w t σ c ≡ condition_told w t ρ c
    condition_alike (condition.SteadyIn u a) o = λ i. tested (is_steady (o.0 i) (o.1.0 i))
    condition_alike (condition.NamedFieldTerm f) o = λ i. tested (is_named_field (o.0 i))
    condition_alike (condition.FieldsApart f e) o = λ i. tested (are_apart (o.0 i) (o.1.0 i))
    condition_alike (condition.AtLeastZero m) o = λ i. tested (int_le (pos 0) (o.0 i))
    condition_alike (condition.TermHasSort u s) o = λ i. tested (same_sort (sort_of_term (o.0 i)) (sort_fill σ ρ (told_setting t).program s o.1 i))
    condition_alike (condition.KindBelow d c) o = λ i. tested (is_below (told_setting t).program (o.0 i) (o.1.0 i))
    condition_alike (condition.KindsDiffer d c) o = λ i. tested (not (w.kind.same (o.0 i) (o.1.0 i)))
    condition_alike (condition.FieldRefersTo f d) o = λ i. fixing d (option_and_then (λ n. option_map TheKind (reference_of ((told_setting t).program.field_type n))) (field_of_term (o.0 i)))
    condition_alike (condition.FieldTakes f s) o = λ i. option_map_or (λ n. tested (same_sort (sort_of_term (o.1.0 i)) (field_sort (told_setting t).program n))) (field_of_term (o.0 i)) Fails
    condition_alike (condition.Calculated k c) o = λ i. fixing k (option_and_then (λ z. option_map TheLiteral (if_fits z)) (number_alike c o i))
    condition_alike (condition.WhetherNumbers k q a c) o =
        let each = halves σ ρ (calculation_variables a) (calculation_variables c) o in
        λ i. fixing k (option_and_then (λ x. option_map (λ y. TheFormula (truth_formula (passes q x y))) (number_alike c each.1 i)) (number_alike a each.0 i))
    condition_alike (condition.WhetherBelow k d c) o = λ i. Fixes k (TheFormula (truth_formula (is_below (told_setting t).program (o.0 i) (o.1.0 i))))
    condition_alike (condition.DefaultTerm k s) o = λ i. Fixes k (TheTerm (default_term (sort_fill σ ρ (told_setting t).program s o i)))
    condition_alike (condition.DefaultExpr k x) o = λ i. Fixes k (TheSimple (default_expr (o.0 i).sort))
    condition_alike (condition.FieldHasSort k f) o = λ i. Fixes k (TheSort (field_sort (told_setting t).program (o.0 i)))
    condition_alike (condition.DeclaredBy k f) o = λ i. fixing k (option_map TheKind (option_and_then (declared_class w t σ) (field_of_term (o.0 i))))
    condition_alike (condition.TypingOf k f h s) o = λ i. fixing k (option_map (λ n. TheFormula (typing ((told_setting t).program.field_type n) (o.1.0 i) (o.1.1.0 i))) (field_of_term (o.0 i)))
    condition_alike (condition.InvariantsOf k c h e) o = λ i. Fixes k (TheFormula (invariant_at (told_setting t) (o.0 i) (o.1.0 i) (o.1.1.0 i)))
    condition_alike (condition.IndexSort a s) o = refl
    condition_alike (condition.IndexSortInTerm u s) o = refl
    condition_alike (condition.EntrySort s) o = refl
    condition_alike (condition.OnlyIndex a) o = refl

    pub conditions_alike : (cs : List Condition) → AllSame σ ρ (all_looked_at cs) → conditions_told w t σ cs ≡ conditions_told w t ρ cs
    conditions_alike [] o = refl
    conditions_alike (c ∷ cs) o = let each = halves σ ρ (looked_at c) (all_looked_at cs) o in λ i. told_with (condition_alike c each.0 i) (conditions_alike cs each.1 i)

-- ---- what is fixed

-- what is told fixes just these variables, if it does not fail
abbrev FixesJust : Told → List Variable → Type 0
FixesJust Fails vs = Unit {0}
FixesJust Stands vs = [] ≡ vs
FixesJust (Fixes k x) vs = (kind_of x, k) ∷ [] ≡ vs

tested_fixes : (b : Bool) → FixesJust (tested b) []
tested_fixes true = refl
tested_fixes false = tt

fixing_fixes : (k : SchemaVar) (K : VarKind) (o : Option Part) → IfSome o (λ x. kind_of x ≡ K) → FixesJust (fixing k o) ((K, k) ∷ [])
fixing_fixes k K None e = tt
fixing_fixes k K (Some x) e = λ i. (e i, k) ∷ []

map_kind : {A : Type 0} (K : VarKind) (f : A → Part) (o : Option A) → ((a : A) → kind_of (f a) ≡ K) → IfSome (option_map f o) (λ x. kind_of x ≡ K)
map_kind K f None e = tt
map_kind K f (Some a) e = e a

then_kind : {A : Type 0} (K : VarKind) (f : A → Option Part) (o : Option A) → ((a : A) → IfSome (f a) (λ x. kind_of x ≡ K)) → IfSome (option_and_then f o) (λ x. kind_of x ≡ K)
then_kind K f None e = tt
then_kind K f (Some a) e = e a

field_tested : (f : ℕ → Bool) (o : Option ℕ) → FixesJust (option_map_or (λ n. tested (f n)) o Fails) []
field_tested f None = tt
field_tested f (Some n) = tested_fixes (f n)

module _ (w : Tests) (t : PlainTask) (σ : Instance) where
  condition_fixes : (c : Condition) → FixesJust (condition_told w t σ c) (fixed_by c)
  condition_fixes (condition.SteadyIn u a) = tested_fixes _
  condition_fixes (condition.NamedFieldTerm f) = tested_fixes _
  condition_fixes (condition.FieldsApart f e) = tested_fixes _
  condition_fixes (condition.AtLeastZero m) = tested_fixes _
  condition_fixes (condition.TermHasSort u s) = tested_fixes _
  condition_fixes (condition.KindBelow d c) = tested_fixes _
  condition_fixes (condition.KindsDiffer d c) = tested_fixes _
  condition_fixes (condition.FieldRefersTo f d) = fixing_fixes d KindKind _ (then_kind KindKind _ (field_of_term (σ.term f)) (λ n. map_kind KindKind TheKind (reference_of ((told_setting t).program.field_type n)) (λ k. refl)))
  condition_fixes (condition.FieldTakes f s) = field_tested _ (field_of_term (σ.term f))
  condition_fixes (condition.Calculated k c) = fixing_fixes k LiteralKind _ (then_kind LiteralKind _ (calculate σ c) (λ z. map_kind LiteralKind TheLiteral (if_fits z) (λ n. refl)))
  condition_fixes (condition.WhetherNumbers k q a c) = fixing_fixes k FormulaKind _ (then_kind FormulaKind _ (calculate σ a) (λ x. map_kind FormulaKind (λ y. TheFormula (truth_formula (passes q x y))) (calculate σ c) (λ y. refl)))
  condition_fixes (condition.WhetherBelow k d c) = refl
  condition_fixes (condition.DefaultTerm k s) = refl
  condition_fixes (condition.DefaultExpr k x) = refl
  condition_fixes (condition.FieldHasSort k f) = refl
  condition_fixes (condition.DeclaredBy k f) = fixing_fixes k KindKind _ (map_kind KindKind TheKind (option_and_then (declared_class w t σ) (field_of_term (σ.term f))) (λ d. refl))
  condition_fixes (condition.TypingOf k f h s) = fixing_fixes k FormulaKind _ (map_kind FormulaKind (λ n. TheFormula (typing ((told_setting t).program.field_type n) (σ.term h) (σ.term s))) (field_of_term (σ.term f)) (λ n. refl))
  condition_fixes (condition.InvariantsOf k c h o) = refl
  condition_fixes (condition.IndexSort a s) = refl
  condition_fixes (condition.IndexSortInTerm u s) = refl
  condition_fixes (condition.EntrySort s) = refl
  condition_fixes (condition.OnlyIndex a) = refl

  with_fixes : (T : Told) (vs us : List Variable) (o : Option Bindings) → FixesJust T vs → IfSome o (λ l. variables_in l ≡ us) → IfSome (told_with T o) (λ l. variables_in l ≡ vs ++ us)
  with_fixes Fails vs us o e f = tt
  with_fixes Stands vs us None e f = tt
  with_fixes Stands vs us (Some τ) e f = f ∙ ap (λ z. z ++ us) e
  with_fixes (Fixes k x) vs us None e f = tt
  with_fixes (Fixes k x) vs us (Some τ) e f = ap (λ z. (kind_of x, k) ∷ z) f ∙ ap (λ z. z ++ us) e

  pub conditions_fix : (cs : List Condition) → IfSome (conditions_told w t σ cs) (λ l. variables_in l ≡ all_fixed cs)
  conditions_fix [] = refl
  conditions_fix (c ∷ cs) = with_fixes (condition_told w t σ c) (fixed_by c) (all_fixed cs) (conditions_told w t σ cs) (condition_fixes c) (conditions_fix cs)

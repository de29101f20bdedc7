-- What a row's conditions tell of bindings: each fails, holds, or says what a further variable stands for. The conditions that hold of each
-- place of a sequent that rules take are not looked at.
use Rattle.std.specs.Prelude.{Bool, List, None, Option, Some, [], ◌∷◌, ℕ, ℤ, cond, int_le, neg_ℤ, not, option_map, pos}
use Rattle.std.specs.Option.{option_and_then, option_map_or}
use Rattle.std.specs.List.{slice_get}
use Rattle.jd_jinfos.specs.Infos.{PlainFieldInfo}
use Rattle.jd_model.specs.Programs.{BooleanType, IntType, ReferenceType, ValueType, field_sort}
use Rattle.jd_model.specs.TermValues.{arithmetic}
use Rattle.jd_model.specs.Runs.{wrap32}
use Rattle.jd_patterns.specs.Bindings.{Bindings, Part, Tests, TheFormula, TheKind, TheLiteral, TheSimple, TheSort, TheTerm}
use Rattle.jd_patterns.specs.Instances.{Instance, of_sort}
use Rattle.jd_patterns.specs.Patterns.{SchemaVar}
use Rattle.jd_syntax.specs.CodeNames.{same_sort}
use Rattle.jd_sequent.specs.Obligations.{PlainTask}
use Rattle.jd_syntax.specs.Codes.{OfClass, PlainKind}
use Rattle.jd_taclet_stages.specs.Steadiness.{is_steady}
use Rattle.jd_taclets.specs.Conditions as condition
use Rattle.jd_taclets.specs.Conditions.{Calculation, Condition, NegationOf, NumberOf, Numeral, Operation, WrapOf, are_apart, default_expr, default_term, fits_literal, invariant_at, is_below, is_named_field, passes, truth_formula, typing}
use Rattle.jd_term.specs.Terms.{PlainTerm, NamedField, sort_of_term}
use Rattle.jd_told_programs.specs.Told.{told_setting}

-- what a condition tells: it fails, it holds, or it holds where the variable stands for the part
pub data Told : Type 0 where
  Fails Stands : Told
  Fixes : SchemaVar → Part → Told

abbrev pub tested : Bool → Told
tested b = cond b Stands Fails

-- the variable's part, where there is one
abbrev pub fixing : SchemaVar → Option Part → Told
fixing k None = Fails
fixing k (Some x) = Fixes k x

-- the bindings that are told together with one condition's
abbrev pub told_with : Told → Option Bindings → Option Bindings
told_with Fails o = None
told_with Stands o = o
told_with (Fixes k x) o = option_map (λ τ. (k, x) ∷ τ) o

-- ---- numbers

-- a number that fits 128 bits
abbrev pub if_fits : ℤ → Option ℤ
if_fits z = cond (fits_literal z) (Some z) None

-- the number, where each step of its calculation fits
abbrev pub calculate : Instance → Calculation → Option ℤ
calculate σ (NumberOf n) = Some (σ.literal n)
calculate σ (Numeral z) = Some z
calculate σ (Operation op a c) = option_and_then (λ x. option_and_then (λ y. if_fits (arithmetic op x y)) (calculate σ c)) (calculate σ a)
calculate σ (NegationOf a) = option_and_then (λ x. if_fits (neg_ℤ x)) (calculate σ a)
calculate σ (WrapOf a) = option_and_then (λ x. Some (wrap32 x)) (calculate σ a)

-- ---- fields and kinds

-- the number of the field, where the term is a named one
abbrev pub field_of_term : PlainTerm → Option ℕ
field_of_term (NamedField f) = Some f
field_of_term t = None

abbrev pub reference_of : ValueType → Option PlainKind
reference_of (ReferenceType k) = Some k
reference_of IntType = None
reference_of BooleanType = None

-- ---- conditions

module _ (w : Tests) (t : PlainTask) (σ : Instance) where
  -- the field that a term is
  abbrev pub declared_class : ℕ → Option PlainKind
  declared_class f = option_map (λ (d : PlainFieldInfo). OfClass d.class) (slice_get t.classes.tables.fields f)

  abbrev pub condition_told : Condition → Told
  condition_told (condition.SteadyIn u a) = tested (is_steady (σ.term u) (σ.formula a))
  condition_told (condition.NamedFieldTerm f) = tested (is_named_field (σ.term f))
  condition_told (condition.FieldsApart f e) = tested (are_apart (σ.term f) (σ.term e))
  condition_told (condition.AtLeastZero m) = tested (int_le (pos 0) (σ.literal m))
  condition_told (condition.TermHasSort u s) = tested (same_sort (sort_of_term (σ.term u)) (of_sort (told_setting t).program σ s))
  condition_told (condition.KindBelow d c) = tested (is_below (told_setting t).program (σ.kind d) (σ.kind c))
  condition_told (condition.KindsDiffer d c) = tested (not (w.kind.same (σ.kind d) (σ.kind c)))
  condition_told (condition.FieldRefersTo f d) = fixing d (option_and_then (λ n. option_map TheKind (reference_of ((told_setting t).program.field_type n))) (field_of_term (σ.term f)))
  condition_told (condition.FieldTakes f s) = option_map_or (λ n. tested (same_sort (sort_of_term (σ.term s)) (field_sort (told_setting t).program n))) (field_of_term (σ.term f)) Fails
  condition_told (condition.Calculated k c) = fixing k (option_and_then (λ z. option_map TheLiteral (if_fits z)) (calculate σ c))
  condition_told (condition.WhetherNumbers k q a c) = fixing k (option_and_then (λ x. option_map (λ y. TheFormula (truth_formula (passes q x y))) (calculate σ c)) (calculate σ a))
  condition_told (condition.WhetherBelow k d c) = Fixes k (TheFormula (truth_formula (is_below (told_setting t).program (σ.kind d) (σ.kind c))))
  condition_told (condition.DefaultTerm k s) = Fixes k (TheTerm (default_term (of_sort (told_setting t).program σ s)))
  condition_told (condition.DefaultExpr k x) = Fixes k (TheSimple (default_expr (σ.name x).sort))
  condition_told (condition.FieldHasSort k f) = Fixes k (TheSort (field_sort (told_setting t).program (σ.field f)))
  condition_told (condition.DeclaredBy k f) = fixing k (option_map TheKind (option_and_then declared_class (field_of_term (σ.term f))))
  condition_told (condition.TypingOf k f h s) = fixing k (option_map (λ n. TheFormula (typing ((told_setting t).program.field_type n) (σ.term h) (σ.term s))) (field_of_term (σ.term f)))
  condition_told (condition.InvariantsOf k c h o) = Fixes k (TheFormula (invariant_at (told_setting t) (σ.kind c) (σ.term h) (σ.term o)))
  condition_told (condition.IndexSort a s) = Stands
  condition_told (condition.IndexSortInTerm u s) = Stands
  condition_told (condition.EntrySort s) = Stands
  condition_told (condition.OnlyIndex a) = Stands

  abbrev pub conditions_told : List Condition → Option Bindings
  conditions_told [] = Some []
  conditions_told (c ∷ cs) = told_with (condition_told c) (conditions_told cs)

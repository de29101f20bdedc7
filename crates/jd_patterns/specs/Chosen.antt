-- The instantiation that bindings choose: each variable has the part that it is bound to, and another a default of its kind.
use Rattle.std.specs.Prelude.{◌≡◌, ◌⊎◌, ◌&&◌, ℕ, ℤ, pos, Bool, cond, nat_eq, List, [], ◌∷◌, Option, Some, None}
use Rattle.jd_base.specs.declared.sort.Sort.{Sort}
use Rattle.jd_base.specs.declared.sort.Sort.TheVariants.{Int as IntSort}
use Rattle.jd_syntax.specs.Names.{Name}
use Rattle.jd_syntax.specs.CodeNames.{heap_name}
use Rattle.jd_syntax.specs.Codes.{PlainKind, IntArray, Expr, NullLiteral, Stmt, ReturnVoid, PlainCode, Done}
use Rattle.jd_term.specs.Terms.{PlainTerm, NullTerm, PlainLoc, NoLocations}
use Rattle.jd_term.specs.Formulas.{PlainFormula, TrueFormula}
use Rattle.jd_term.specs.declared.formula.Modality.{Modality}
use Rattle.jd_term.specs.declared.formula.Modality.TheVariants as modalities
use Rattle.jd_model.specs.Contexts.{Context, Here}
use Rattle.jd_patterns.specs.Patterns.{SchemaVar}
use Rattle.jd_patterns.specs.Instances.{Instance}
use Rattle.jd_patterns.specs.Bindings.{Part, TheFormula, TheTerm, TheLiteral, TheLocations, TheKind, TheSort, TheName, TheResult, TheField, TheClass, TheLabel, TheCode, TheReturn, TheSimple, TheModality, TheContext, Bindings, Tests}
use Rattle.jd_patterns.specs.Variables.{VarKind, FormulaKind, TermKind, LiteralKind, LocKind, KindKind, SortKind, NameKind, ResultKind, FieldKind, ClassKind, LabelKind, CodeKind, ReturnKind, SimpleKind, ModalityKind, ContextKind, Variable}

-- ---- what is bound

abbrev pub kind_of : Part → VarKind
kind_of (TheFormula x) = FormulaKind
kind_of (TheTerm x) = TermKind
kind_of (TheLiteral x) = LiteralKind
kind_of (TheLocations x) = LocKind
kind_of (TheKind x) = KindKind
kind_of (TheSort x) = SortKind
kind_of (TheName x) = NameKind
kind_of (TheResult x) = ResultKind
kind_of (TheField x) = FieldKind
kind_of (TheClass x) = ClassKind
kind_of (TheLabel x) = LabelKind
kind_of (TheCode x) = CodeKind
kind_of (TheReturn x) = ReturnKind
kind_of (TheSimple x) = SimpleKind
kind_of (TheModality x) = ModalityKind
kind_of (TheContext x) = ContextKind

-- the variable has a part of its kind
abbrev pub IsBound : Variable → Bindings → Type 0
IsBound v [] = ⊥
IsBound v (e ∷ τ) = ((kind_of e.1 ≡ v.0) × (e.0 ≡ v.1)) ⊎ IsBound v τ

abbrev pub AllBound : List Variable → Bindings → Type 0
AllBound [] τ = Unit {0}
AllBound (v ∷ vs) τ = IsBound v τ × AllBound vs τ

-- ---- the part of a variable

abbrev pub number_of : VarKind → ℕ
number_of FormulaKind = 0
number_of TermKind = 1
number_of LiteralKind = 2
number_of LocKind = 3
number_of KindKind = 4
number_of SortKind = 5
number_of NameKind = 6
number_of ResultKind = 7
number_of FieldKind = 8
number_of ClassKind = 9
number_of LabelKind = 10
number_of CodeKind = 11
number_of ReturnKind = 12
number_of SimpleKind = 13
number_of ModalityKind = 14
number_of ContextKind = 15

module _ (w : Tests) where
  -- the binding is one of the variable
  abbrev pub is_of : Variable → SchemaVar × Part → Bool
  is_of v e = nat_eq (number_of (kind_of e.1)) (number_of v.0) && w.variable.same e.0 v.1

  -- the first part that the variable is bound to
  abbrev pub bound_to : Variable → Bindings → Option Part
  bound_to v [] = None
  bound_to v (e ∷ τ) = cond (is_of v e) (Some e.1) (bound_to v τ)

  -- no variable is bound twice
  abbrev pub BoundOnce : Bindings → Type 0
  BoundOnce [] = Unit {0}
  BoundOnce (e ∷ τ) = (bound_to (kind_of e.1, e.0) τ ≡ None) × BoundOnce τ

-- ---- as a part of each kind

abbrev pub as_formula : Option Part → PlainFormula
as_formula (Some (TheFormula x)) = x
as_formula o = TrueFormula

abbrev pub as_term : Option Part → PlainTerm
as_term (Some (TheTerm x)) = x
as_term o = NullTerm

abbrev pub as_literal : Option Part → ℤ
as_literal (Some (TheLiteral x)) = x
as_literal o = pos 0

abbrev pub as_locations : Option Part → PlainLoc
as_locations (Some (TheLocations x)) = x
as_locations o = NoLocations

abbrev pub as_kind : Option Part → PlainKind
as_kind (Some (TheKind x)) = x
as_kind o = IntArray

abbrev pub as_sort : Option Part → Sort
as_sort (Some (TheSort x)) = x
as_sort o = IntSort

abbrev pub as_name : Option Part → Name
as_name (Some (TheName x)) = x
as_name o = heap_name

abbrev pub as_result : Option Part → Option Name
as_result (Some (TheResult x)) = x
as_result o = None

abbrev pub as_field : Option Part → ℕ
as_field (Some (TheField x)) = x
as_field o = 0

abbrev pub as_class : Option Part → ℕ
as_class (Some (TheClass x)) = x
as_class o = 0

abbrev pub as_label : Option Part → ℕ
as_label (Some (TheLabel x)) = x
as_label o = 0

abbrev pub as_code : Option Part → PlainCode
as_code (Some (TheCode x)) = x
as_code o = Done

abbrev pub as_return : Option Part → Stmt
as_return (Some (TheReturn x)) = x
as_return o = ReturnVoid

abbrev pub as_simple : Option Part → Expr
as_simple (Some (TheSimple x)) = x
as_simple o = NullLiteral

abbrev pub as_modality : Option Part → Modality
as_modality (Some (TheModality x)) = x
as_modality o = modalities.Necessity

abbrev pub as_context : Option Part → Context
as_context (Some (TheContext x)) = x
as_context o = Here Done

-- the instantiation that the bindings choose
abbrev pub chosen : Tests → Bindings → Instance
chosen w τ = record {
  formula = λ n. as_formula (bound_to w (FormulaKind, n) τ);
  term = λ n. as_term (bound_to w (TermKind, n) τ);
  literal = λ n. as_literal (bound_to w (LiteralKind, n) τ);
  locations = λ n. as_locations (bound_to w (LocKind, n) τ);
  kind = λ n. as_kind (bound_to w (KindKind, n) τ);
  sort = λ n. as_sort (bound_to w (SortKind, n) τ);
  name = λ n. as_name (bound_to w (NameKind, n) τ);
  result = λ n. as_result (bound_to w (ResultKind, n) τ);
  field = λ n. as_field (bound_to w (FieldKind, n) τ);
  class = λ n. as_class (bound_to w (ClassKind, n) τ);
  label = λ n. as_label (bound_to w (LabelKind, n) τ);
  code = λ n. as_code (bound_to w (CodeKind, n) τ);
  returned = λ n. as_return (bound_to w (ReturnKind, n) τ);
  simple = λ n. as_simple (bound_to w (SimpleKind, n) τ);
  modality = λ n. as_modality (bound_to w (ModalityKind, n) τ);
  context = λ n. as_context (bound_to w (ContextKind, n) τ);
}

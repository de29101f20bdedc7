-- What heads make of their parts.
use Rattle.std.specs.Prelude.{List, ◌∷◌, Option, option_map}
use Rattle.std.specs.Option.{option_and_then}
use Rattle.std.specs.Global.{Box}
use Rattle.jd_base.specs.declared.sort.Sort.{Sort}
use Rattle.jd_syntax.specs.Codes.{PlainKind}
use Rattle.jd_term.specs.Formulas as formulas
use Rattle.jd_term.specs.Formulas.{PlainFormula, formula_view}
use Rattle.jd_term.specs.Terms.{PlainTerm}
use Rattle.jd_term.specs.declared.formula.Formula.{Formula}
use Rattle.jd_tforms.specs.Reading.{Read}
use Rattle.jd_tforms.specs.declared.heads.FormulaHead.{FormulaHead}
use Rattle.jd_tforms.specs.declared.heads.FormulaHead.TheVariants as heads

abbrev pub boxed_view : Box Formula → PlainFormula
boxed_view b = formula_view b.value

-- of heads with two formulas
abbrev pub two_formulas : FormulaHead → PlainFormula → PlainFormula → PlainFormula
two_formulas heads.And a b = formulas.And a b
two_formulas heads.Or a b = formulas.Or a b
two_formulas heads.Implies a b = formulas.Implies a b
two_formulas h a b = formulas.Iff a b

-- with a binder
abbrev pub bound : FormulaHead → Sort → PlainFormula → PlainFormula
bound heads.Forall s a = formulas.Forall s a
bound h s a = formulas.Exists s a

-- the same, where there is a sort
abbrev pub below : FormulaHead → List Sort → Option Sort → Read → Option PlainFormula
below h ctx sort a = option_and_then (λ s. option_map (bound h s) (a.formula (s ∷ ctx))) sort

-- with two terms
abbrev pub two_terms : FormulaHead → PlainTerm → PlainTerm → PlainFormula
two_terms heads.Equal a b = formulas.Equal a b
two_terms heads.Less a b = formulas.Less a b
two_terms heads.LessOrEqual a b = formulas.LessOrEqual a b
two_terms h a b = formulas.Invariant a b

-- with one
abbrev pub one_term : FormulaHead → PlainTerm → PlainFormula
one_term heads.InInt a = formulas.InInt a
one_term h a = formulas.WellFormed a

-- with a kind and a term
abbrev pub of_kind : FormulaHead → PlainKind → PlainTerm → PlainFormula
of_kind heads.Instance k a = formulas.IsInstance k a
of_kind h k a = formulas.IsExactInstance k a

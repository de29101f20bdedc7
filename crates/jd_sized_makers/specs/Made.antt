-- What was made, with its size.
use Rattle.std.specs.Prelude.{◌≡◌, ◌-◌, ◌^◌, ℕ, Bool, true, false, min}
use Rattle.jd_base.specs.declared.sort.Sort.{Sort}
use Rattle.jd_syntax.specs.declared.spec.Quantifier.{Quantifier}
use Rattle.jd_syntax.specs.declared.spec.Quantifier.TheVariants as quantifiers
use Rattle.jd_term.specs.Formulas as formulas
use Rattle.jd_term.specs.Formulas.{PlainFormula}
use Rattle.jd_term.specs.FormulaSizes.{formula_size}
use Rattle.jd_term.specs.Makers.{GivesFormula, GivesTerm}
use Rattle.jd_term.specs.Terms as terms
use Rattle.jd_term.specs.Terms.{PlainTerm}
use Rattle.jd_term.specs.TermSizes.{term_size}
use Rattle.jd_sized_makers.specs.declared.formulas.Comparison.{Comparison}
use Rattle.jd_sized_makers.specs.declared.formulas.Comparison.TheVariants as comparisons
use Rattle.jd_sized_makers.specs.declared.formulas.Connective.{Connective}
use Rattle.jd_sized_makers.specs.declared.formulas.Connective.TheVariants as connectives
use Rattle.jd_sized_makers.specs.declared.formulas.MadeFormula.{MadeFormula}
use Rattle.jd_sized_makers.specs.declared.terms.MadeTerm.{MadeTerm}
use Rattle.jd_sized_makers.specs.declared.terms.OnePart.{OnePart}
use Rattle.jd_sized_makers.specs.declared.terms.OnePart.TheVariants as parts

-- the number, or the greatest of 64 bits
abbrev pub capped : ℕ → ℕ
capped n = min n (2 ^ 64 - 1)

-- this tree was made, if memory sufficed, and its size is known in either case
pub record IsTerm (m : MadeTerm) (x : PlainTerm) : Type 0 where
  pub made : GivesTerm m.tree x
  pub counted : m.size ≡ capped (term_size x)

pub record IsFormula (m : MadeFormula) (x : PlainFormula) : Type 0 where
  pub made : GivesFormula m.tree x
  pub counted : m.size ≡ capped (formula_size x)

-- ---- forms

abbrev pub of_one : OnePart → PlainTerm → PlainTerm
of_one parts.Negation x = terms.Negation x
of_one parts.Length x = terms.Length x
of_one parts.Element x = terms.ElementField x

abbrev pub truth_formula : Bool → PlainFormula
truth_formula true = formulas.TrueFormula
truth_formula false = formulas.FalseFormula

abbrev pub connecting : Connective → PlainFormula → PlainFormula → PlainFormula
connecting connectives.And x y = formulas.And x y
connecting connectives.Or x y = formulas.Or x y
connecting connectives.Implies x y = formulas.Implies x y
connecting connectives.Iff x y = formulas.Iff x y

abbrev pub comparing : Comparison → PlainTerm → PlainTerm → PlainFormula
comparing comparisons.Equal x y = formulas.Equal x y
comparing comparisons.Less x y = formulas.Less x y
comparing comparisons.LessOrEqual x y = formulas.LessOrEqual x y
comparing comparisons.Invariant x y = formulas.Invariant x y

abbrev pub bound_by : Quantifier → Sort → PlainFormula → PlainFormula
bound_by quantifiers.ForAll s x = formulas.Forall s x
bound_by quantifiers.Exists s x = formulas.Exists s x

-- Sizes of wholes.
use Rattle.std.proofs.Common.{◌≡◌, ◌+◌, ◌-◌, ◌^◌, ℕ, min, refl, sym, ap, ◌∙◌, arith}
use Rattle.jd_base.specs.declared.sort.Sort.{Sort}
use Rattle.jd_syntax.specs.declared.spec.Quantifier.{Quantifier}
use Rattle.jd_syntax.specs.declared.spec.Quantifier.TheVariants as quantifiers
use Rattle.jd_term.specs.Formulas.{PlainFormula}
use Rattle.jd_term.specs.FormulaSizes.{formula_size}
use Rattle.jd_term.specs.Makers.{GivesFormula, GivesTerm, IsLeaf}
use Rattle.jd_term.specs.Terms as terms
use Rattle.jd_term.specs.Terms.{PlainTerm}
use Rattle.jd_term.specs.TermSizes.{term_size}
use Rattle.jd_sized_makers.specs.declared.formulas.Comparison.{Comparison}
use Rattle.jd_sized_makers.specs.declared.formulas.Comparison.TheVariants as comparisons
use Rattle.jd_sized_makers.specs.declared.formulas.Connective.{Connective}
use Rattle.jd_sized_makers.specs.declared.formulas.Connective.TheVariants as connectives
use Rattle.jd_sized_makers.specs.declared.formulas.MadeFormula.{MadeFormula}
use Rattle.jd_sized_makers.specs.declared.terms.MadeTerm.{MadeTerm}
use Rattle.jd_sized_makers.specs.declared.terms.OnePart.{OnePart}
use Rattle.jd_sized_makers.specs.declared.terms.OnePart.TheVariants as parts
use Rattle.jd_sized_makers.specs.Made.{IsFormula, IsTerm, bound_by, capped, comparing, connecting, of_one}

-- ---- sums, of which each is at most the greatest number

pub one_over : (m a : ℕ) → a ≡ capped m → min (a + 1) (2 ^ 64 - 1) ≡ capped (1 + m)
one_over m a is = omega (arith, is)

pub two_over : (m n a b : ℕ) → a ≡ capped m → b ≡ capped n → min (min (a + b) (2 ^ 64 - 1) + 1) (2 ^ 64 - 1) ≡ capped (1 + (m + n))
two_over m n a b one other = omega (arith, one, other)

pub three_over : (m n k a b c : ℕ) → a ≡ capped m → b ≡ capped n → c ≡ capped k → min (min (min (a + b) (2 ^ 64 - 1) + c) (2 ^ 64 - 1) + 1) (2 ^ 64 - 1) ≡ capped (1 + ((m + n) + k))
three_over m n k a b c one other third = omega (arith, one, other, third)

-- ---- sizes by form

pub leaf_size : (x : PlainTerm) → IsLeaf x → 1 ≡ capped (term_size x)
leaf_size (terms.Number n) leaf = refl
leaf_size (terms.Boolean b) leaf = refl
leaf_size terms.NullTerm leaf = refl
leaf_size (terms.ProgramVariable x) leaf = refl
leaf_size (terms.Constant c) leaf = refl
leaf_size (terms.Bound i s) leaf = refl
leaf_size (terms.NamedField f) leaf = refl
leaf_size terms.CreatedField leaf = refl
leaf_size x leaf = absurd leaf

pub one_size : (form : OnePart) (x : PlainTerm) → term_size (of_one form x) ≡ 1 + term_size x
one_size parts.Negation x = refl
one_size parts.Length x = refl
one_size parts.Element x = refl

pub connecting_size : (form : Connective) (x y : PlainFormula) → formula_size (connecting form x y) ≡ 1 + (formula_size x + formula_size y)
connecting_size connectives.And x y = refl
connecting_size connectives.Or x y = refl
connecting_size connectives.Implies x y = refl
connecting_size connectives.Iff x y = refl

pub comparing_size : (form : Comparison) (x y : PlainTerm) → formula_size (comparing form x y) ≡ 1 + (term_size x + term_size y)
comparing_size comparisons.Equal x y = refl
comparing_size comparisons.Less x y = refl
comparing_size comparisons.LessOrEqual x y = refl
comparing_size comparisons.Invariant x y = refl

pub bound_size : (q : Quantifier) (s : Sort) (x : PlainFormula) → formula_size (bound_by q s x) ≡ 1 + formula_size x
bound_size quantifiers.ForAll s x = refl
bound_size quantifiers.Exists s x = refl

-- ---- wholes

pub term_made : (m : MadeTerm) (x : PlainTerm) (n : ℕ) → GivesTerm m.tree x → m.size ≡ capped n → term_size x ≡ n → IsTerm m x
term_made m x n made counted is = record { made = made; counted = counted ∙ sym (ap capped is) }

pub formula_made : (m : MadeFormula) (x : PlainFormula) (n : ℕ) → GivesFormula m.tree x → m.size ≡ capped n → formula_size x ≡ n → IsFormula m x
formula_made m x n made counted is = record { made = made; counted = counted ∙ sym (ap capped is) }

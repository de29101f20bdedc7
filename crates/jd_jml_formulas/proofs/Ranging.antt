-- What bound variables are given to be.
use Rattle.std.proofs.Common.{◌≡◌, refl, sym, subst}
use Rattle.jd_base.specs.declared.sort.Sort.TheVariants as sorts
use Rattle.jd_syntax.specs.Codes.{PlainKind}
use Rattle.jd_syntax.specs.declared.spec.Quantifier.{Quantifier}
use Rattle.jd_syntax.specs.declared.spec.Quantifier.TheVariants as quantifiers
use Rattle.jd_term.specs.Formulas as formulas
use Rattle.jd_term.specs.Formulas.{PlainFormula}
use Rattle.jd_term.specs.Terms as terms
use Rattle.jd_term.specs.Terms.{PlainTerm}
use Rattle.jd_model.specs.Conjunctions.{created_at}
use Rattle.jd_jml_meaning.specs.Resolved.{OverInt, OverBigint, OverBoolean, OverReference}
use Rattle.jd_sized_makers.specs.Made.{IsFormula}
use Rattle.jd_sized_makers.specs.declared.formulas.MadeFormula.{MadeFormula}
use Rattle.jd_jml_known.specs.Members.{over_view}
use Rattle.jd_jml_known.specs.declared.types.Over.{Over}
use Rattle.jd_jml_formulas.specs.Meant.{given, ranged}

pub given_int : (q : Quantifier) (h : PlainTerm) (a : PlainFormula) → ranged q (formulas.InInt (terms.Bound 0 sorts.Int)) a ≡ given q OverInt h a
given_int quantifiers.ForAll h a = refl
given_int quantifiers.Exists h a = refl

pub given_bigint : (q : Quantifier) (h : PlainTerm) (a : PlainFormula) → a ≡ given q OverBigint h a
given_bigint quantifiers.ForAll h a = refl
given_bigint quantifiers.Exists h a = refl

pub given_boolean : (q : Quantifier) (h : PlainTerm) (a : PlainFormula) → a ≡ given q OverBoolean h a
given_boolean quantifiers.ForAll h a = refl
given_boolean quantifiers.Exists h a = refl

pub given_reference : (q : Quantifier) (k : PlainKind) (h : PlainTerm) (a : PlainFormula) → ranged q (formulas.And (formulas.IsInstance k (terms.Bound 0 sorts.Ref)) (created_at h (terms.Bound 0 sorts.Ref))) a ≡ given q (OverReference k) h a
given_reference quantifiers.ForAll k h a = refl
given_reference quantifiers.Exists k h a = refl

pub given_as : (m : MadeFormula) (q : Quantifier) (o u : Over) (h : PlainTerm) (x y : PlainFormula) → o ≡ u → y ≡ given q (over_view u) h x → IsFormula m y → IsFormula m (given q (over_view o) h x)
given_as m q o u h x y is stands made = subst (λ v. IsFormula m (given q (over_view v) h x)) (sym is) (subst (λ z. IsFormula m z) stands made)

-- The form of a pattern with these parts; of a form that has other parts, one that has them.
use Rattle.jd_base.specs.declared.sort.Sort.{Sort}
use Rattle.jd_syntax.specs.Codes.{PlainKind}
use Rattle.jd_term.specs.Formulas.{PlainFormula, Exists, WellFormed, IsExactInstance}
use Rattle.jd_term.specs.Terms.{PlainTerm, ElementField, PlainLoc, ArrayElements}
use Rattle.jd_patterns.specs.Patterns.{TermPattern, OnePart, LocPattern, OfObject, FormulaPattern, Quantified, Tested, Classed}
use Rattle.jd_patterns.specs.Instances.{one_part, of_object, quantified, tested, classed}

abbrev pub with_term_head : TermPattern → PlainTerm → PlainTerm
with_term_head (OnePart h t) x = one_part h x
with_term_head t x = ElementField x

abbrev pub with_loc_head : LocPattern → PlainTerm → PlainLoc
with_loc_head (OfObject h o) x = of_object h x
with_loc_head l x = ArrayElements x

abbrev pub with_quantifier : FormulaPattern → Sort → PlainFormula → PlainFormula
with_quantifier (Quantified h s p) k a = quantified h k a
with_quantifier p k a = Exists k a

abbrev pub with_test_head : FormulaPattern → PlainTerm → PlainFormula
with_test_head (Tested h t) x = tested h x
with_test_head p x = WellFormed x

abbrev pub with_class_head : FormulaPattern → PlainKind → PlainTerm → PlainFormula
with_class_head (Classed h k o) j x = classed h j x
with_class_head p j x = IsExactInstance j x

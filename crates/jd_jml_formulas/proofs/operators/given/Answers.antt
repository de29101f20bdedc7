use Rattle.jd_syntax.specs.CodeViews.{kind_view}
use Rattle.jd_jml_known.specs.declared.types.Over.TheVariants as ranges
use Rattle.jd_jml_formulas.proofs.Ranging.{given_as, given_bigint, given_boolean, given_int, given_reference}
use Rattle.jd_jml_formulas.proofs.operators.given.Goals as goal

pub returns-in-Int : goal.returns-in-Int
returns-in-Int c = λ h x is made. given_as c.ranged.result c.args.quantifier c.args.over ranges.Int h x _ c.in-Int.is (given_int c.args.quantifier h x) (c.ranged.ensures _ _ (c.in_int.ensures _ c.bound_variable.ensures) made)

pub returns-in-Bigint : goal.returns-in-Bigint
returns-in-Bigint c = λ h x is made. given_as c.args.a c.args.quantifier c.args.over ranges.Bigint h x _ c.in-Bigint.is (given_bigint c.args.quantifier h x) made

pub returns-in-Boolean : goal.returns-in-Boolean
returns-in-Boolean c = λ h x is made. given_as c.args.a c.args.quantifier c.args.over ranges.Boolean h x _ c.in-Boolean.is (given_boolean c.args.quantifier h x) made

pub returns-in-Reference : goal.returns-in-Reference
returns-in-Reference c = λ h x is made. given_as c.ranged-in-Reference.result c.args.quantifier c.args.over (ranges.Reference c.in-Reference.kind) h x _ c.in-Reference.is (given_reference c.args.quantifier (kind_view c.in-Reference.kind) h x) (c.ranged-in-Reference.ensures _ _ (c.bound_instance.ensures h is) made)

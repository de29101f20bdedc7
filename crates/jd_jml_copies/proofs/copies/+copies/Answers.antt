use Rattle.std.proofs.Common.{map}
use Rattle.jd_syntax.specs.JavaTypes.{identifier_view, written_view}
use Rattle.jd_syntax.specs.SpecTrees.{spec_type_view, spec_view}
use Rattle.jd_jml_copies.proofs.Viewed.{copied, is_call, is_cast, is_conditional, is_equivalent, is_field, is_implies, is_index, is_infix, is_instance_of, is_method_call, is_quantified, is_quantified_in, is_sum}
use Rattle.jd_jml_copies.proofs.copies.+copies.Goals as goal

pub copy_expression-returns-in-Field : goal.copy_expression-returns-in-Field
copy_expression-returns-in-Field t c =
    copied c.field.result c.args.e.now _ (c.field.ensures (spec_view c.deref-in-Field.result.now) (identifier_view c.in-Field.x) c.copy_expression.ensures c.copy_identifier.ensures) (is_field c.args.e.now _ _ c.deref-in-Field.result.now c.in-Field.is c.deref-in-Field.ensures)

pub copy_expression-returns-in-Call : goal.copy_expression-returns-in-Call
copy_expression-returns-in-Call t c =
    copied c.call.result c.args.e.now _ (c.call.ensures c.deref-in-Call.result.now (map spec_view c.deref-in-Call-2.result.now) c.copy_bytes-in-Call.ensures c.copy_expressions.ensures) (is_call c.args.e.now _ _ c.deref-in-Call.result.now c.deref-in-Call-2.result.now c.in-Call.is c.deref-in-Call.ensures.value c.deref-in-Call-2.ensures.value)

pub copy_expression-returns-in-MethodCall : goal.copy_expression-returns-in-MethodCall
copy_expression-returns-in-MethodCall t c =
    copied c.method_call.result c.args.e.now _ (c.method_call.ensures (spec_view c.deref-in-MethodCall.result.now) (identifier_view c.in-MethodCall.m) (map spec_view c.deref-in-MethodCall-2.result.now) c.copy_expression-in-MethodCall.ensures c.copy_identifier-in-MethodCall.ensures c.copy_expressions-in-MethodCall.ensures) (is_method_call c.args.e.now _ _ _ c.deref-in-MethodCall.result.now c.deref-in-MethodCall-2.result.now c.in-MethodCall.is c.deref-in-MethodCall.ensures c.deref-in-MethodCall-2.ensures.value)

pub copy_expression-returns-in-Index : goal.copy_expression-returns-in-Index
copy_expression-returns-in-Index t c =
    copied c.index.result c.args.e.now _ (c.index.ensures (spec_view c.deref-in-Index.result.now) (spec_view c.deref-in-Index-2.result.now) c.copy_expression-in-Index.ensures c.copy_expression-in-Index-2.ensures) (is_index c.args.e.now _ _ c.deref-in-Index.result.now c.deref-in-Index-2.result.now c.in-Index.is c.deref-in-Index.ensures c.deref-in-Index-2.ensures)

pub copy_expression-returns-in-Cast : goal.copy_expression-returns-in-Cast
copy_expression-returns-in-Cast t c =
    copied c.cast.result c.args.e.now _ (c.cast.ensures (written_view c.in-Cast.t) (spec_view c.deref-in-Cast.result.now) c.copy_written.ensures c.copy_expression-in-Cast.ensures) (is_cast c.args.e.now _ _ c.deref-in-Cast.result.now c.in-Cast.is c.deref-in-Cast.ensures)

pub copy_expression-returns-in-Infix : goal.copy_expression-returns-in-Infix
copy_expression-returns-in-Infix t c =
    copied c.infix.result c.args.e.now _ (c.infix.ensures (spec_view c.deref-in-Infix.result.now) (spec_view c.deref-in-Infix-2.result.now) c.copy_expression-in-Infix.ensures c.copy_expression-in-Infix-2.ensures) (is_infix c.args.e.now _ _ _ c.deref-in-Infix.result.now c.deref-in-Infix-2.result.now c.in-Infix.is c.deref-in-Infix.ensures c.deref-in-Infix-2.ensures)

pub copy_expression-returns-in-InstanceOf : goal.copy_expression-returns-in-InstanceOf
copy_expression-returns-in-InstanceOf t c =
    copied c.instance_of.result c.args.e.now _ (c.instance_of.ensures (spec_view c.deref-in-InstanceOf.result.now) (written_view c.in-InstanceOf.t) c.copy_expression-in-InstanceOf.ensures c.copy_written-in-InstanceOf.ensures) (is_instance_of c.args.e.now _ _ c.deref-in-InstanceOf.result.now c.in-InstanceOf.is c.deref-in-InstanceOf.ensures)

pub copy_expression-returns-in-Conditional : goal.copy_expression-returns-in-Conditional
copy_expression-returns-in-Conditional t c =
    copied c.conditional.result c.args.e.now _ (c.conditional.ensures (spec_view c.deref-in-Conditional.result.now) (spec_view c.deref-in-Conditional-2.result.now) (spec_view c.deref-in-Conditional-3.result.now) c.copy_expression-in-Conditional.ensures c.copy_expression-in-Conditional-2.ensures c.copy_expression-in-Conditional-3.ensures) (is_conditional c.args.e.now _ _ _ c.deref-in-Conditional.result.now c.deref-in-Conditional-2.result.now c.deref-in-Conditional-3.result.now c.in-Conditional.is c.deref-in-Conditional.ensures c.deref-in-Conditional-2.ensures c.deref-in-Conditional-3.ensures)

pub copy_expression-returns-in-Implies : goal.copy_expression-returns-in-Implies
copy_expression-returns-in-Implies t c =
    copied c.implies.result c.args.e.now _ (c.implies.ensures (spec_view c.deref-in-Implies.result.now) (spec_view c.deref-in-Implies-2.result.now) c.copy_expression-in-Implies.ensures c.copy_expression-in-Implies-2.ensures) (is_implies c.args.e.now _ _ c.deref-in-Implies.result.now c.deref-in-Implies-2.result.now c.in-Implies.is c.deref-in-Implies.ensures c.deref-in-Implies-2.ensures)

pub copy_expression-returns-in-Equivalent : goal.copy_expression-returns-in-Equivalent
copy_expression-returns-in-Equivalent t c =
    copied c.equivalent.result c.args.e.now _ (c.equivalent.ensures (spec_view c.deref-in-Equivalent.result.now) (spec_view c.deref-in-Equivalent-2.result.now) c.copy_expression-in-Equivalent.ensures c.copy_expression-in-Equivalent-2.ensures) (is_equivalent c.args.e.now _ _ c.deref-in-Equivalent.result.now c.deref-in-Equivalent-2.result.now c.in-Equivalent.is c.deref-in-Equivalent.ensures c.deref-in-Equivalent-2.ensures)

pub copy_expression-returns-in-Quantified : goal.copy_expression-returns-in-Quantified
copy_expression-returns-in-Quantified t c =
    copied c.quantified.result c.args.e.now _ (c.quantified.ensures (spec_type_view c.in-Quantified.t) (identifier_view c.in-Quantified.x) (spec_view c.deref-in-Quantified.result.now) c.copy_bound.ensures c.copy_expression-in-Quantified.ensures) (is_quantified c.args.e.now _ _ _ _ c.deref-in-Quantified.result.now c.in-Quantified.is c.deref-in-Quantified.ensures)

pub copy_expression-returns-in-QuantifiedIn : goal.copy_expression-returns-in-QuantifiedIn
copy_expression-returns-in-QuantifiedIn t c =
    copied c.quantified_in.result c.args.e.now _ (c.quantified_in.ensures (spec_type_view c.in-QuantifiedIn.t) (identifier_view c.in-QuantifiedIn.x) (spec_view c.deref-in-QuantifiedIn.result.now) (spec_view c.deref-in-QuantifiedIn-2.result.now) c.copy_bound-in-QuantifiedIn.ensures c.copy_expression-in-QuantifiedIn.ensures c.copy_expression-in-QuantifiedIn-2.ensures) (is_quantified_in c.args.e.now _ _ _ _ _ c.deref-in-QuantifiedIn.result.now c.deref-in-QuantifiedIn-2.result.now c.in-QuantifiedIn.is c.deref-in-QuantifiedIn.ensures c.deref-in-QuantifiedIn-2.ensures)

pub copy_expression-returns-in-Sum : goal.copy_expression-returns-in-Sum
copy_expression-returns-in-Sum t c =
    copied c.sum.result c.args.e.now _ (c.sum.ensures (identifier_view c.in-Sum.x) (spec_view c.deref-in-Sum.result.now) (spec_view c.deref-in-Sum-2.result.now) (spec_view c.deref-in-Sum-3.result.now) c.copy_identifier-in-Sum.ensures c.copy_expression-in-Sum.ensures c.copy_expression-in-Sum-2.ensures c.copy_expression-in-Sum-3.ensures) (is_sum c.args.e.now _ _ _ _ c.deref-in-Sum.result.now c.deref-in-Sum-2.result.now c.deref-in-Sum-3.result.now c.in-Sum.is c.deref-in-Sum.ensures c.deref-in-Sum-2.ensures c.deref-in-Sum-3.ensures)

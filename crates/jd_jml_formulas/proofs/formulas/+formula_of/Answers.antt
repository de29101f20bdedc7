use Rattle.std.proofs.Common.{ap, refl, sym, ◌∙◌}
use Rattle.jd_syntax.specs.CodeViews.{kind_view}
use Rattle.jd_syntax.specs.JavaTypes.{identifier_view, written_view}
use Rattle.jd_syntax.specs.SpecTrees as trees
use Rattle.jd_syntax.specs.SpecTrees.{spec_type_view, spec_view}
use Rattle.jd_syntax.specs.declared.spec.SpecPrefix.TheVariants as prefixes
use Rattle.jd_specifications.specs.Resolution.{static_type}
use Rattle.jd_jml_known.specs.Members.{over_view}
use Rattle.jd_jml_known.specs.Scopes.{visible}
use Rattle.jd_jml_formulas.specs.declared.operators.Operands.TheVariants as operands
use Rattle.jd_jml_formulas.specs.Spellings.{spelling_view, when_view}
use Rattle.jd_jml_formulas.proofs.Told.{field_told, formula_told, infix_told, instance_told, name_told, quantified_told, ranged_told, truth_told, value_told}
use Rattle.jd_jml_formulas.proofs.Viewed.{is_boolean, is_call, is_cast, is_conditional, is_equivalent, is_field, is_fresh, is_implies, is_index, is_infix, is_instance_of, is_integer, is_invariant_for, is_method_call, is_name, is_null, is_old, is_parenthesized, is_prefix, is_quantified, is_quantified_in, is_result, is_sum, is_this}
use Rattle.jd_jml_formulas.proofs.formulas.+formula_of.Goals as goal

pub returns-in-Implies : goal.returns-in-Implies
returns-in-Implies g t c = λ p h. formula_told p (g.D.Declares.declarations c.args.m.now.sight.declared.now) c.args.m.now.sight.class c.args.m.now.sight.result (spelling_view c.args.m.now.spelled.now) (when_view c.args.t) (visible c.args.names.now) c.connected.result (spec_view c.args.e.now) (trees.Implies c.args.e.now.at (spec_view c.deref-in-Implies.result.now) (spec_view c.deref-in-Implies-2.result.now)) (is_implies c.args.e.now _ _ c.deref-in-Implies.result.now c.deref-in-Implies-2.result.now c.in-Implies.is c.deref-in-Implies.ensures c.deref-in-Implies-2.ensures) (c.connected.ensures _ _ (c.formula_of-first-in-Implies.ensures p h) (c.formula_of-in-Implies.ensures p h))

pub returns-in-Equivalent : goal.returns-in-Equivalent
returns-in-Equivalent g t c = λ p h. formula_told p (g.D.Declares.declarations c.args.m.now.sight.declared.now) c.args.m.now.sight.class c.args.m.now.sight.result (spelling_view c.args.m.now.spelled.now) (when_view c.args.t) (visible c.args.names.now) c.connected-in-Equivalent.result (spec_view c.args.e.now) (trees.Equivalent c.args.e.now.at (spec_view c.deref-in-Equivalent.result.now) (spec_view c.deref-in-Equivalent-2.result.now)) (is_equivalent c.args.e.now _ _ c.deref-in-Equivalent.result.now c.deref-in-Equivalent-2.result.now c.in-Equivalent.is c.deref-in-Equivalent.ensures c.deref-in-Equivalent-2.ensures) (c.connected-in-Equivalent.ensures _ _ (c.formula_of-first-in-Equivalent.ensures p h) (c.formula_of-in-Equivalent.ensures p h))

pub returns-in-Conditional : goal.returns-in-Conditional
returns-in-Conditional g t c = λ p h. formula_told p (g.D.Declares.declarations c.args.m.now.sight.declared.now) c.args.m.now.sight.class c.args.m.now.sight.result (spelling_view c.args.m.now.spelled.now) (when_view c.args.t) (visible c.args.names.now) c.choice.result (spec_view c.args.e.now) (trees.Conditional c.args.e.now.at (spec_view c.deref-in-Conditional.result.now) (spec_view c.deref-in-Conditional-2.result.now) (spec_view c.deref-in-Conditional-3.result.now)) (is_conditional c.args.e.now _ _ _ c.deref-in-Conditional.result.now c.deref-in-Conditional-2.result.now c.deref-in-Conditional-3.result.now c.in-Conditional.is c.deref-in-Conditional.ensures c.deref-in-Conditional-2.ensures c.deref-in-Conditional-3.ensures) (c.choice.ensures _ _ _ (c.formula_of-condition.ensures p h) (c.formula_of-first-in-Conditional.ensures p h) (c.formula_of-in-Conditional.ensures p h))

pub returns-in-Quantified : goal.returns-in-Quantified
returns-in-Quantified g t c = λ p h. quantified_told p (g.D.Declares.declarations c.args.m.now.sight.declared.now) c.args.m.now.sight.class c.args.m.now.sight.result (spelling_view c.args.m.now.spelled.now) (when_view c.args.t) (visible c.args.names.now) c.quantified.result (spec_view c.args.e.now) (spec_view c.deref-in-Quantified.result.now) c.args.e.now.at c.in-Quantified.q (spec_type_view c.in-Quantified.u) (identifier_view c.in-Quantified.x) (visible c.bound-inner.result) c.bound_value.result (over_view c.over_type-over.result) (is_quantified c.args.e.now _ _ _ _ c.deref-in-Quantified.result.now c.in-Quantified.is c.deref-in-Quantified.ensures) c.bound-inner.ensures c.bound_value.ensures c.over_type-over.ensures (c.quantified.ensures _ (c.formula_of-in-Quantified.ensures p h))

pub returns-in-QuantifiedIn : goal.returns-in-QuantifiedIn
returns-in-QuantifiedIn g t c = λ p h. ranged_told p (g.D.Declares.declarations c.args.m.now.sight.declared.now) c.args.m.now.sight.class c.args.m.now.sight.result (spelling_view c.args.m.now.spelled.now) (when_view c.args.t) (visible c.args.names.now) c.quantified-in-QuantifiedIn.result (spec_view c.args.e.now) (spec_view c.deref-in-QuantifiedIn.result.now) (spec_view c.deref-in-QuantifiedIn-2.result.now) c.args.e.now.at c.in-QuantifiedIn.q (spec_type_view c.in-QuantifiedIn.u) (identifier_view c.in-QuantifiedIn.x) (visible c.bound-inner-in-QuantifiedIn.result) c.bound_value-in-QuantifiedIn.result (over_view c.over_type-over-in-QuantifiedIn.result) (is_quantified_in c.args.e.now _ _ _ _ _ c.deref-in-QuantifiedIn.result.now c.deref-in-QuantifiedIn-2.result.now c.in-QuantifiedIn.is c.deref-in-QuantifiedIn.ensures c.deref-in-QuantifiedIn-2.ensures) c.bound-inner-in-QuantifiedIn.ensures c.bound_value-in-QuantifiedIn.ensures c.over_type-over-in-QuantifiedIn.ensures (c.quantified-in-QuantifiedIn.ensures _ (c.ranged-whole.ensures _ _ (c.formula_of-range.ensures p h) (c.formula_of-in-QuantifiedIn.ensures p h)))

pub returns-in-Truths : goal.returns-in-Truths
returns-in-Truths g t c = λ p h. infix_told p (g.D.Declares.declarations c.args.m.now.sight.declared.now) c.args.m.now.sight.class c.args.m.now.sight.result (spelling_view c.args.m.now.spelled.now) (when_view c.args.t) (visible c.args.names.now) c.of_truths.result (spec_view c.args.e.now) (spec_view c.deref-in-Truths.result.now) (spec_view c.deref-in-Truths-2.result.now) c.args.e.now.at c.in-Infix.operator c.static_type.result c.is_boolean-of_boolean.result operands.Truths (is_infix c.args.e.now _ _ _ c.deref-in-Truths.result.now c.deref-in-Truths-2.result.now c.in-Infix.is c.deref-in-Truths.ensures c.deref-in-Truths-2.ensures) (c.static_type.ensures ∙ ap (λ z. static_type (g.D.Declares.declarations c.args.m.now.sight.declared.now) c.args.m.now.sight.class c.args.m.now.sight.result (visible c.args.names.now) (spec_view z)) (c.deref-in-Infix.ensures ∙ sym c.deref-in-Truths.ensures)) c.is_boolean-of_boolean.ensures (sym c.in-Truths.is ∙ c.sides_of.ensures) (c.of_truths.ensures _ _ (c.formula_of-first.ensures p h) (c.formula_of-in-Truths.ensures p h))

pub returns-in-Values : goal.returns-in-Values
returns-in-Values g t c = λ p h. infix_told p (g.D.Declares.declarations c.args.m.now.sight.declared.now) c.args.m.now.sight.class c.args.m.now.sight.result (spelling_view c.args.m.now.spelled.now) (when_view c.args.t) (visible c.args.names.now) c.of_values.result (spec_view c.args.e.now) (spec_view c.deref-in-Values.result.now) (spec_view c.deref-in-Values-2.result.now) c.args.e.now.at c.in-Infix.operator c.static_type.result c.is_boolean-of_boolean.result operands.Values (is_infix c.args.e.now _ _ _ c.deref-in-Values.result.now c.deref-in-Values-2.result.now c.in-Infix.is c.deref-in-Values.ensures c.deref-in-Values-2.ensures) (c.static_type.ensures ∙ ap (λ z. static_type (g.D.Declares.declarations c.args.m.now.sight.declared.now) c.args.m.now.sight.class c.args.m.now.sight.result (visible c.args.names.now) (spec_view z)) (c.deref-in-Infix.ensures ∙ sym c.deref-in-Values.ensures)) c.is_boolean-of_boolean.ensures (sym c.in-Values.is ∙ c.sides_of.ensures) (c.of_values.ensures _ _ (c.term_of-first.ensures p h) (c.term_of-in-Values.ensures p h))

pub returns-in-Numbers : goal.returns-in-Numbers
returns-in-Numbers g t c = λ p h. infix_told p (g.D.Declares.declarations c.args.m.now.sight.declared.now) c.args.m.now.sight.class c.args.m.now.sight.result (spelling_view c.args.m.now.spelled.now) (when_view c.args.t) (visible c.args.names.now) c.is_true-in-Numbers.result (spec_view c.args.e.now) (spec_view c.deref-in-Infix.result.now) _ c.args.e.now.at c.in-Infix.operator c.static_type.result c.is_boolean-of_boolean.result operands.Numbers (is_infix c.args.e.now _ _ _ c.deref-in-Infix.result.now _ c.in-Infix.is c.deref-in-Infix.ensures refl) c.static_type.ensures c.is_boolean-of_boolean.ensures (sym c.in-Numbers.is ∙ c.sides_of.ensures) (c.is_true-in-Numbers.ensures _ (c.term_of-in-Numbers.ensures p h))

pub returns-in-Name : goal.returns-in-Name
returns-in-Name g t c = λ p h. name_told p (g.D.Declares.declarations c.args.m.now.sight.declared.now) c.args.m.now.sight.class c.args.m.now.sight.result (spelling_view c.args.m.now.spelled.now) (when_view c.args.t) (visible c.args.names.now) c.is_true-in-Name.result (spec_view c.args.e.now) c.args.e.now.at _ (is_name c.args.e.now _ _ c.in-Name.is refl) (c.is_true-in-Name.ensures _ (c.term_of-in-Name.ensures p h))

pub returns-in-Field : goal.returns-in-Field
returns-in-Field g t c = λ p h. field_told p (g.D.Declares.declarations c.args.m.now.sight.declared.now) c.args.m.now.sight.class c.args.m.now.sight.result (spelling_view c.args.m.now.spelled.now) (when_view c.args.t) (visible c.args.names.now) c.is_true-in-Field.result (spec_view c.args.e.now) _ c.args.e.now.at _ (is_field c.args.e.now _ _ _ c.in-Field.is refl) (c.is_true-in-Field.ensures _ (c.term_of-in-Field.ensures p h))

pub returns-in-Boolean : goal.returns-in-Boolean
returns-in-Boolean g t c = λ p h. truth_told p (g.D.Declares.declarations c.args.m.now.sight.declared.now) c.args.m.now.sight.class c.args.m.now.sight.result (spelling_view c.args.m.now.spelled.now) (when_view c.args.t) (visible c.args.names.now) c.truth.result (spec_view c.args.e.now) c.args.e.now.at c.in-Boolean.holds (is_boolean c.args.e.now _ c.in-Boolean.is) c.truth.ensures

pub returns-in-Parenthesized : goal.returns-in-Parenthesized
returns-in-Parenthesized g t c = λ p h. formula_told p (g.D.Declares.declarations c.args.m.now.sight.declared.now) c.args.m.now.sight.class c.args.m.now.sight.result (spelling_view c.args.m.now.spelled.now) (when_view c.args.t) (visible c.args.names.now) c.formula_of.result (spec_view c.args.e.now) (trees.Parenthesized c.args.e.now.at (spec_view c.deref.result.now)) (is_parenthesized c.args.e.now _ c.deref.result.now c.in-Parenthesized.is c.deref.ensures) (c.formula_of.ensures p h)

pub returns-in-Cast : goal.returns-in-Cast
returns-in-Cast g t c = λ p h. formula_told p (g.D.Declares.declarations c.args.m.now.sight.declared.now) c.args.m.now.sight.class c.args.m.now.sight.result (spelling_view c.args.m.now.spelled.now) (when_view c.args.t) (visible c.args.names.now) c.formula_of-in-Cast.result (spec_view c.args.e.now) (trees.Cast c.args.e.now.at _ (spec_view c.deref-in-Cast.result.now)) (is_cast c.args.e.now _ _ c.deref-in-Cast.result.now c.in-Cast.is c.deref-in-Cast.ensures) (c.formula_of-in-Cast.ensures p h)

pub returns-in-Old : goal.returns-in-Old
returns-in-Old g t c = λ p h. formula_told p (g.D.Declares.declarations c.args.m.now.sight.declared.now) c.args.m.now.sight.class c.args.m.now.sight.result (spelling_view c.args.m.now.spelled.now) (when_view c.args.t) (visible c.args.names.now) c.formula_of-in-Old.result (spec_view c.args.e.now) (trees.Old c.args.e.now.at (spec_view c.deref-in-Old.result.now)) (is_old c.args.e.now _ c.deref-in-Old.result.now c.in-Old.is c.deref-in-Old.ensures) (c.formula_of-in-Old.ensures p h)

pub returns-in-Not : goal.returns-in-Not
returns-in-Not g t c = λ p h. formula_told p (g.D.Declares.declarations c.args.m.now.sight.declared.now) c.args.m.now.sight.class c.args.m.now.sight.result (spelling_view c.args.m.now.spelled.now) (when_view c.args.t) (visible c.args.names.now) c.not.result (spec_view c.args.e.now) (trees.Prefix c.args.e.now.at prefixes.Not (spec_view c.deref-in-Not.result.now)) (is_prefix c.args.e.now _ _ c.deref-in-Not.result.now c.in-Prefix.is c.deref-in-Not.ensures ∙ ap (λ o. trees.Prefix c.args.e.now.at o (spec_view c.deref-in-Not.result.now)) c.in-Not.is) (c.not.ensures _ (c.formula_of-in-Not.ensures p h))

pub returns-in-Fresh : goal.returns-in-Fresh
returns-in-Fresh g t c = λ p h. formula_told p (g.D.Declares.declarations c.args.m.now.sight.declared.now) c.args.m.now.sight.class c.args.m.now.sight.result (spelling_view c.args.m.now.spelled.now) (when_view c.args.t) (visible c.args.names.now) c.fresh_now.result (spec_view c.args.e.now) (trees.Fresh c.args.e.now.at (spec_view c.deref-in-Fresh.result.now)) (is_fresh c.args.e.now _ c.deref-in-Fresh.result.now c.in-Fresh.is c.deref-in-Fresh.ensures) (c.fresh_now.ensures _ (c.term_of-in-Fresh.ensures p h))

pub returns-in-InvariantFor : goal.returns-in-InvariantFor
returns-in-InvariantFor g t c = λ p h. formula_told p (g.D.Declares.declarations c.args.m.now.sight.declared.now) c.args.m.now.sight.class c.args.m.now.sight.result (spelling_view c.args.m.now.spelled.now) (when_view c.args.t) (visible c.args.names.now) c.compared.result (spec_view c.args.e.now) (trees.InvariantFor c.args.e.now.at (spec_view c.deref-in-InvariantFor.result.now)) (is_invariant_for c.args.e.now _ c.deref-in-InvariantFor.result.now c.in-InvariantFor.is c.deref-in-InvariantFor.ensures) (c.compared.ensures _ _ c.heap.ensures (c.term_of-in-InvariantFor.ensures p h))

pub returns-in-Plus : goal.returns-in-Plus
returns-in-Plus g t c = λ p h. value_told p (g.D.Declares.declarations c.args.m.now.sight.declared.now) c.args.m.now.sight.class c.args.m.now.sight.result (spelling_view c.args.m.now.spelled.now) (when_view c.args.t) (visible c.args.names.now) c.is_true.result (spec_view c.args.e.now) (trees.Prefix c.args.e.now.at prefixes.Plus (spec_view c.in-Prefix.o.value)) (is_prefix c.args.e.now _ _ _ c.in-Prefix.is refl ∙ ap (λ o. trees.Prefix c.args.e.now.at o (spec_view c.in-Prefix.o.value)) c.in-Plus.is) refl (c.is_true.ensures _ (c.term_of.ensures p h))

pub returns-in-Minus : goal.returns-in-Minus
returns-in-Minus g t c = λ p h. value_told p (g.D.Declares.declarations c.args.m.now.sight.declared.now) c.args.m.now.sight.class c.args.m.now.sight.result (spelling_view c.args.m.now.spelled.now) (when_view c.args.t) (visible c.args.names.now) c.is_true-in-Minus.result (spec_view c.args.e.now) (trees.Prefix c.args.e.now.at prefixes.Minus (spec_view c.in-Prefix.o.value)) (is_prefix c.args.e.now _ _ _ c.in-Prefix.is refl ∙ ap (λ o. trees.Prefix c.args.e.now.at o (spec_view c.in-Prefix.o.value)) c.in-Minus.is) refl (c.is_true-in-Minus.ensures _ (c.term_of-in-Minus.ensures p h))

pub returns-in-InstanceOf : goal.returns-in-InstanceOf
returns-in-InstanceOf g t c = λ p h. instance_told p (g.D.Declares.declarations c.args.m.now.sight.declared.now) c.args.m.now.sight.class c.args.m.now.sight.result (spelling_view c.args.m.now.spelled.now) (when_view c.args.t) (visible c.args.names.now) c.instance.result (spec_view c.args.e.now) (spec_view c.deref-in-InstanceOf.result.now) c.args.e.now.at (written_view c.in-InstanceOf.w) c.type_by.result (kind_view c.kind_of-kind.result) (is_instance_of c.args.e.now _ _ c.deref-in-InstanceOf.result.now c.in-InstanceOf.is c.deref-in-InstanceOf.ensures) c.type_by.ensures c.kind_of-kind.ensures (c.instance.ensures _ (c.term_of-in-InstanceOf.ensures p h))

pub returns-in-Integer : goal.returns-in-Integer
returns-in-Integer g t c = λ p h. value_told p (g.D.Declares.declarations c.args.m.now.sight.declared.now) c.args.m.now.sight.class c.args.m.now.sight.result (spelling_view c.args.m.now.spelled.now) (when_view c.args.t) (visible c.args.names.now) c.is_true-in-Integer.result (spec_view c.args.e.now) _ (is_integer c.args.e.now _ c.in-Integer.is) refl (c.is_true-in-Integer.ensures _ (c.term_of-in-Integer.ensures p h))

pub returns-in-Null : goal.returns-in-Null
returns-in-Null g t c = λ p h. value_told p (g.D.Declares.declarations c.args.m.now.sight.declared.now) c.args.m.now.sight.class c.args.m.now.sight.result (spelling_view c.args.m.now.spelled.now) (when_view c.args.t) (visible c.args.names.now) c.is_true-in-Null.result (spec_view c.args.e.now) _ (is_null c.args.e.now c.in-Null.is) refl (c.is_true-in-Null.ensures _ (c.term_of-in-Null.ensures p h))

pub returns-in-This : goal.returns-in-This
returns-in-This g t c = λ p h. value_told p (g.D.Declares.declarations c.args.m.now.sight.declared.now) c.args.m.now.sight.class c.args.m.now.sight.result (spelling_view c.args.m.now.spelled.now) (when_view c.args.t) (visible c.args.names.now) c.is_true-in-This.result (spec_view c.args.e.now) _ (is_this c.args.e.now c.in-This.is) refl (c.is_true-in-This.ensures _ (c.term_of-in-This.ensures p h))

pub returns-in-Result : goal.returns-in-Result
returns-in-Result g t c = λ p h. value_told p (g.D.Declares.declarations c.args.m.now.sight.declared.now) c.args.m.now.sight.class c.args.m.now.sight.result (spelling_view c.args.m.now.spelled.now) (when_view c.args.t) (visible c.args.names.now) c.is_true-in-Result.result (spec_view c.args.e.now) _ (is_result c.args.e.now c.in-Result.is) refl (c.is_true-in-Result.ensures _ (c.term_of-in-Result.ensures p h))

pub returns-in-Call : goal.returns-in-Call
returns-in-Call g t c = λ p h. value_told p (g.D.Declares.declarations c.args.m.now.sight.declared.now) c.args.m.now.sight.class c.args.m.now.sight.result (spelling_view c.args.m.now.spelled.now) (when_view c.args.t) (visible c.args.names.now) c.is_true-in-Call.result (spec_view c.args.e.now) _ (is_call c.args.e.now _ _ c.in-Call.is) refl (c.is_true-in-Call.ensures _ (c.term_of-in-Call.ensures p h))

pub returns-in-MethodCall : goal.returns-in-MethodCall
returns-in-MethodCall g t c = λ p h. value_told p (g.D.Declares.declarations c.args.m.now.sight.declared.now) c.args.m.now.sight.class c.args.m.now.sight.result (spelling_view c.args.m.now.spelled.now) (when_view c.args.t) (visible c.args.names.now) c.is_true-in-MethodCall.result (spec_view c.args.e.now) _ (is_method_call c.args.e.now _ _ _ c.in-MethodCall.is) refl (c.is_true-in-MethodCall.ensures _ (c.term_of-in-MethodCall.ensures p h))

pub returns-in-Index : goal.returns-in-Index
returns-in-Index g t c = λ p h. value_told p (g.D.Declares.declarations c.args.m.now.sight.declared.now) c.args.m.now.sight.class c.args.m.now.sight.result (spelling_view c.args.m.now.spelled.now) (when_view c.args.t) (visible c.args.names.now) c.is_true-in-Index.result (spec_view c.args.e.now) _ (is_index c.args.e.now _ _ _ _ c.in-Index.is refl refl) refl (c.is_true-in-Index.ensures _ (c.term_of-in-Index.ensures p h))

pub returns-in-Sum : goal.returns-in-Sum
returns-in-Sum g t c = λ p h. value_told p (g.D.Declares.declarations c.args.m.now.sight.declared.now) c.args.m.now.sight.class c.args.m.now.sight.result (spelling_view c.args.m.now.spelled.now) (when_view c.args.t) (visible c.args.names.now) c.is_true-in-Sum.result (spec_view c.args.e.now) _ (is_sum c.args.e.now _ _ _ _ _ _ _ c.in-Sum.is refl refl refl) refl (c.is_true-in-Sum.ensures _ (c.term_of-in-Sum.ensures p h))

use Rattle.std.proofs.Common.{ap, sym, ◌∙◌}
use Rattle.jd_syntax.specs.JavaTypes.{identifier_view}
use Rattle.jd_syntax.specs.SpecTrees as trees
use Rattle.jd_syntax.specs.SpecTrees.{spec_view}
use Rattle.jd_jml_known.specs.Scopes.{visible}
use Rattle.jd_jml_formulas.specs.Spellings.{spelling_view, when_view}
use Rattle.jd_jml_formulas.proofs.Told.{arithmetic_told, member_told, minus_told, sum_told, term_told}
use Rattle.jd_jml_formulas.proofs.Viewed.{is_field, is_index, is_infix, is_prefix, is_sum}
use Rattle.jd_jml_formulas.proofs.terms.+term_of.Goals as goal

pub returns-in-Field : goal.returns-in-Field
returns-in-Field g t c = λ p h. member_told p (g.D.Declares.declarations c.args.m.now.sight.declared.now) c.args.m.now.sight.class c.args.m.now.sight.result (spelling_view c.args.m.now.spelled.now) (when_view c.args.t) (visible c.args.names.now) c.member_term.result (spec_view c.args.e.now) (spec_view c.deref-in-Field.result.now) (spec_view c.deref-in-Field-2.result.now) c.args.e.now.at (identifier_view c.in-Field.x) c.member_of-member.result (is_field c.args.e.now _ _ c.deref-in-Field.result.now c.in-Field.is c.deref-in-Field.ensures) (ap spec_view (c.deref-in-Field-2.ensures ∙ sym c.deref-in-Field.ensures)) c.member_of-member.ensures.read (c.member_term.ensures p _ (c.member_of-member.ensures.sorted p h) (c.term_of.ensures p h))

pub returns-in-Index : goal.returns-in-Index
returns-in-Index g t c = λ p h. term_told p (g.D.Declares.declarations c.args.m.now.sight.declared.now) c.args.m.now.sight.class c.args.m.now.sight.result (spelling_view c.args.m.now.spelled.now) (when_view c.args.t) (visible c.args.names.now) c.element.result (spec_view c.args.e.now) (trees.Index c.args.e.now.at (spec_view c.deref-in-Index.result.now) (spec_view c.deref-in-Index-2.result.now)) (is_index c.args.e.now _ _ c.deref-in-Index.result.now c.deref-in-Index-2.result.now c.in-Index.is c.deref-in-Index.ensures c.deref-in-Index-2.ensures) (c.element.ensures _ _ (c.term_of-array.ensures p h) (c.term_of-in-Index.ensures p h))

pub returns-in-None : goal.returns-in-None
returns-in-None g t c = λ p h. minus_told p (g.D.Declares.declarations c.args.m.now.sight.declared.now) c.args.m.now.sight.class c.args.m.now.sight.result (spelling_view c.args.m.now.spelled.now) (when_view c.args.t) (visible c.args.names.now) c.one_part.result (spec_view c.args.e.now) (spec_view c.deref-in-Minus.result.now) (spec_view c.deref-in-None.result.now) c.args.e.now.at (is_prefix c.args.e.now _ _ c.deref-in-Minus.result.now c.in-Prefix.is c.deref-in-Minus.ensures ∙ ap (λ o. trees.Prefix c.args.e.now.at o (spec_view c.deref-in-Minus.result.now)) c.in-Minus.is) (ap spec_view (c.deref-in-None.ensures ∙ sym c.deref-in-Minus.ensures)) (sym c.in-None.is ∙ c.literal.ensures) (c.one_part.ensures _ (c.term_of-in-None.ensures p h))

pub returns-in-Some-arithmetic_of : goal.returns-in-Some-arithmetic_of
returns-in-Some-arithmetic_of g t c = λ p h. arithmetic_told p (g.D.Declares.declarations c.args.m.now.sight.declared.now) c.args.m.now.sight.class c.args.m.now.sight.result (spelling_view c.args.m.now.spelled.now) (when_view c.args.t) (visible c.args.names.now) c.arithmetic.result (spec_view c.args.e.now) (spec_view c.deref-in-Some-arithmetic_of.result.now) (spec_view c.deref-in-Some-arithmetic_of-2.result.now) c.args.e.now.at c.in-Infix.operator c.in-Some-arithmetic_of.operation (is_infix c.args.e.now _ _ _ c.deref-in-Some-arithmetic_of.result.now c.deref-in-Some-arithmetic_of-2.result.now c.in-Infix.is c.deref-in-Some-arithmetic_of.ensures c.deref-in-Some-arithmetic_of-2.ensures) (sym c.in-Some-arithmetic_of.is ∙ c.arithmetic_of.ensures) (c.arithmetic.ensures _ _ (c.term_of-first.ensures p h) (c.term_of-in-Some-arithmetic_of.ensures p h))

pub returns-in-Sum : goal.returns-in-Sum
returns-in-Sum g t c = λ p h. sum_told p (g.D.Declares.declarations c.args.m.now.sight.declared.now) c.args.m.now.sight.class c.args.m.now.sight.result (spelling_view c.args.m.now.spelled.now) (when_view c.args.t) (visible c.args.names.now) c.sum.result (spec_view c.args.e.now) (spec_view c.deref-in-Sum.result.now) (spec_view c.deref-in-Sum-2.result.now) (spec_view c.deref-in-Sum-3.result.now) c.args.e.now.at (identifier_view c.in-Sum.x) (visible c.bound-inner.result) (is_sum c.args.e.now _ _ _ _ c.deref-in-Sum.result.now c.deref-in-Sum-2.result.now c.deref-in-Sum-3.result.now c.in-Sum.is c.deref-in-Sum.ensures c.deref-in-Sum-2.ensures c.deref-in-Sum-3.ensures) c.bound-inner.ensures (c.sum.ensures _ _ _ (c.term_of-first-in-Sum.ensures p h) (c.term_of-second.ensures p h) (c.term_of-in-Sum.ensures p h))

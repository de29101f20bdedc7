use Rattle.std.proofs.Common.{◌≡◌, IfOk, ap, subst, sym, ◌∙◌}
use Rattle.jd_model.specs.Tables.{parameter_constant}
use Rattle.jd_specifications.specs.WrittenCases.{parameter}
use Rattle.jd_syntax.specs.JavaTrees.{parameter_view}
use Rattle.jd_term.specs.TermViews.{const_view}
use Rattle.jd_case_heads.specs.Parameters.{respelled_name}
use Rattle.jd_case_heads.proofs.Spelled.{named_at, none_at}
use Rattle.jd_case_heads.proofs.parameters.constant.Goals as goal

pub returns-then-position-variables : goal.returns-then-position-variables
returns-then-position-variables g c =
    let q = parameter (g.D.Declares.declarations c.args.d.now) (parameter_view c.args.x.now) in
    let v = c.index-variables-position.result in
    subst (λ x. IfOk c.parameter_constant.result (λ k. const_view k ≡ x))
    (ap (λ t. parameter_constant (record { text = t; sort = v.sort })) c.deref.ensures.value
    ∙ ap (λ o. respelled_name o q) (sym (named_at c.args.variables.now c.args.position v c.if-position-variables.true c.index-variables-position.is)))
    c.parameter_constant.ensures

pub returns-else-position-variables : goal.returns-else-position-variables
returns-else-position-variables g c =
    let q = parameter (g.D.Declares.declarations c.args.d.now) (parameter_view c.args.x.now) in
    subst (λ x. IfOk c.own_constant.result (λ k. const_view k ≡ x)) (ap (λ o. respelled_name o q) (sym (none_at c.args.variables.now c.args.position c.if-position-variables.false))) c.own_constant.ensures

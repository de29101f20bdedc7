use Rattle.std.proofs.Common.{ap, map, ◌∙◌}
use Rattle.std.proofs.lemmas.List.{map-append}
use Rattle.jd_row_makers.specs.Heads as rows
use Rattle.jd_syntax.specs.JavaTrees.{parameter_view}
use Rattle.jd_case_heads.specs.Parameters.{constant_names}
use Rattle.jd_case_heads.proofs.Spelled.{all_spelled, one_more, one_there}
use Rattle.jd_case_heads.proofs.parameters.parameters.Goals as goal

pub loop-i-preserved : goal.loop-i-preserved
loop-i-preserved g c = λ are.
    one_more (g.D.Declares.declarations c.args.d.now) (constant_names c.args.variables.now) (map parameter_view c.args.xs.now) c.args.nullable.now c.loop-i.i (parameter_view c.index-xs-i.result) c.is_nullable-marked.result
    (rows.parameter_view c.in_ok-parameter.field-0) _ _ are (one_there parameter_view c.args.xs.now c.loop-i.i c.index-xs-i.result c.loop-i-test.true c.index-xs-i.is) c.is_nullable-marked.ensures c.in_ok-parameter.ensures (c.loop-i.invariant are)
    (ap (map rows.parameter_view) c.in_ok-put.ensures ∙ map-append rows.parameter_view c.loop-i.made.items _)

pub returns : goal.returns
returns g c = λ are.
    c.loop-i.invariant are
    ∙ all_spelled (g.D.Declares.declarations c.args.d.now) (constant_names c.args.variables.now) parameter_view c.args.xs.now c.loop-i.i c.loop-i-test.false

use Rattle.jd_bracketed.specs.TokenViews.{kind_view}
use Rattle.jd_script.specs.TurnViews.{limits_view, context_of, nodes_of, places_of}
use Rattle.jd_script.proofs.Between.{between}
use Rattle.jd_script.proofs.turn.in_tree.Goals as goal

pub returns-in_ok-part_step-in_default : goal.returns-in_ok-part_step-in_default
returns-in_ok-part_step-in_default c = λ done unless.
    let l = limits_view c.args.limits in
    let p = c.args.proof.now in
    between l (context_of done p) (nodes_of p) (places_of p) p.steps p.draft c.part_step.new.draft (kind_view c.args.kind) c.in_ok-part_step-in_default.field-0 c.if_part.result c.args.part
    c.in_default.not-TreeNext c.in_default.not-InstNext c.in_default.not-InstBody unless c.in_ok-part_step-in_default.ensures
    (c.if_part.ensures (context_of done p) (nodes_of p) (places_of p) p.steps c.part_step.new.draft l)

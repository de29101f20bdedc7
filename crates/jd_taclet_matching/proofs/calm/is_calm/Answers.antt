use Rattle.std.proofs.Common.{◌∙◌}
use Rattle.jd_term.specs.Formulas.{formula_view}
use Rattle.jd_taclet_matching.specs.Calm.{Elsewhere}
use Rattle.jd_taclet_matching.proofs.Walking.{calm_step}
use Rattle.jd_taclet_matching.proofs.calm.is_calm.Goals as goal

pub returns-in-Elsewhere : goal.returns-in-Elsewhere
returns-in-Elsewhere c = calm_step c.args.path.now c.loop-number.number-index (formula_view c.loop-number.around.now) Elsewhere c.loop-number-test.true c.in-Elsewhere.ensures ∙ c.loop-number.invariant

use Rattle.std.proofs.Common.{All, map, take}
use Rattle.jd_model.specs.Sequents.{sequent_view}
use Rattle.jd_sequent.specs.Limits.{IsWithinLimits}
use Rattle.jd_taclet_rules.proofs.rules.are_within.Given as goal

abbrev pub invariant-loop-premise : goal.invariant-loop-premise
invariant-loop-premise l = All IsWithinLimits (map sequent_view (take l.premise-index l.premises))

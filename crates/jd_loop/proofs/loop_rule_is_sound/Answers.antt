use Rattle.jd_loop.proofs.LoopStep.{loop_rule_is_sound}
use Rattle.jd_loop.proofs.loop_rule_is_sound.Goals as goal

pub returns : goal.returns
returns c = loop_rule_is_sound

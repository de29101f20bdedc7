use Rattle.std.proofs.Common.{◌∙◌}
use Rattle.jd_syntax.specs.JavaTrees.{java_stmt_view}
use Rattle.jd_effect_code.specs.Asking.{label_texts}
use Rattle.jd_effect_code.proofs.Apart.{each_asked}
use Rattle.jd_effect_code.proofs.jumps.repeats_loop.Goals as goal

pub returns : goal.returns
returns c = c.repeats_any.ensures ∙ each_asked (java_stmt_view c.args.s.now) (label_texts c.args.labels.now)

use Rattle.std.proofs.Common.{codes}
use Rattle.jd_answer.specs.Reports.{placed_text}
use Rattle.jd_answer.proofs.Refusals.{named_last}
use Rattle.jd_answer.proofs.java.add_unsupported.Goals as goal

pub returns : goal.returns
returns c = named_last c.args.out.now.items (placed_text (codes "Unsupported") c.args.at) c.args.what.now _ _ _ c.in_ok-add_placed.ensures c.in_ok-push.ensures.items c.in_ok-extend_from_slice.ensures.items

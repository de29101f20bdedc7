use Rattle.jd_term.specs.Terms.{Constant}
use Rattle.jd_model.specs.SpecialNames.{receiver}
use Rattle.jd_row_makers.proofs.Joined.{two_added}
use Rattle.jd_row_makers.proofs.entry.add_receiver_of.Goals as goal

pub returns : goal.returns
returns c = two_added _ _ _ _ _ (c.in_ok-add.ensures _ (c.exact.ensures (Constant receiver) c.receiver.ensures)) (c.in_ok-add-2.ensures _ (c.created.ensures _ _ c.heap.ensures c.receiver-2.ensures))

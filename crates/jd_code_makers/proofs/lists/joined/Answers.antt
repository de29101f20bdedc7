use Rattle.jd_code_makers.proofs.Listing.{joined_is}
use Rattle.jd_code_makers.proofs.lists.joined.Goals as goal

pub returns : goal.returns
returns g c = joined_is c.args.items c.args.others c.appended.result c.in_ok-items.items c.in_ok-items.others c.appended.ensures c.in_ok-items.ensures.0 c.in_ok-items.ensures.1

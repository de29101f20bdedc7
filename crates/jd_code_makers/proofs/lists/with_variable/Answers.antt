use Rattle.jd_syntax.specs.Names.{var_view}
use Rattle.jd_code_makers.proofs.Listing.{one_more}
use Rattle.jd_code_makers.proofs.lists.with_variable.Goals as goal

pub returns : goal.returns
returns c = λ xs x is one. one_more var_view c.args.items c.args.item c.added.result xs x c.added.ensures is one

use Rattle.jd_syntax.specs.CodeViews.{stmt_view}
use Rattle.jd_code_makers.proofs.Listing.{both_lists}
use Rattle.jd_code_makers.proofs.lists.appended_stmts.Goals as goal

pub returns : goal.returns
returns c = λ xs ys is others. both_lists stmt_view c.args.items c.args.others c.joined.result xs ys c.joined.ensures is others

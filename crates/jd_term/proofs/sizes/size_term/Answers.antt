use Rattle.std.proofs.Common.{◌∙◌}
use Rattle.jd_term.specs.TermViews.{term_view}
use Rattle.jd_term.proofs.Capping.{term_size_capped}
use Rattle.jd_term.proofs.sizes.size_term.Goals as goal

pub returns : goal.returns
returns c = c.fold_term.ensures ∙ term_size_capped (term_view c.args.t.now)

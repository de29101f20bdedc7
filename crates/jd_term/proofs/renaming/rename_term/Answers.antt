use Rattle.jd_term.specs.Maps.{Anything}
use Rattle.jd_term.specs.Renamings.{both_views, rename_leaves, renaming}
use Rattle.jd_term.specs.TermViews.{term_view}
use Rattle.std.proofs.Common.{map}
use Rattle.jd_term.proofs.Leafwise.{each_leaf}
use Rattle.jd_term.proofs.renaming.rename_term.Goals as goal

pub map_term-requires : goal.map_term-requires
map_term-requires c = each_leaf (rename_leaves (renaming (map both_views c.args.pairs.now))).below Anything (λ k t. tt) 0 (term_view c.args.t.now)

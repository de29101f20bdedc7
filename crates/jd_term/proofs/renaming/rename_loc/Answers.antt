use Rattle.jd_term.specs.Maps.{Anything}
use Rattle.jd_term.specs.Renamings.{both_views, rename_leaves, renaming}
use Rattle.jd_term.specs.TermViews.{loc_view}
use Rattle.std.proofs.Common.{map}
use Rattle.jd_term.proofs.Leafwise.{each_leaf_of_loc}
use Rattle.jd_term.proofs.renaming.rename_loc.Goals as goal

pub map_loc-requires : goal.map_loc-requires
map_loc-requires c = each_leaf_of_loc (rename_leaves (renaming (map both_views c.args.pairs.now))).below Anything (λ k t. tt) 0 (loc_view c.args.l.now)

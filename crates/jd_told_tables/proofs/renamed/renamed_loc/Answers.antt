use Rattle.jd_term.specs.Maps.{Anything}
use Rattle.jd_term.specs.Renamings.{rename_leaves}
use Rattle.jd_term.specs.TermViews.{loc_view}
use Rattle.jd_term.proofs.Leafwise.{each_leaf_of_loc}
use Rattle.jd_told_tables.specs.Places.{renaming_at}
use Rattle.jd_told_tables.proofs.renamed.renamed_loc.Goals as goal

pub map_loc-requires : goal.map_loc-requires
map_loc-requires c = each_leaf_of_loc (rename_leaves (renaming_at c.args.at.now)).below Anything (λ k t. tt) 0 (loc_view c.args.l.now)

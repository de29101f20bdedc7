use Rattle.jd_term.specs.Maps.{Anything}
use Rattle.jd_term.specs.Renamings.{rename_leaves}
use Rattle.jd_term.specs.TermViews.{term_view}
use Rattle.jd_term.proofs.Leafwise.{each_leaf}
use Rattle.jd_told_tables.specs.Places.{renaming_at}
use Rattle.jd_told_tables.proofs.renamed.renamed_term.Goals as goal

pub map_term-requires : goal.map_term-requires
map_term-requires c = each_leaf (rename_leaves (renaming_at c.args.at.now)).below Anything (λ k t. tt) 0 (term_view c.args.t.now)

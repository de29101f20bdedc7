use Rattle.std.proofs.Common.{refl, subst}
use Rattle.jd_term.specs.Makers.{GivesLoc}
use Rattle.jd_term.specs.Maps.{Anything, unchanged_leaves}
use Rattle.jd_term.specs.TermViews.{loc_view}
use Rattle.jd_term.proofs.Leafwise.{each_leaf_of_loc, same_loc}
use Rattle.jd_term.proofs.term.Loc.copy.Goals as goal

pub map_loc-requires : goal.map_loc-requires
map_loc-requires c = each_leaf_of_loc unchanged_leaves.below Anything (λ k t. tt) 0 (loc_view c.args.self.now)

pub returns : goal.returns
returns c = subst (λ t. GivesLoc c.map_loc.result t) (same_loc unchanged_leaves (λ k t. refl) 0 (loc_view c.args.self.now)) c.map_loc.ensures

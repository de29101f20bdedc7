use Rattle.std.proofs.Common.{refl, subst}
use Rattle.jd_term.specs.Makers.{GivesTerm}
use Rattle.jd_term.specs.Maps.{Anything, unchanged_leaves}
use Rattle.jd_term.specs.TermViews.{term_view}
use Rattle.jd_term.proofs.Leafwise.{each_leaf, same_term}
use Rattle.jd_term.proofs.term.Term.copy.Goals as goal

pub map_term-requires : goal.map_term-requires
map_term-requires c = each_leaf unchanged_leaves.below Anything (λ k t. tt) 0 (term_view c.args.self.now)

pub returns : goal.returns
returns c = subst (λ t. GivesTerm c.map_term.result t) (same_term unchanged_leaves (λ k t. refl) 0 (term_view c.args.self.now)) c.map_term.ensures

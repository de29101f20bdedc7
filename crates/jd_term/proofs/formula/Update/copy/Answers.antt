use Rattle.std.proofs.Common.{ap, map, refl, subst, ◌∙◌}
use Rattle.jd_term.specs.Makers.{GivesUpdate}
use Rattle.jd_term.specs.Maps.{Anything, unchanged_leaves}
use Rattle.jd_term.specs.Formulas.{pair_view}
use Rattle.jd_term.proofs.Leafwise.{each_leaf_of_pairs, same_pairs}
use Rattle.jd_term.proofs.formula.Update.copy.Goals as goal

pub map_pairs-requires : goal.map_pairs-requires
map_pairs-requires c = each_leaf_of_pairs unchanged_leaves.below Anything (λ k t. tt) 0 (map pair_view c.deref.result.now)

pub returns : goal.returns
returns c =
    subst (λ t. GivesUpdate c.map_pairs.result t) (same_pairs unchanged_leaves (λ k t. refl) 0 (map pair_view c.deref.result.now) ∙ ap (λ l. map pair_view l) c.deref.ensures.value) c.map_pairs.ensures

use Rattle.jd_spelled_trees.proofs.Places.{formula_at, term_at}
use Rattle.jd_spelled_trees.proofs.laws.places_are_spelled.Goals as goal

pub returns : goal.returns
returns c = record {
  formula = formula_at c.places_are_surrounded.ensures c.term_places_are_surrounded.ensures c.terms_are_replaced.ensures;
  term = term_at c.places_are_surrounded.ensures c.term_places_are_surrounded.ensures c.terms_are_replaced.ensures;
}

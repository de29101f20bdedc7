use Rattle.jd_model.proofs.ValueExamples.{smallest_by_minus_one, smallest_rest_minus_one, largest_plus_one, smallest_less_one, products_are_cut, quotients_toward_zero, remainders_like_dividend, smallest_negated}
use Rattle.jd_model.proofs.examples.arithmetic_examples.Goals as goal

pub returns-clause-smallest_by_minus_one : goal.returns-clause-smallest_by_minus_one
returns-clause-smallest_by_minus_one c = smallest_by_minus_one

pub returns-clause-smallest_rest_minus_one : goal.returns-clause-smallest_rest_minus_one
returns-clause-smallest_rest_minus_one c = smallest_rest_minus_one

pub returns-clause-largest_plus_one : goal.returns-clause-largest_plus_one
returns-clause-largest_plus_one c = largest_plus_one

pub returns-clause-smallest_less_one : goal.returns-clause-smallest_less_one
returns-clause-smallest_less_one c = smallest_less_one

pub returns-clause-products : goal.returns-clause-products
returns-clause-products c = products_are_cut

pub returns-clause-quotients : goal.returns-clause-quotients
returns-clause-quotients c = quotients_toward_zero

pub returns-clause-remainders : goal.returns-clause-remainders
returns-clause-remainders c = remainders_like_dividend

pub returns-clause-smallest_negated : goal.returns-clause-smallest_negated
returns-clause-smallest_negated c = smallest_negated

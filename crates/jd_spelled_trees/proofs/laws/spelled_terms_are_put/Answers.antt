use Rattle.jd_spelled_trees.proofs.Puts.{put_in_formula, put_in_loc, put_in_term}
use Rattle.jd_spelled_trees.proofs.laws.spelled_terms_are_put.Goals as goal

pub returns : goal.returns
returns c = record {
  term = λ names s ctx t u put h. put_in_term names s ctx t put u h;
  loc = λ names s ctx t l put h. put_in_loc names s ctx t put l h;
  formula = λ names s ctx t a put h. put_in_formula names s ctx t put a h;
}

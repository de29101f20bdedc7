use Rattle.jd_model.proofs.AllLaws.{are_substituted_by_sort}
use Rattle.jd_model.proofs.laws.are_substituted_by_sort.Goals as goal

pub returns : goal.returns
returns c = are_substituted_by_sort

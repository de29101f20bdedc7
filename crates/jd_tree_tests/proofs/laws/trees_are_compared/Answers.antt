use Rattle.jd_tree_tests.proofs.AllTests.{tests}
use Rattle.jd_tree_tests.proofs.laws.trees_are_compared.Goals as goal

pub returns : goal.returns
returns c = tests

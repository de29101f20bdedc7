-- The tests over which matching goes.
use Rattle.jd_patterns.specs.Bindings.{Tests}
use Rattle.jd_tree_tests.proofs.AllTests as all

abbrev pub tests : Tests
tests = all.tests

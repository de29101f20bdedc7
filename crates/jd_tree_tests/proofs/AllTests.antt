-- Exact tests of all that variables stand for.
use Rattle.jd_patterns.specs.Bindings.{Tests}
use Rattle.jd_tree_tests.proofs.PlainTests as plain
use Rattle.jd_tree_tests.proofs.TreeTests.{term_test, loc_test, expr_test, stmt_test, code_test, formula_test, context_test}

pub tests : Tests
tests = record {
  variable = plain.variable;
  formula = formula_test;
  term = term_test;
  literal = plain.literal;
  locations = loc_test;
  kind = plain.kind;
  sort = plain.sort;
  name = plain.name;
  result = plain.result;
  number = plain.number;
  code = code_test;
  returned = stmt_test;
  simple = expr_test;
  modality = plain.modality;
  context = context_test;
  unary = plain.unary;
  binary = plain.binary;
  arithmetic = plain.arithmetic;
}

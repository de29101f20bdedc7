-- The worked examples, by computation.
use Rattle.std.proofs.Common.{refl}
use Rattle.jd_written.specs.Written.{number_text}
use Rattle.jd_tgrammar.specs.Examples.{Examples, TermExamples, LocExamples, FormulaExamples, ExprExamples, StmtExamples}

term_examples : TermExamples
unfolding number_text
term_examples = record {
  number = refl;
  zero = refl;
  negative = refl;
  truth = refl;
  null = refl;
  variable = refl;
  constant = refl;
  bound = refl;
  add = refl;
  subtract = refl;
  multiply = refl;
  divide = refl;
  remainder = refl;
  negation = refl;
  wrap = refl;
  length = refl;
  integer = refl;
  boolean = refl;
  reference = refl;
  sum = refl;
  store = refl;
  create = refl;
  anon = refl;
  element = refl;
}

loc_examples : LocExamples
unfolding number_text
loc_examples = record {
  none = refl;
  all = refl;
  single = refl;
  object = refl;
  elements = refl;
  range = refl;
  union = refl;
}

formula_examples : FormulaExamples
unfolding number_text
formula_examples = record {
  true = refl;
  false = refl;
  not = refl;
  and = refl;
  or = refl;
  implies = refl;
  iff = refl;
  equal = refl;
  less = refl;
  less_or_equal = refl;
  for_all = refl;
  exists = refl;
  truth = refl;
  updated = refl;
  necessity = refl;
  possibility = refl;
  in_locations = refl;
  in_int = refl;
  well_formed = refl;
  invariant = refl;
  instance = refl;
  exact = refl;
}

expr_examples : ExprExamples
unfolding number_text
expr_examples = record {
  number = refl;
  truth = refl;
  null = refl;
  variable = refl;
  negate = refl;
  invert = refl;
  add = refl;
  subtract = refl;
  multiply = refl;
  divide = refl;
  remainder = refl;
  less = refl;
  less_or_equal = refl;
  greater = refl;
  greater_or_equal = refl;
  equal = refl;
  not_equal = refl;
  and_also = refl;
  or_else = refl;
  conditional = refl;
  field = refl;
  element = refl;
  length = refl;
  cast = refl;
  instance = refl;
  virtual_call = refl;
  static_call = refl;
  constructor_call = refl;
  do_then = refl;
}

stmt_examples : StmtExamples
unfolding number_text
stmt_examples = record {
  set = refl;
  field = refl;
  element = refl;
  evaluate = refl;
  if_else = refl;
  while = refl;
  block = refl;
  catch = refl;
  finally = refl;
  throw = refl;
  throw_unchecked = refl;
  return = refl;
  return_void = refl;
  frame = refl;
  frame_void = refl;
  raise = refl;
  object = refl;
  array = refl;
  new_array = refl;
}

pub examples : Examples
examples = record {
  of_terms = term_examples;
  of_locations = loc_examples;
  of_formulas = formula_examples;
  of_expressions = expr_examples;
  of_statements = stmt_examples;
}

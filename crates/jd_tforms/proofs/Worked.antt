-- The examples compute.
use Rattle.std.proofs.Common.{refl}
use Rattle.jd_tforms.specs.FaultExamples.{FaultExamples}

pub fault_examples : FaultExamples
fault_examples = record {
  no_form = refl;
  no_symbol = refl;
  no_sort = refl;
  form_first = refl;
  symbol_first = refl;
  sort_last = refl;
  leading_zero = refl;
  minus_zero = refl;
  negative = refl;
  no_word = refl;
  no_letter = refl;
  special = refl;
  constant = refl;
  field = refl;
  no_field = refl;
  other_sort = refl;
  that_sort = refl;
  no_term = refl;
  stored_heap = refl;
  stored_field = refl;
  unbound = refl;
  bound = refl;
  bound_otherwise = refl;
  over_heaps = refl;
  no_pair = refl;
  pair = refl;
  pair_of_sorts = refl;
  assigned = refl;
  too_wide = refl;
  assigned_otherwise = refl;
  assigned_unknown = refl;
  no_statement = refl;
  called = refl;
  called_with_less = refl;
  called_static = refl;
  evaluated = refl;
  done = refl;
  done_without_result = refl;
  done_twice = refl;
  no_result = refl;
  returned = refl;
  returned_value = refl;
}

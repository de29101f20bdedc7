use Rattle.jd_model.proofs.ValueExamples.{null_before_index, index_before_null, value_before_null, outside_index, indexes_of_two, element_is_written, array_is_kept}
use Rattle.jd_model.proofs.examples.array_access_examples.Goals as goal

pub returns-clause-null_before_index : goal.returns-clause-null_before_index
returns-clause-null_before_index c = null_before_index

pub returns-clause-index_before_null : goal.returns-clause-index_before_null
returns-clause-index_before_null c = index_before_null

pub returns-clause-value_before_null : goal.returns-clause-value_before_null
returns-clause-value_before_null c = value_before_null

pub returns-clause-outside_index : goal.returns-clause-outside_index
returns-clause-outside_index c = outside_index

pub returns-clause-indexes_of_two : goal.returns-clause-indexes_of_two
returns-clause-indexes_of_two c = indexes_of_two

pub returns-clause-element_is_written : goal.returns-clause-element_is_written
returns-clause-element_is_written c = element_is_written

pub returns-clause-array_is_kept : goal.returns-clause-array_is_kept
returns-clause-array_is_kept c = array_is_kept

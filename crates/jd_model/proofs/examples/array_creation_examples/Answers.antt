use Rattle.jd_model.proofs.AllocationExamples.{negative_length, bad_length, new_array_length, new_element_is_zero}
use Rattle.jd_model.proofs.examples.array_creation_examples.Goals as goal

pub returns-clause-negative_length : goal.returns-clause-negative_length
returns-clause-negative_length c = negative_length

pub returns-clause-bad_length : goal.returns-clause-bad_length
returns-clause-bad_length c = bad_length

pub returns-clause-new_array_length : goal.returns-clause-new_array_length
returns-clause-new_array_length c = new_array_length

pub returns-clause-new_element_is_zero : goal.returns-clause-new_element_is_zero
returns-clause-new_element_is_zero c = new_element_is_zero

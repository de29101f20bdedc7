use Rattle.jd_model.proofs.AllocationExamples.{least_free_number, first_object, second_object, two_objects, new_field_is_default}
use Rattle.jd_model.proofs.NewObjects.{create_empties, create_keeps_others}
use Rattle.jd_model.proofs.examples.allocation_examples.Goals as goal

pub returns-clause-least_free_number : goal.returns-clause-least_free_number
returns-clause-least_free_number c = least_free_number

pub returns-clause-first_object : goal.returns-clause-first_object
returns-clause-first_object c = first_object

pub returns-clause-second_object : goal.returns-clause-second_object
returns-clause-second_object c = second_object

pub returns-clause-two_objects : goal.returns-clause-two_objects
returns-clause-two_objects c = two_objects

pub returns-clause-create_empties : goal.returns-clause-create_empties
returns-clause-create_empties c = create_empties

pub returns-clause-create_keeps_others : goal.returns-clause-create_keeps_others
returns-clause-create_keeps_others c = create_keeps_others

pub returns-clause-new_field_is_default : goal.returns-clause-new_field_is_default
returns-clause-new_field_is_default c = new_field_is_default

use Rattle.jd_model.proofs.ControlExamples.{run_time_class, call_on_null, argument_before_null, call_at_depth_zero, no_such_method, endless_recursion, legs_of_animal, legs_of_bird, feet_of_bird, feet_need_depth}
use Rattle.jd_model.proofs.examples.call_examples.Goals as goal

pub returns-clause-run_time_class : goal.returns-clause-run_time_class
returns-clause-run_time_class c = run_time_class

pub returns-clause-call_on_null : goal.returns-clause-call_on_null
returns-clause-call_on_null c = call_on_null

pub returns-clause-argument_before_null : goal.returns-clause-argument_before_null
returns-clause-argument_before_null c = argument_before_null

pub returns-clause-call_at_depth_zero : goal.returns-clause-call_at_depth_zero
returns-clause-call_at_depth_zero c = call_at_depth_zero

pub returns-clause-no_such_method : goal.returns-clause-no_such_method
returns-clause-no_such_method c = no_such_method

pub returns-clause-endless_recursion : goal.returns-clause-endless_recursion
returns-clause-endless_recursion c = endless_recursion

pub returns-clause-legs_of_animal : goal.returns-clause-legs_of_animal
returns-clause-legs_of_animal c = legs_of_animal

pub returns-clause-legs_of_bird : goal.returns-clause-legs_of_bird
returns-clause-legs_of_bird c = legs_of_bird

pub returns-clause-feet_of_bird : goal.returns-clause-feet_of_bird
returns-clause-feet_of_bird c = feet_of_bird

pub returns-clause-feet_need_depth : goal.returns-clause-feet_need_depth
returns-clause-feet_need_depth c = feet_need_depth

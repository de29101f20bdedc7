use Rattle.jd_model.proofs.ControlExamples.{bird_is_animal, animal_is_no_bird}
use Rattle.jd_model.proofs.ValueExamples.{null_is_cast, null_is_no_instance, wrong_cast}
use Rattle.jd_model.proofs.examples.cast_examples.Goals as goal

pub returns-clause-null_is_cast : goal.returns-clause-null_is_cast
returns-clause-null_is_cast c = null_is_cast

pub returns-clause-null_is_no_instance : goal.returns-clause-null_is_no_instance
returns-clause-null_is_no_instance c = null_is_no_instance

pub returns-clause-wrong_cast : goal.returns-clause-wrong_cast
returns-clause-wrong_cast c = wrong_cast

pub returns-clause-bird_is_animal : goal.returns-clause-bird_is_animal
returns-clause-bird_is_animal c = bird_is_animal

pub returns-clause-animal_is_no_bird : goal.returns-clause-animal_is_no_bird
returns-clause-animal_is_no_bird c = animal_is_no_bird

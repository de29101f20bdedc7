use Rattle.jd_spelled_tasks.proofs.Whole.{tasks_spelled}
use Rattle.jd_spelled_tasks.proofs.laws.first_tasks_are_spelled.Goals as goal

pub returns : goal.returns
returns c =
    tasks_spelled c.straight_bodies_are_known.ensures c.declarations_are_one.ensures c.trees_are_lexical.ensures c.variables_are_called_by_words.ensures c.bodies_are_resolved.ensures c.variables_are_made_of_names.ensures c.literals_of_jml_fit.ensures

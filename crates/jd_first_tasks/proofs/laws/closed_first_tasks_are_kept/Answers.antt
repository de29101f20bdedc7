use Rattle.jd_first_tasks.proofs.Kept.{closed_kept}
use Rattle.jd_first_tasks.proofs.laws.closed_first_tasks_are_kept.Goals as goal

pub returns : goal.returns
returns c =
    closed_kept c.declarations_are_one.ensures c.programs_are_one.ensures c.trees_are_lexical.ensures c.body_variables_are_ordinary.ensures c.listed_fields_are_those.ensures c.listed_tables_are_made.ensures c.tables_of_programs_stand.ensures c.classes_of_programs_stand.ensures c.every_closed_case_of_programs_is_kept.ensures

use Rattle.jd_program_laws.proofs.Kept.{kept}
use Rattle.jd_program_laws.proofs.laws.every_closed_case_of_programs_is_kept.Goals as goal

pub returns : goal.returns
returns c = kept c.bodies_are_resolved.ensures c.cases_are_kept_alike.ensures c.every_closed_case_is_kept.ensures

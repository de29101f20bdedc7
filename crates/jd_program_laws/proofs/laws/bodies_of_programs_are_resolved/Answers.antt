use Rattle.jd_program_laws.proofs.Bodies.{all_resolved}
use Rattle.jd_program_laws.proofs.laws.bodies_of_programs_are_resolved.Goals as goal

pub returns : goal.returns
returns c = λ units lexical j is constants none. all_resolved c.bodies_are_resolved.ensures units lexical j is constants none

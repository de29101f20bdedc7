use Rattle.jd_declaration_laws.proofs.One.{one_answer}
use Rattle.jd_declaration_laws.proofs.laws.declarations_are_one.Goals as goal

pub returns : goal.returns
returns c = λ units stand d e of_d of_e. one_answer c.one_method.ensures units stand d e of_d of_e

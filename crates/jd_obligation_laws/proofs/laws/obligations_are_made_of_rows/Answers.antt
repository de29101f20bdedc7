use Rattle.jd_obligation_laws.proofs.Making.{made}
use Rattle.jd_obligation_laws.proofs.laws.obligations_are_made_of_rows.Goals as goal

pub returns : goal.returns
returns c = λ units are j is none none_jml fields t tables κ case e b body. made c.one_method.ensures units are j is c.fields_have_sorts.ensures none none_jml fields t tables κ case e b body

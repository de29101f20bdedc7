use Rattle.jd_jnumbers.proofs.TextSets.{inserted, placed}
use Rattle.jd_jnumbers.proofs.numbering.add_text.Goals as goal

pub returns-clause-texts : goal.returns-clause-texts
returns-clause-texts c = inserted c.args.text c.args.texts.now.keys c.insert_full.new.self.keys c.in_ok-number.ensures.keys

pub returns-clause-number : goal.returns-clause-number
returns-clause-number c = placed c.args.text c.args.texts.now.keys c.insert_full.new.self.keys c.in_ok-number.number c.in_ok-number.ensures.keys c.in_ok-number.ensures.index c.in_ok-number.ensures.within

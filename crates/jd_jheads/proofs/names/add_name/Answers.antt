use Rattle.jd_jheads.proofs.NameSets.{inserted, was_new}
use Rattle.jd_jheads.proofs.names.add_name.Goals as goal

pub returns-clause-names : goal.returns-clause-names
returns-clause-names c = inserted c.in_ok-copy_bytes.field-0 c.args.name.now c.args.names.now.keys c.insert.new.self.keys c.in_ok-copy_bytes.ensures c.in_ok-insert.ensures.keys

pub returns-clause-new : goal.returns-clause-new
returns-clause-new c = was_new c.in_ok-copy_bytes.field-0 c.args.name.now c.args.names.now.keys c.in_ok-insert.field-0 c.in_ok-copy_bytes.ensures c.in_ok-insert.ensures.added

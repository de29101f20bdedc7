use Rattle.std.proofs.Common.{refl}
use Rattle.jd_jheads.specs.Names.{name_list}
use Rattle.jd_jheads.proofs.Supers.{unknown}
use Rattle.jd_jheads.proofs.parents.parent_number.Goals as goal

pub returns-in-None-clause-refused : goal.returns-in-None-clause-refused
returns-in-None-clause-refused c =
    (refl, unknown (name_list c.args.names.now) c.args.placed.now.class.now.parent c.in-Some.parent c.deref.result.now c.class_number.result c.in-Some.is c.deref.ensures.value c.class_number.ensures c.in-None.is)

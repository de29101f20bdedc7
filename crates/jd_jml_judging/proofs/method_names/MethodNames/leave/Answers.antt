use Rattle.jd_jml_judging.proofs.Naming.{left}
use Rattle.jd_jml_judging.proofs.method_names.MethodNames.leave.Goals as goal

pub returns : goal.returns
returns c = left c.args.self.now.entries.items c.truncate.new.self.items c.args.mark c.truncate.ensures.items

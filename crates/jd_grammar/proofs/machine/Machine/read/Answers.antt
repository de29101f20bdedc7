use Rattle.jd_grammar.specs.Tables.{plain}
use Rattle.jd_grammar.proofs.Readers.{not_expanded, read_with}
use Rattle.jd_grammar.proofs.machine.Machine.read.Goals as goal

pub returns-then-not-branch : goal.returns-then-not-branch
returns-then-not-branch c = not_expanded (plain c.args.table.now) c.args.kind c.args.self.now c.expand.new.self c.in_ok-expand.field-0 c.if-not-branch.true c.in_ok-expand.ensures

pub returns : goal.returns
returns c = read_with (plain c.args.table.now) c.args.kind c.args.self.now c.expand.new.self c.take.new.self c.in_ok-expand.field-0 c.take.result c.if-not-branch.false c.in_ok-expand.ensures c.take.ensures

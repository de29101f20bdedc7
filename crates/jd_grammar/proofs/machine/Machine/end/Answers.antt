use Rattle.jd_grammar.specs.Tables.{plain}
use Rattle.jd_grammar.proofs.Readers.{not_ended, ended_by, emptied, not_emptied}
use Rattle.jd_grammar.proofs.machine.Machine.end.Goals as goal

pub returns-then-not-branch : goal.returns-then-not-branch
returns-then-not-branch c = not_ended (plain c.args.table.now) c.args.self.now c.expand.new.self c.in_ok-expand.field-0 c.if-not-branch.true c.in_ok-expand.ensures

pub returns : goal.returns
returns c =
    ended_by (plain c.args.table.now) c.args.self.now c.expand.new.self c.in_ok-expand.field-0 c.is_empty.result c.if-not-branch.false c.in_ok-expand.ensures
    (emptied c.expand.new.self.stack.items c.expand.new.self.stack.len c.is_empty.result c.is_empty.ensures c.expand.new.self.stack.ok.0)
    (not_emptied c.expand.new.self.stack.items c.expand.new.self.stack.len c.is_empty.result c.is_empty.ensures c.expand.new.self.stack.ok.0)

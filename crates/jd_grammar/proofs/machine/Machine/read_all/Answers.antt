use Rattle.jd_grammar.specs.Tables.{plain}
use Rattle.jd_grammar.proofs.Readers.{finished, read_next, stops_here}
use Rattle.jd_grammar.proofs.machine.Machine.read_all.Goals as goal

pub returns-then-not-branch : goal.returns-then-not-branch
returns-then-not-branch c =
    stops_here (plain c.args.table.now) c.args.kinds.now c.loop-at.at c.args.self.now c.loop-at.self c.read.new.self c.in_ok-read.field-0 c.if-not-branch.true c.loop-at-test.true c.loop-at.invariant c.in_ok-read.ensures

pub loop-at-preserved : goal.loop-at-preserved
loop-at-preserved c =
    read_next (plain c.args.table.now) c.args.kinds.now c.loop-at.at c.args.self.now c.loop-at.self c.read.new.self c.in_ok-read.field-0 c.if-not-branch.false c.loop-at-test.true c.loop-at.invariant c.in_ok-read.ensures

pub returns : goal.returns
returns c =
    finished (plain c.args.table.now) c.args.kinds.now c.loop-at.at c.args.self.now c.loop-at.self c.end.new.self c.in_ok-whole.whole c.then_some.result c.then_some.ensures c.loop-at-test.false c.loop-at.invariant c.in_ok-whole.ensures

use Rattle.std.proofs.Common.{subst}
use Rattle.jd_grammar.specs.Moves.{ReadsAll}
use Rattle.jd_grammar.specs.Tables.{plain}
use Rattle.jd_grammar.proofs.Readers.{begun_so}
use Rattle.jd_grammar.proofs.reading.parse.Goals as goal

pub returns-in-None-clause-ok : goal.returns-in-None-clause-ok
returns-in-None-clause-ok c =
    subst (ReadsAll (plain c.args.table.now) c.args.kinds.now c.in_ok-machine.machine c.read_all.new.self) c.in-None.is c.in_ok-read_all.ensures c.requires.table.sets c.args.start c.requires.table.passes
    (begun_so c.requires.table.sets (plain c.args.table.now) c.args.start c.in_ok-machine.machine c.requires.table.passes c.requires.start c.in_ok-machine.ensures)

pub returns-in-Some-clause-err : goal.returns-in-Some-clause-err
returns-in-Some-clause-err c =
    subst (ReadsAll (plain c.args.table.now) c.args.kinds.now c.in_ok-machine.machine c.read_all.new.self) c.in-Some.is c.in_ok-read_all.ensures c.requires.table.sets c.args.start c.requires.table.passes
    (begun_so c.requires.table.sets (plain c.args.table.now) c.args.start c.in_ok-machine.machine c.requires.table.passes c.requires.start c.in_ok-machine.ensures)

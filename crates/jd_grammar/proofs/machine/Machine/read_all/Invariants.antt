use Rattle.std.proofs.Common.{take}
use Rattle.jd_grammar.specs.Tables.{plain}
use Rattle.jd_grammar.proofs.Readers.{HasRead}
use Rattle.jd_grammar.proofs.machine.Machine.read_all.Given as goal

abbrev pub invariant-loop-at : goal.invariant-loop-at
invariant-loop-at l = HasRead (plain l.table) (take l.at l.kinds) l.fn.self l.self

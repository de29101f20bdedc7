use Rattle.std.specs.Prelude.{reverse}
use Rattle.jd_grammar.specs.Moves.{Keeps}
use Rattle.jd_grammar.specs.Tables.{plain}
use Rattle.jd_grammar.specs.Tests.{lead}
use Rattle.jd_grammar.proofs.machine.Machine.expand.Given as goal

abbrev pub invariant-loop-name : goal.invariant-loop-name
invariant-loop-name l = Keeps (plain l.table) l.kind l.fn.self l.self

abbrev pub decreases-loop-name : goal.decreases-loop-name
decreases-loop-name l = lead (plain l.table) (reverse l.self.stack.items)

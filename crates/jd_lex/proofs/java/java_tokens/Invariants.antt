use Rattle.std.proofs.Common.{length, []}
use Rattle.jd_lex.specs.Lexing.{IsJavaPart}
use Rattle.jd_lex.proofs.Rows.{Front}
use Rattle.jd_lex.proofs.java.java_tokens.Given as goal

abbrev pub invariant-loop-rest : goal.invariant-loop-rest
invariant-loop-rest l = Front IsJavaPart 0 l.bytes [] l.out.items l.here l.rest

abbrev pub decreases-loop-rest : goal.decreases-loop-rest
decreases-loop-rest l = length l.rest

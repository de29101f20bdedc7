use Rattle.std.proofs.Common.{length, drop, IsTrue}
use Rattle.jd_lex.specs.Parts.{NoClose}
use Rattle.jd_lex.specs.Lexing.{IsJmlPart}
use Rattle.jd_lex.proofs.Rows.{Front}
use Rattle.jd_lex.proofs.jml.jml_tokens.Given as goal

abbrev pub invariant-loop-rest : goal.invariant-loop-rest
invariant-loop-rest l = record {
  front : Front IsJmlPart l.at l.text l.fn.out.items l.out.items l.here l.rest;
  known : IsTrue l.unclosed → NoClose (drop 2 l.rest);
}

abbrev pub decreases-loop-rest : goal.decreases-loop-rest
decreases-loop-rest l = length l.rest

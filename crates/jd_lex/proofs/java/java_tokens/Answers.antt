use Rattle.std.proofs.Common.{[]}
use Rattle.jd_lex.specs.Lexing.{IsJavaPart}
use Rattle.jd_lex.proofs.Rows.{front_step}
use Rattle.jd_lex.proofs.java.java_tokens.Goals as goal

pub loop-rest-preserved : goal.loop-rest-preserved
loop-rest-preserved c =
    let l = c.loop-rest in
    rw c.split_at.ensures.back (front_step IsJavaPart 0 c.args.bytes.now [] l.out.items c.java_part.new.out.items l.here l.rest.now c.in-Ok.n l.invariant c.in-Ok.ensures)

use Rattle.jd_lex.specs.Lexing.{IsJmlPart}
use Rattle.jd_lex.proofs.Rows.{front_step}
use Rattle.jd_lex.proofs.Steps.{two_then}
use Rattle.jd_lex.proofs.jml.jml_tokens.Goals as goal

pub loop-rest-preserved : goal.loop-rest-preserved
loop-rest-preserved c =
    let l = c.loop-rest in
    let new = c.jml_part.new.out.items in
    record {
      front = rw c.split_at.ensures.back (front_step IsJmlPart c.args.at c.args.text.now c.args.out.now.items l.out.items new l.here l.rest.now c.in-Ok.n l.invariant.front c.in-Ok.ensures.step);
      known = λ h. rw c.split_at.ensures.back (two_then c.in-Ok.n l.rest.now (c.in-Ok.ensures.known h));
    }

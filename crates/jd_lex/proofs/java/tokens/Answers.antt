use Rattle.std.proofs.Common.{refl, subst, sym}
use Rattle.jd_lex.specs.Lexing.{IsFirstFault}
use Rattle.jd_lex.specs.View.{Refuses, tokens_view}
use Rattle.jd_lex.specs.declared.token.LexRefusal.{LexRefusal}
use Rattle.jd_lex.proofs.First.{escape_first, plain_first, earlier_first}
use Rattle.jd_lex.proofs.java.tokens.Goals as goal

pub returns-in-Some : goal.returns-in-Some
returns-in-Some c = (refl, escape_first c.args.bytes.now (tokens_view c.in-Ok.found.items) c.in-Some.at c.in-Ok.ensures c.in-Some.ensures.some.0 c.in-Some.ensures.some.1)

pub returns-in-None-first_escape : goal.returns-in-None-first_escape
returns-in-None-first_escape c = plain_first c.args.bytes.now c.in-Err.e c.in-Err.ensures (c.in-None-first_escape.ensures.none)

pub returns-in-Some-first_escape : goal.returns-in-Some-first_escape
returns-in-Some-first_escape c =
    let at = c.in-Some-first_escape.at in
    let some = c.in-Some-first_escape.ensures.some in
    subst (λ (e : LexRefusal). Refuses (IsFirstFault c.args.bytes.now) e) (sym c.earlier.ensures) (earlier_first c.args.bytes.now at some.0 some.1 c.in-Err.e c.in-Err.ensures)

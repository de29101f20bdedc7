use Rattle.std.proofs.Common.{ap, map, sym, ◌∙◌, refl}
use Rattle.jd_lex.specs.View.{tokens_view}
use Rattle.jd_jml_attributes.specs.Forms.{form_view}
use Rattle.jd_jml_tokens.specs.Lexemes.{lexeme_view}
use Rattle.jd_jml_trees.specs.Meaning.{clauses_of_tree}
use Rattle.jd_jmlparse.proofs.Deriving.{derives, is_read, read_as, rooted}
use Rattle.jd_jmlparse.proofs.Judging.{faulty, high, read, told_is}
use Rattle.jd_jmlparse.proofs.parse.judged.Goals as goal

pub judge-requires : goal.judge-requires
judge-requires c = record { read = is_read c.rows_fit.ensures.names c.args.place c.args.lexemes.now c.args.order.now c.requires.derived }

pub clauses_of-requires : goal.clauses_of-requires
clauses_of-requires c = record { read = is_read c.rows_fit.ensures.names c.args.place c.args.lexemes.now c.args.order.now c.requires.derived }

pub returns-in-Some-clause-refused : goal.returns-in-Some-clause-refused
returns-in-Some-clause-refused c =
    let ts = tokens_view c.args.tokens.now in
    let ls = map lexeme_view c.args.lexemes.now in
    let s = c.requires.derived in
    let a = form_view c.in-Ok.form in
    let is = told_is ts ls s.0 a (c.in-Ok.ensures (rooted c.args.place s.0) (read_as c.rows_fit.ensures.names c.args.place c.args.lexemes.now c.args.order.now s)) c.requires.seen in
    let shown = faulty c.one_derivation.ensures c.args.place ts s.0 a c.in-Some.at c.min-at.result _ (derives c.args.place ts ls c.args.order.now s c.requires.seen) is c.in-Some.is c.min-at.ensures c.end_of.ensures in
    (refl, shown.0, shown.1, shown.2)

pub returns-in-Some-high-clause-refused : goal.returns-in-Some-high-clause-refused
returns-in-Some-high-clause-refused c =
    let ts = tokens_view c.args.tokens.now in
    let ls = map lexeme_view c.args.lexemes.now in
    let s = c.requires.derived in
    let a = form_view c.in-Ok.form in
    let is = told_is ts ls s.0 a (c.in-Ok.ensures (rooted c.args.place s.0) (read_as c.rows_fit.ensures.names c.args.place c.args.lexemes.now c.args.order.now s)) c.requires.seen in
    let shown = high c.args.place ts s.0 a c.in-Some-high.at c.min-at-in-Some-high.result _ (derives c.args.place ts ls c.args.order.now s c.requires.seen) is c.in_default-fault.is c.in-Some-high.is c.min-at-in-Some-high.ensures c.end_of-in-Some-high.ensures in
    (refl, shown.0, shown.1)

pub returns-in-Ok-clauses_of-clause-read : goal.returns-in-Ok-clauses_of-clause-read
returns-in-Ok-clauses_of-clause-read c =
    let ts = tokens_view c.args.tokens.now in
    let ls = map lexeme_view c.args.lexemes.now in
    let s = c.requires.derived in
    let a = form_view c.in-Ok.form in
    let whole = read_as c.rows_fit.ensures.names c.args.place c.args.lexemes.now c.args.order.now s in
    let is = told_is ts ls s.0 a (c.in-Ok.ensures (rooted c.args.place s.0) whole) c.requires.seen in
    read c.args.place ts s.0 a _ (derives c.args.place ts ls c.args.order.now s c.requires.seen) is c.in_default-fault.is c.in_default-high.is (ap (clauses_of_tree s.0) (sym c.requires.seen) ∙ sym (c.in-Ok-clauses_of.ensures (rooted c.args.place s.0) whole))

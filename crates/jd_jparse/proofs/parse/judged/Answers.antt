use Rattle.std.proofs.Common.{ap, map, sym, ◌∙◌, refl}
use Rattle.jd_lex.specs.View.{tokens_view}
use Rattle.jd_java_attributes.specs.Judging.{attributes_view}
use Rattle.jd_java_tokens.specs.Lexemes.{lexeme_view}
use Rattle.jd_java_trees.specs.Meaning.{unit_of}
use Rattle.jd_jparse.proofs.Deriving.{derives, is_read, read_as, rooted}
use Rattle.jd_jparse.proofs.Judging.{faulty, high, read, told_is}
use Rattle.jd_jparse.proofs.parse.judged.Goals as goal

pub judge-requires : goal.judge-requires
judge-requires c = record { read = is_read c.rows_fit.ensures.names c.args.lexemes.now c.args.order.now c.requires.derived }

pub tree_of-requires : goal.tree_of-requires
tree_of-requires c = record { read = is_read c.rows_fit.ensures.names c.args.lexemes.now c.args.order.now c.requires.derived }

pub returns-in-Some-clause-refused : goal.returns-in-Some-clause-refused
returns-in-Some-clause-refused c =
    let ts = tokens_view c.args.tokens.now in
    let ls = map lexeme_view c.args.lexemes.now in
    let s = c.requires.derived in
    let a = attributes_view c.in-Ok.attributes in
    let is = told_is ts ls s.0 a (c.in-Ok.ensures (rooted s.0) (read_as c.rows_fit.ensures.names c.args.lexemes.now c.args.order.now s)) c.requires.seen in
    let shown = faulty c.one_derivation.ensures ts s.0 a c.in-Some.at c.min-at.result _ c.requires.supported (derives ts ls c.args.order.now s c.requires.seen) is (sym c.in-Some.ensures) c.min-at.ensures c.end_of.ensures in
    (refl, shown.0, shown.1, shown.2)

pub returns-in-Some-high-clause-refused : goal.returns-in-Some-high-clause-refused
returns-in-Some-high-clause-refused c =
    let ts = tokens_view c.args.tokens.now in
    let ls = map lexeme_view c.args.lexemes.now in
    let s = c.requires.derived in
    let a = attributes_view c.in-Ok.attributes in
    let is = told_is ts ls s.0 a (c.in-Ok.ensures (rooted s.0) (read_as c.rows_fit.ensures.names c.args.lexemes.now c.args.order.now s)) c.requires.seen in
    let shown = high ts s.0 a c.in-Some-high.at c.min-at-in-Some-high.result _ c.requires.supported (derives ts ls c.args.order.now s c.requires.seen) is (sym c.in_default-fault.ensures) c.in-Some-high.is c.min-at-in-Some-high.ensures c.end_of-in-Some-high.ensures in
    (refl, shown.0, shown.1)

pub returns-in-Ok-tree_of-clause-read : goal.returns-in-Ok-tree_of-clause-read
returns-in-Ok-tree_of-clause-read c =
    let ts = tokens_view c.args.tokens.now in
    let ls = map lexeme_view c.args.lexemes.now in
    let s = c.requires.derived in
    let a = attributes_view c.in-Ok.attributes in
    let whole = read_as c.rows_fit.ensures.names c.args.lexemes.now c.args.order.now s in
    let is = told_is ts ls s.0 a (c.in-Ok.ensures (rooted s.0) whole) c.requires.seen in
    read ts s.0 a _ c.requires.supported (derives ts ls c.args.order.now s c.requires.seen) is (sym c.in_default-fault.ensures) c.in_default-high.is (ap (unit_of s.0) (sym c.requires.seen) ∙ sym (c.in-Ok-tree_of.ensures (rooted s.0) whole))

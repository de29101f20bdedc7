use Rattle.std.proofs.Common.{◌≡◌, true, sym, ap, subst, ◌∙◌}
use Rattle.std.specs.Prelude.{IfOk, IfErr}
use Rattle.jd_grammar.specs.Grammars.{Spells}
use Rattle.jd_grammar.specs.Readings.{IsRefusal}
use Rattle.jd_grammar.specs.Tables.{PlainTable}
use Rattle.jd_grammar.specs.Tests.{IsLl1, is_start}
use Rattle.jd_jml_grammar.proofs.Passes.{passes, has_productions, starts}
use Rattle.jd_jml_grammar.proofs.parse_jml.Goals as goal

pub parse-requires-clause-table : goal.parse-requires-clause-table
parse-requires-clause-table c = subst IsLl1 (sym c.jml_table.ensures) passes

pub parse-requires-clause-start : goal.parse-requires-clause-start
parse-requires-clause-start c = subst (λ (t : PlainTable). is_start t c.args.place ≡ true) (sym c.jml_table.ensures) (starts c.args.place c.requires)

pub returns-clause-ok : goal.returns-clause-ok
returns-clause-ok c =
    subst (λ g. IfOk c.parse.result (λ order. Spells g c.args.place c.args.kinds.now order.items)) (ap (λ (t : PlainTable). t.productions) c.jml_table.ensures ∙ has_productions) c.parse.ensures.ok

pub returns-clause-err : goal.returns-clause-err
returns-clause-err c =
    subst (λ g. IfErr c.parse.result (IsRefusal g c.args.place c.args.kinds.now)) (ap (λ (t : PlainTable). t.productions) c.jml_table.ensures ∙ has_productions) c.parse.ensures.err

use Rattle.jd_grammar.proofs.Slices.{chosen_yes, chosen_other, chosen_kept}
use Rattle.jd_grammar.proofs.table.choose.Goals as goal

pub returns : goal.returns
returns c =
    chosen_yes c.args.table.now c.entry_at-number.result _ c.args.name c.args.kind (0, 0, 0, 0) c.symbols_in.result.now c.if-number-eq0.false c.entry_at-number.ensures c.if-at-table.false c.if-rule-name.false c.if-rule-kind.false c.symbols_in.ensures

pub returns-then-rule-name : goal.returns-then-rule-name
returns-then-rule-name c =
    chosen_other c.args.table.now c.entry_at-number.result _ c.args.name c.args.kind (0, 0, 0, 0) c.if-number-eq0.false c.entry_at-number.ensures c.if-at-table.false c.if-rule-name.true

pub returns-then-rule-kind : goal.returns-then-rule-kind
returns-then-rule-kind c =
    chosen_kept c.args.table.now c.entry_at-number.result _ c.args.name c.args.kind (0, 0, 0, 0) c.if-number-eq0.false c.entry_at-number.ensures c.if-at-table.false c.if-rule-kind.true

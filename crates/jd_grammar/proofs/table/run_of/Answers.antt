use Rattle.jd_grammar.proofs.Runs.{has_run}
use Rattle.jd_grammar.proofs.table.run_of.Goals as goal

pub returns : goal.returns
returns c =
    has_run c.args.table.now _ c.args.kind (0, 0, 0, 0, 0, 0, 0) c.numbers_in-order.result.now c.symbols_in-before.result.now c.symbols_in-behind.result.now c.if-at-table.false c.if-run-kind.false c.numbers_in-order.ensures c.symbols_in-before.ensures c.symbols_in-behind.ensures

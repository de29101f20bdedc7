use Rattle.std.proofs.Common.{sym, ◌∙◌}
use Rattle.jd_syntax.specs.JavaTrees.{unit_view}
use Rattle.jd_files.specs.Readings.{tree}
use Rattle.jd_files.proofs.Trees.{reads_refused}
use Rattle.jd_files.proofs.reading.read_more.Goals as goal

pub returns-in_ok-with_tree-in-Ok : goal.returns-in_ok-with_tree-in-Ok
returns-in_ok-with_tree-in-Ok c = tree (unit_view c.in-Ok.unit) _ c.in-Ok.ensures.read c.in_ok-with_tree-in-Ok.ensures

pub returns-else-ran_out : goal.returns-else-ran_out
returns-else-ran_out c = reads_refused c.args.so_far c.args.number c.args.bytes.now c.in-Err.refusal _ (sym c.ran_out.ensures ∙ c.if-ran_out.false) c.in-Err.ensures.refused c.with_refused.ensures

use Rattle.std.proofs.Common.{map}
use Rattle.jd_jheads.specs.declared.refusal.HeadRefusal.TheVariants as code
use Rattle.jd_jheads.specs.Firsts.{CycleRefused}
use Rattle.jd_jheads.specs.Placed.{placed_view}
use Rattle.jd_jheads.proofs.NodeCycles.{are_nodes, behind_prelude, first_cycle, is_class}
use Rattle.jd_jheads.proofs.Standing.{passed_on}
use Rattle.jd_jheads.proofs.cycles.check_cycles.Goals as goal

pub first_above_itself-requires-clause-nodes : goal.first_above_itself-requires-clause-nodes
first_above_itself-requires-clause-nodes c = are_nodes c.args.parents.now (map placed_view c.args.classes.now) c.requires.parents

pub returns-in_err-number-clause-refused : goal.returns-in_err-number-clause-refused
returns-in_err-number-clause-refused c = passed_on (CycleRefused (map placed_view c.args.classes.now)) c.from_residual.result code.NoMemory c.from_residual.ensures.1 tt

pub overflow_sub-placed : goal.overflow_sub-placed
overflow_sub-placed c = behind_prelude c.args.parents.now c.args.classes.now c.in-Some.number c.requires.parents (rw c.in-Some.is at c.in_ok-number.ensures)

pub bounds-classes-number : goal.bounds-classes-number
bounds-classes-number c = is_class c.args.parents.now c.args.classes.now c.in-Some.number c.requires.parents (rw c.in-Some.is at c.in_ok-number.ensures)

pub returns-clause-refused : goal.returns-clause-refused
returns-clause-refused c = first_cycle c.args.parents.now c.args.classes.now c.in-Some.number c.requires.parents (rw c.in-Some.is at c.in_ok-number.ensures) c.index-classes-number.result c.index-classes-number.is

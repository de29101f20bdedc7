-- The classes of what the machine throws are the same by the tables and by what the task tells.
use Rattle.std.proofs.Common.{sym}
use Rattle.jd_schema_instances.specs.Choosing.{ThrowTheSame, program_by}
use Rattle.jd_schema_instances.specs.declared.choice.Chosen.{Chosen}
use Rattle.jd_sequent.specs.Obligations.{PlainTask}
use Rattle.jd_told_programs.specs.Told.{told_setting}
use Rattle.jd_taclet_rules.specs.Machine.{AreMachineClasses}

pub throw_same : (t : PlainTask) (b : Chosen) → AreMachineClasses t b.machine → ThrowTheSame (told_setting t).program (program_by b)
throw_same t b h = record {
  null_pointer = sym h.null_pointer;
  division_by_zero = sym h.division_by_zero;
  out_of_bounds = sym h.out_of_bounds;
  bad_cast = sym h.bad_cast;
  negative_size = sym h.negative_size;
}

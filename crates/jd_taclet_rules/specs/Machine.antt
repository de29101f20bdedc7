-- The classes of what the machine throws, by what a task tells of its program.
use Rattle.std.specs.Prelude.{◌≡◌}
use Rattle.jd_schema_instances.specs.declared.choice.MachineClasses.{MachineClasses}
use Rattle.jd_sequent.specs.Obligations.{PlainTask}
use Rattle.jd_told_programs.specs.Told.{told_setting}

pub record AreMachineClasses (t : PlainTask) (m : MachineClasses) : Type 0 where
  pub null_pointer : m.null_pointer.0 ≡ (told_setting t).program.null_pointer
  pub division_by_zero : m.division_by_zero.0 ≡ (told_setting t).program.arithmetic
  pub out_of_bounds : m.out_of_bounds.0 ≡ (told_setting t).program.bounds
  pub bad_cast : m.bad_cast.0 ≡ (told_setting t).program.cast
  pub negative_size : m.negative_size.0 ≡ (told_setting t).program.negative_size

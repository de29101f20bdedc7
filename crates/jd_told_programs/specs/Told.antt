-- What a task tells of its program, as a setting without bodies: what rows of rules ask of a program is computed from it.
use Rattle.std.specs.Prelude.{List, None, Option, Some, codes, cond, length, nat_lt, reverse, suc, zero, ◌≡◌, ◌∷◌, ℕ, []}
use Rattle.std.specs.List.{slice_get}
use Rattle.std.specs.Option.{unwrap_or}
use Rattle.jd_model.specs.Cases.{Case, SpecifiedProgram}
use Rattle.jd_model.specs.Programs.{Program}
use Rattle.jd_model.specs.Tables.{invariants_in}
use Rattle.jd_model.specs.Truth.{Setting}
use Rattle.jd_names.specs.Tables.{ClassTables}
use Rattle.jd_sequent.specs.Obligations.{PlainTask}
use Rattle.jd_sequent.specs.TaskMeaning.{TaskStandsFor}
use Rattle.jd_task_classes.specs.Classes.{PlainClasses, named_in, parents_in}
use Rattle.jd_task_classes.specs.Standing.{declared_among, field_type_in}

-- ---- classes

-- what is above, where what is above a class is known
abbrev pub line_above : (ℕ → List ℕ) → Option (Option ℕ) → List ℕ
line_above above None = []
line_above above (Some None) = []
line_above above (Some (Some c)) = above c

-- a class and those above it, so many at most
abbrev pub line : List (Option ℕ) → ℕ → ℕ → List ℕ
line parents zero c = []
line parents (suc n) c = c ∷ line_above (line parents n) (slice_get parents c)

-- Object first; none of a number that no class has
abbrev pub superclasses_in : ClassTables → ℕ → List ℕ
superclasses_in t c = cond (nat_lt c (length t.classes)) (reverse (line (parents_in t) (length t.classes) c)) []

abbrev pub number_in : ClassTables → List ℕ → ℕ
number_in t name = unwrap_or (named_in t name) 0

abbrev pub told_program : PlainClasses → Program
told_program k = record {
  superclasses = superclasses_in k.tables;
  object = number_in k.tables (codes "Object");
  throwable = number_in k.tables (codes "Throwable");
  null_pointer = number_in k.tables (codes "NullPointerException");
  arithmetic = number_in k.tables (codes "ArithmeticException");
  bounds = number_in k.tables (codes "ArrayIndexOutOfBoundsException");
  cast = number_in k.tables (codes "ClassCastException");
  negative_size = number_in k.tables (codes "NegativeArraySizeException");
  field_type = λ f. field_type_in k.tables (slice_get k.tables.fields f);
  has_field = λ c f. declared_among (superclasses_in k.tables c) (slice_get k.tables.fields f);
  lookup = λ c m. None;
  body = λ m. None;
}

abbrev pub told_setting : PlainTask → Setting
told_setting t = record { program = told_program t.classes; invariants = λ c. invariants_in t.contracts.invariants c }

-- ---- what it leaves out

abbrev pub without_bodies : Program → Program
without_bodies p = record {
  superclasses = p.superclasses;
  object = p.object;
  throwable = p.throwable;
  null_pointer = p.null_pointer;
  arithmetic = p.arithmetic;
  bounds = p.bounds;
  cast = p.cast;
  negative_size = p.negative_size;
  field_type = p.field_type;
  has_field = p.has_field;
  lookup = λ c m. None;
  body = λ m. None;
}

abbrev pub setting_without_bodies : Setting → Setting
setting_without_bodies g = record { program = without_bodies g.program; invariants = g.invariants }

-- ---- the law

abbrev pub ToldIsThat : Type 0
ToldIsThat = (t : PlainTask) (p : SpecifiedProgram) (c : Case) → TaskStandsFor t p c → told_setting t ≡ setting_without_bodies p.setting

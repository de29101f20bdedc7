-- The instantiation that bindings choose, and a program of which only the classes of what the machine throws count.
use Rattle.std.specs.Prelude.{◌≡◌, false, None, []}
use Rattle.jd_model.specs.Programs.{Program, IntType}
use Rattle.jd_patterns.specs.Chosen.{chosen}
use Rattle.jd_patterns.specs.Instances.{Instance, of_formula}
use Rattle.jd_patterns.specs.Patterns.{FormulaPattern}
use Rattle.jd_schema_matching.specs.PartViews.{bindings}
use Rattle.jd_schema_matching.specs.Tested.{tests}
use Rattle.jd_schema_instances.specs.declared.choice.Chosen.{Chosen}

-- what the machine throws is of the same classes in both
pub record ThrowTheSame (p q : Program) : Type 0 where
  pub null_pointer : p.null_pointer ≡ q.null_pointer
  pub division_by_zero : p.arithmetic ≡ q.arithmetic
  pub out_of_bounds : p.bounds ≡ q.bounds
  pub bad_cast : p.cast ≡ q.cast
  pub negative_size : p.negative_size ≡ q.negative_size

-- instances of formulas depend on nothing else of a program
abbrev pub InstancesAreAlike : Type 0
InstancesAreAlike = (p q : Program) (σ : Instance) → ThrowTheSame p q → (a : FormulaPattern) → of_formula p σ a ≡ of_formula q σ a

abbrev pub program_by : Chosen → Program
program_by b = record {
  superclasses = λ c. [];
  object = 0;
  throwable = 0;
  null_pointer = b.machine.null_pointer.0;
  arithmetic = b.machine.division_by_zero.0;
  bounds = b.machine.out_of_bounds.0;
  cast = b.machine.bad_cast.0;
  negative_size = b.machine.negative_size.0;
  field_type = λ f. IntType;
  has_field = λ c f. false;
  lookup = λ c m. None;
  body = λ m. None;
}

abbrev pub instance_by : Chosen → Instance
instance_by b = chosen tests (bindings b.found.now)

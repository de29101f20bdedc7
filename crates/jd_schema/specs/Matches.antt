-- What makes a row's find the part at a place.
use Rattle.std.specs.Prelude.{List, None, Option, Some, [], false}
use Rattle.jd_model.specs.Places.{FormulaPart, TermPart}
use Rattle.jd_model.specs.Places as places
use Rattle.jd_model.specs.Programs.{IntType, Program}
use Rattle.jd_pattern_laws.specs.Laws.{IsDecided, MakesFormula, MakesTerm}
use Rattle.jd_patterns.specs.Bindings.{Bindings}
use Rattle.jd_patterns.specs.Chosen.{AllBound}
use Rattle.jd_patterns.specs.Instances.{Instance}
use Rattle.jd_patterns.specs.Variables.{Variable}
use Rattle.jd_schema_instances.specs.declared.choice.MachineClasses.{MachineClasses}
use Rattle.jd_schema_matching.specs.Tested.{tests}
use Rattle.jd_taclet_stages.specs.Ready.{maybe_variables}
use Rattle.jd_taclet_stages.specs.Stages.{matched}
use Rattle.jd_taclets.specs.Taclets.{FormulaFind, Pattern, TermFind}

-- the instantiation makes the find this part
abbrev pub MakesPart : Program → Instance → Option Pattern → places.Part → Type 0
MakesPart p σ (Some (FormulaFind a)) (FormulaPart x) = MakesFormula p σ a x
MakesPart p σ (Some (TermFind t)) (TermPart x) = MakesTerm p σ t x
MakesPart p σ f x = ⊥

abbrev pub MakesAt : Program → Option Pattern → Option places.Part → Instance → Type 0
MakesAt p f None σ = ⊥
MakesAt p f (Some x) σ = MakesPart p σ f x

abbrev pub BindsAll : List Variable → Option Bindings → Type 0
BindsAll vs None = Unit {0}
BindsAll vs (Some τ) = AllBound vs τ

-- there is none exactly where no instantiation makes the find the part; where there are bindings they choose one that does, and bind each
-- variable of the find once
abbrev pub IsMatch : Program → Option Pattern → Option places.Part → Option Bindings → Type 0
IsMatch p f x o = IsDecided tests [] (MakesAt p f x) o × BindsAll (maybe_variables f) o

-- that answer, worked out
abbrev pub found_in_part : Option Pattern → places.Part → Option Bindings
found_in_part f x = matched tests f x

abbrev pub found_in : Option Pattern → Option places.Part → Option Bindings
found_in f None = None
found_in f (Some x) = found_in_part f x

-- a program of which only the classes of what the machine throws count
abbrev pub thrown_by : MachineClasses → Program
thrown_by m = record {
  superclasses = λ c. [];
  object = 0;
  throwable = 0;
  null_pointer = m.null_pointer.0;
  arithmetic = m.division_by_zero.0;
  bounds = m.out_of_bounds.0;
  cast = m.bad_cast.0;
  negative_size = m.negative_size.0;
  field_type = λ f. IntType;
  has_field = λ c f. false;
  lookup = λ c m. None;
  body = λ m. None;
}

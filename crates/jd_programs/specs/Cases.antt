-- The cases of a program: of each class for each constructor that runs for it and each method that is a member of it (JML Reference
-- Manual, 9.6, 16.1). A method has the cases of those that it overrides too.
use Rattle.std.specs.Prelude.{ℕ, suc, List, [], ◌∷◌, ◌++◌, cond, flat_map, length, Option, Some, None}
use Rattle.std.specs.List.{range_with_len, slice_get}
use Rattle.jd_syntax.specs.JavaTrees.{JavaUnit}
use Rattle.jd_jclasses.specs.Classes.{parents}
use Rattle.jd_jclasses.specs.Members.{Declared, Kind, FieldOf, ConstantOf, RoutineOf}
use Rattle.jd_jclasses.specs.Methods.{routines}
use Rattle.jd_bodies.specs.Declarations.{Declarations}
use Rattle.jd_jml_meaning.specs.JmlContracts.{JmlContract}
use Rattle.jd_jml_meaning.specs.JmlCases.{JmlCase}
use Rattle.jd_specifications.specs.WrittenCases.{contracts}
use Rattle.jd_programs.specs.Members.{constructors_run, declared_as, methods_seen, routine_name, static_routine}

module _ (d : Declarations) where
  abbrev pub contracts_of_kind : ℕ → Kind → List JmlContract
  contracts_of_kind class (FieldOf t) = []
  contracts_of_kind class (ConstantOf n) = []
  contracts_of_kind class (RoutineOf m) = contracts d class m

  abbrev pub contracts_of_declared : Option Declared → List JmlContract
  contracts_of_declared None = []
  contracts_of_declared (Some r) = contracts_of_kind r.class r.kind

-- of each class it and those above it, Object first
module _ (units : List JavaUnit) (lineage : ℕ → List ℕ) (d : Declarations) where
  -- those that are written at the method or constructor of the number
  abbrev pub written_at : ℕ → List JmlContract
  written_at m = contracts_of_declared d (slice_get (routines units) m)

  -- those of all declarations of the method, from the topmost class down to this one
  abbrev pub inherited : ℕ → ℕ → List JmlContract
  inherited c m = flat_map written_at (flat_map (declared_as units (routine_name units m)) (lineage c))

  abbrev pub contracts_in : ℕ → ℕ → List JmlContract
  contracts_in c m = cond (static_routine units m) (written_at m) (inherited c m)

  -- families of methods by their numbers
  module _ (family : ℕ → ℕ) where
    -- numbered from this number on
    abbrev pub numbered : ℕ → ℕ → ℕ → List JmlContract → List JmlCase
    numbered n c m [] = []
    numbered n c m (x ∷ xs) = record { contract = x; class = c; method = m; number = n; body = m; family = family m } ∷ numbered (suc n) c m xs

    abbrev pub constructor_cases : ℕ → ℕ → List JmlCase
    constructor_cases c m = numbered 1 c m (written_at m)

    abbrev pub method_cases : ℕ → ℕ → List JmlCase
    method_cases c m = numbered 1 c m (contracts_in c m)

    abbrev pub cases_of : ℕ → List JmlCase
    cases_of c = flat_map (constructor_cases c) (constructors_run units lineage c) ++ flat_map (method_cases c) (methods_seen units lineage d c)

    -- in the order of the files; the classes that are always there have none
    abbrev pub all_cases : List JmlCase
    all_cases = flat_map cases_of (range_with_len 0 (length (parents units)))

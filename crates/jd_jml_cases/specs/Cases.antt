-- The cases of a method's contract: those of the methods that it overrides, the topmost class first, and its own (JML Reference Manual, 6.2, 9.6).
-- A static method and a constructor have their own alone.
use Rattle.std.specs.Prelude.{ℕ, zero, suc, ◌||◌, cond, List, [], ◌∷◌, ◌++◌, flat_map, length, Option, Some, None}
use Rattle.std.specs.List.{slice_get}
use Rattle.jd_syntax.specs.JavaTrees.{JavaUnit}
use Rattle.jd_ancestry.specs.Walks.{parent_of}
use Rattle.jd_jclasses.specs.Classes.{parents}
use Rattle.jd_jclasses.specs.Members.{Declared, Kind, FieldOf, ConstantOf, RoutineOf, is_constructor, is_static}
use Rattle.jd_jclasses.specs.Methods.{routines}
use Rattle.jd_programs.specs.Members.{declared_as}
use Rattle.jd_jml_written.specs.Marked.{PlainCase, own_cases}

-- so many classes from a class up, the topmost first
abbrev pub classes_up : List (Option ℕ) → ℕ → Option ℕ → List ℕ
classes_up parents zero c = []
classes_up parents (suc n) None = []
classes_up parents (suc n) (Some c) = classes_up parents n (parent_of parents c) ++ c ∷ []

abbrev pub cases_of_kind : ℕ → Kind → List PlainCase
cases_of_kind m (FieldOf t) = []
cases_of_kind m (ConstantOf n) = []
cases_of_kind m (RoutineOf r) = own_cases m r

abbrev pub cases_of_declared : ℕ → Option Declared → List PlainCase
cases_of_declared m None = []
cases_of_declared m (Some r) = cases_of_kind m r.kind

module _ (units : List JavaUnit) where
  -- a class and those above it, Object first: there are no more than all classes
  abbrev pub lineage : ℕ → List ℕ
  lineage c = classes_up (parents units) (length (parents units)) (Some c)

  -- those that are written at the method or constructor of a number
  abbrev pub written_at : ℕ → List PlainCase
  written_at m = cases_of_declared m (slice_get (routines units) m)

  -- those of all declarations of a name, from the topmost class down to this one
  abbrev pub inherited : List ℕ → ℕ → List PlainCase
  inherited name c = flat_map written_at (flat_map (declared_as units name) (lineage c))

  abbrev pub cases_of_routine : ℕ → Option Declared → List PlainCase
  cases_of_routine m None = []
  cases_of_routine m (Some r) = cond (is_static r.kind || is_constructor r.kind) (written_at m) (inherited r.name.name r.class)

  -- of a method or constructor, by their numbers
  abbrev pub method_cases : ℕ → List PlainCase
  method_cases m = cases_of_routine m (slice_get (routines units) m)

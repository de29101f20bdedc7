-- What the tables tell.
use Rattle.std.specs.Prelude.{ℕ, ◌+◌, false, List, [], Option, Some, None, is_some}
use Rattle.std.specs.List.{slice_get}
use Rattle.std.specs.Option.{option_and_then}
use Rattle.jd_ancestry.specs.Walks.{parent_of}
use Rattle.jd_bodies.specs.Declarations.{Declarations, Signature}
use Rattle.jd_declared.specs.Named.{value_at}
use Rattle.jd_declared.specs.Walks.{it_is, meeting, nearest, steps}
use Rattle.jd_declared.specs.declared.declared.Declared.{Declared}
use Rattle.jd_declared.specs.declared.declared.Routine.{Routine}
use Rattle.jd_declared.specs.declared.named.Named.{Named}

-- what a class has of its own by a name
abbrev pub own_value : {V : Type 0} → List (Named V) → List ℕ → ℕ → Option V
own_value maps name c = option_and_then (λ m. value_at m name) (slice_get maps c)

abbrev pub routine_view : Routine → Signature
routine_view r = record { class = r.class; static = r.is_static; parameters = r.parameters.items; result = r.result }

abbrev pub signature_in : Option Routine → Signature
signature_in None = record { class = 0; static = false; parameters = []; result = None }
signature_in (Some r) = routine_view r

abbrev pub told : Declared → Declarations
told d = record {
  class_named = λ name. value_at d.classes name;
  parent = λ c. parent_of d.parents.items c;
  is_subclass = λ a b. is_some (nearest d.parents.items (it_is b) (steps d.depths.items a) a);
  joined = λ a b. meeting d.parents.items d.depths.items (steps d.depths.items a + steps d.depths.items b) a b;
  variable = λ c name. nearest d.parents.items (own_value d.variables.items name) (steps d.depths.items c) c;
  method = λ c name. nearest d.parents.items (own_value d.methods.items name) (steps d.depths.items c) c;
  constructor = λ c. nearest d.parents.items (parent_of d.constructors.items) (steps d.depths.items c) c;
  signature = λ m. signature_in (slice_get d.routines.items m);
}

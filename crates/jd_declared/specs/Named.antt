-- Values by names.
use Rattle.std.specs.Prelude.{ℕ, List, [], ◌∷◌, if◌then◌else◌, Option, Some, None}
use Rattle.std.specs.Str.{bytes_eq}
use Rattle.indexmap.specs.IndexMap.{get_by}
use Rattle.jd_declared.specs.declared.named.Named.{Named}

abbrev pub value_at : {V : Type 0} → Named V → List ℕ → Option V
value_at m name = get_by (λ k. bytes_eq name k.items) m.values

-- the value that a name has, or else, if it is this one, that
abbrev pub or_named : {V : Type 0} → Option V → List ℕ → V → List ℕ → Option V
or_named (Some v) name value q = Some v
or_named None name value q = if bytes_eq name q then Some value else None

-- the first value of the name
abbrev pub first_named : {V : Type 0} → List (List ℕ × V) → List ℕ → Option V
first_named [] q = None
first_named (p ∷ ps) q = if bytes_eq p.0 q then Some p.1 else first_named ps q

-- the value that a name has, or else the first that follows
abbrev pub then_named : {V : Type 0} → Option V → List (List ℕ × V) → List ℕ → Option V
then_named (Some v) ps q = Some v
then_named None ps q = first_named ps q

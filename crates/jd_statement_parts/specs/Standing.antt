-- What there is by now, and what is in scope.
use Rattle.std.specs.Prelude.{◌≡◌, ℕ, List, ◌∷◌}
use Rattle.jd_syntax.specs.JavaTrees.{JavaDeclarator}
use Rattle.jd_bodies.specs.Bodies.{Lines, initial_lines}
use Rattle.jd_bodies.specs.Declarations.{Declarations}
use Rattle.jd_bodies.specs.declared.place.Place.{Place}
use Rattle.jd_bodies.specs.declared.value.ValueType.{ValueType}
use Rattle.jd_bodies.specs.Scopes.{Local}
use Rattle.jd_bodies.specs.Variables as plain
use Rattle.jd_code_makers.specs.Held.{IsProgress, Works, parts}
use Rattle.jd_code_makers.specs.declared.progress.Progress.{Progress}

-- this is there, and these are in scope, where memory has sufficed for all
pub record Stands (p : Progress) (scope : List Local) (q : plain.Progress) (locals : List Local) : Type 0 where
  pub held : Works p → IsProgress (parts p) q × (scope ≡ locals)

abbrev pub local_of : List ℕ → ValueType → Local
local_of x t = record { name = x; type = t }

-- a declared local, which is in scope in its own first value
abbrev pub declared_one : Declarations → Place → ValueType → JavaDeclarator → List Local → plain.Progress → Lines
declared_one d place t x ls q = initial_lines d place (local_of x.name.name t ∷ ls) x.name t x.value (plain.with_local x.name.name t q)

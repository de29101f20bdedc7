-- A parameter in scope.
use Rattle.std.specs.Prelude.{ℕ}
use Rattle.jd_syntax.specs.JavaTrees.{JavaParameter}
use Rattle.jd_bodies.specs.Declarations.{Declarations}
use Rattle.jd_specifications.specs.Resolution.{AnArgument, Entry}
use Rattle.jd_specifications.specs.WrittenCases.{type_written}

-- the argument at a position
abbrev pub entry_of : Declarations → ℕ → JavaParameter → Entry
entry_of d n p = record { name = p.name.name; known = AnArgument n; type = type_written d p.ty }

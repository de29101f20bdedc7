-- What is proved of the resolution of JML.
use Rattle.std.specs.Prelude.{ℕ, List, [], ◌∷◌}
use Rattle.jd_syntax.specs.SpecTrees.{PlainSpec, PlainLocation}
use Rattle.jd_bodies.specs.declared.value.ValueType.{ValueType}
use Rattle.jd_bodies.specs.Declarations.{Declarations}
use Rattle.jd_jml_meaning.specs.Scopes.{Scoped, LocationScoped}
use Rattle.jd_specifications.specs.Resolution.{Entry, binders_then, resolved, location}

-- how many of the names in scope are bound variables
abbrev pub binders : List Entry → ℕ
binders [] = 0
binders (e ∷ es) = binders_then e.known (binders es)

-- each bound variable has its binder: among the names in scope, or in the expression
pub record ResolvedIsScoped : Type 0 where
  pub expressions : (d : Declarations) (class : ℕ) (result : ValueType) (es : List Entry) (e : PlainSpec) → Scoped (binders es) (resolved d class result es e)
  pub locations_ : (d : Declarations) (class : ℕ) (result : ValueType) (es : List Entry) (l : PlainLocation) → LocationScoped (binders es) (location d class result es l)

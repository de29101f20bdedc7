-- What an answer says, and what bindings tell of a variable.
use Rattle.std.specs.Prelude.{Bool, cond, [], ◌∷◌, ◌++◌, Option, Some, None}
use Rattle.jd_patterns.specs.Patterns.{SchemaVar}
use Rattle.jd_patterns.specs.Bindings.{Part, Bindings, Verdict, OtherKind, Equal, Different, only, compare}
use Rattle.jd_schema_matching.specs.Tested.{tests}

-- the bindings, where there is an answer
abbrev pub answered : Bool → Bindings → Option Bindings
answered b τ = only b (Some τ)

-- what a binding tells of a variable that is to have a part
abbrev pub met : SchemaVar × Part → SchemaVar → Part → Verdict
met e n x = cond (tests.variable.same e.0 n) (compare tests x e.1) OtherKind

-- the first that is told, of the variable itself
abbrev pub or_else : Verdict → Verdict → Verdict
or_else OtherKind v = v
or_else Equal v = Equal
or_else Different v = Different

abbrev pub looked : SchemaVar → Part → Bindings → Verdict
looked n x [] = OtherKind
looked n x (e ∷ τ) = or_else (met e n x) (looked n x τ)

-- the bindings then
abbrev pub told : Verdict → SchemaVar → Part → Bindings → Option Bindings
told OtherKind n x τ = Some (τ ++ (n, x) ∷ [])
told Equal n x τ = Some τ
told Different n x τ = None

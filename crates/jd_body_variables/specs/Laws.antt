-- What holds of the variables of a body.
use Rattle.std.specs.Prelude.{◌≡◌, ℕ, Bool, false, All, List, ◌++◌}
use Rattle.jd_syntax.specs.CodeNames.{is_special}
use Rattle.jd_syntax.specs.JavaTrees.{JavaMethod}
use Rattle.jd_syntax.specs.Names.{Declared}
use Rattle.jd_bodies.specs.Bodies.{begun, body_of, with_parameters}
use Rattle.jd_bodies.specs.Declarations.{Declarations}
use Rattle.jd_bodies.specs.Refused.{place_of}
use Rattle.jd_body_variables.specs.Names.{IsMadeOf, MethodPasses}
use Rattle.jd_resolved_bodies.specs.Lexical.{IsLexicalMethod}

-- what a body adds to its receiver and parameters stands behind them
abbrev pub BodiesBeginWithParameters : Type 0
BodiesBeginWithParameters =
    (d : Declarations) (class : ℕ) (m : JavaMethod)
    → (more : List Declared) × ((body_of d class m).variables ≡ (with_parameters d m.parameters (begun (place_of d class m))).variables ++ more)

abbrev pub BodyVariablesAreOrdinary : Type 0
BodyVariablesAreOrdinary = (d : Declarations) (class : ℕ) (m : JavaMethod) → IsLexicalMethod m → All (λ (v : Declared). is_special v.name ≡ false) (body_of d class m).variables

-- each is made of a name that the method declares, is a temporary, or `this`
abbrev pub VariablesAreMadeOfNames : Type 0
VariablesAreMadeOfNames = (test : List ℕ → Bool) (d : Declarations) (class : ℕ) (m : JavaMethod) → MethodPasses test m → All (IsMadeOf test) (body_of d class m).variables

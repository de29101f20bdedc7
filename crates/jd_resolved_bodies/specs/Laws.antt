-- What is made of a body that is not refused is resolved.
use Rattle.std.specs.Prelude.{◌≡◌, ℕ, ℤ, true, [], List, Some, Ok}
use Rattle.jd_syntax.specs.JavaTrees.{JavaMethod}
use Rattle.jd_model.specs.Occurrences.{Always, CodeIn}
use Rattle.jd_model.specs.ResolvedBodies.{IsResolvedCode, NotSpecial}
use Rattle.jd_model.specs.WellFormedHeaps.{in_int}
use Rattle.jd_bodies.specs.declared.value.Variable.TheVariants.{Constant}
use Rattle.jd_bodies.specs.Bodies.{PlainBody, body_of}
use Rattle.jd_bodies.specs.Declarations.{Declarations}
use Rattle.jd_bodies.specs.Refused.{method}
use Rattle.jd_bodies.specs.Scopes.{Scope, empty_scope}
use Rattle.jd_resolved_bodies.specs.Lexical.{IsLexicalMethod}

abbrev pub ConstantsFit : Declarations → Type 0
ConstantsFit d = (c : ℕ) (name : List ℕ) (n : ℤ) → d.variable c name ≡ Some (Constant n) → in_int n ≡ true

-- each `break` stands in a block of its label, each literal is in range, and no special variable is assigned
pub record IsResolvedBody (b : PlainBody) : Type 0 where
  pub code : IsResolvedCode [] b.code_
  pub assigned : CodeIn Always NotSpecial b.code_

abbrev pub BodiesAreResolved : Type 0
BodiesAreResolved = (d : Declarations) → ConstantsFit d → (class : ℕ) (m : JavaMethod) → IsLexicalMethod m → (s : Scope) → method d class m empty_scope ≡ Ok s → IsResolvedBody (body_of d class m)

-- A method or constructor, from its parts.
use Rattle.std.proofs.Common.{◌≡◌, ℕ, Bool, false, List, Option, Result, Ok, sym, ap, ◌∙◌}
use Rattle.jd_syntax.specs.JavaTypes.{PlainIdentifier}
use Rattle.jd_syntax.specs.JavaTrees.{JavaMethod, JavaParameter, JavaResult, JavaStmts, OfConstructor, java_stmts}
use Rattle.jd_bodies.specs.declared.fault.Fault.{Fault}
use Rattle.jd_bodies.specs.declared.place.Returns.{Returns}
use Rattle.jd_bodies.specs.declared.value.ValueType.{ValueType}
use Rattle.jd_bodies.specs.Declarations.{Declarations}
use Rattle.jd_bodies.specs.Judgements.{and_then}
use Rattle.jd_bodies.specs.Refused.{begins_with_super, body, method, needs_none, place_of, result_known, returns_of, runs_above, with_parameters}
use Rattle.jd_bodies.specs.Scopes.{Scope}
use Rattle.jd_bodies.specs.Statements.{above_parameters, stmts}

abbrev ok : Scope → Result Scope Fault
ok s = Ok s

module _ (d : Declarations) (class : ℕ) where
  -- a constructor that does not say what runs above it
  pub constructor_above : (name : PlainIdentifier) (r : JavaResult) (says : Bool) (o : Option (List ValueType)) (s : Scope) (k : Result Scope Fault) → r ≡ OfConstructor → says ≡ false → o ≡ above_parameters d (d.parent class) → needs_none d name.at o s ≡ k → runs_above d class name r says s ≡ k
  constructor_above name r says o s k is unsaid parameters told =
      ap (λ x. runs_above d class name x says s) is ∙ ap (λ b. runs_above d class name OfConstructor b s) unsaid ∙ ap (λ ts. needs_none d name.at ts s) (sym parameters) ∙ told

  -- what stands before the body is in order
  pub whole_method : (m : JavaMethod) (ps : List JavaParameter) (returns : Returns) (bs : JavaStmts) (s u : Scope)
      → result_known d m.result s ≡ Ok s → runs_above d class m.name m.result (begins_with_super m.body) s ≡ Ok s → ps ≡ m.parameters → with_parameters d ps s ≡ Ok u → returns ≡ returns_of d m.result → bs ≡ java_stmts m.body
      → method d class m s ≡ stmts d (place_of d class m) returns bs u
  whole_method m ps returns bs s u known above same parameters gives body_ =
      ap (λ r. and_then (body d class m) (and_then (with_parameters d m.parameters) (and_then (runs_above d class m.name m.result (begins_with_super m.body)) r))) known
      ∙ ap (λ r. and_then (body d class m) (and_then (with_parameters d m.parameters) r)) above
      ∙ ap (λ l. and_then (body d class m) (with_parameters d l s)) (sym same)
      ∙ ap (and_then (body d class m)) parameters
      ∙ ap (λ r. stmts d (place_of d class m) r (java_stmts m.body) u) (sym gives)
      ∙ ap (λ l. stmts d (place_of d class m) returns l u) (sym body_)

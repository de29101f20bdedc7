-- What is known of the one method of a class where no token of its body and its JML is refused, and what fits in its JML.
use Rattle.std.proofs.Common.{List, None, Option, [], false, refl, subst, sym, ◌++◌, ◌∷◌, ◌≡◌, ℕ}
use Rattle.std.proofs.lemmas.Option.{none-some}
use Rattle.std.specs.List.{AllByRecursion as Every, flat_map}
use Rattle.std.specs.Option.{option_to_list}
use Rattle.std.specs.Prelude.{Err, Ok, Result}
use Rattle.jd_bodies.specs.Declarations.{Declarations}
use Rattle.jd_bodies.specs.Judgements as judgements
use Rattle.jd_bodies.specs.Refused as bodies
use Rattle.jd_bodies.specs.Scopes.{Scope, empty_scope}
use Rattle.jd_bodies.specs.declared.fault.Fault.{Fault}
use Rattle.jd_bodies.specs.declared.value.ValueType.TheVariants as types
use Rattle.jd_first_tasks.proofs.Shape.{with_method}
use Rattle.jd_java_names.proofs.Every.{every_append}
use Rattle.jd_jml_literals.specs.Fitting.{BlockFits, ClauseFits, UnitFits}
use Rattle.jd_jmlparse.specs.Filled.{parameter_blocks, stmts_blocks}
use Rattle.jd_specifications.specs.Clauses.{Around, Sofar, at_first, before, behind, clause, clauses, may_return}
use Rattle.jd_specifications.specs.Refused as jml
use Rattle.jd_specifications.specs.Scopes.{SpecLocal, and_then, only_if}
use Rattle.jd_specifications.specs.Types.{at_of, expression, type_of, wanted}
use Rattle.jd_specifications.specs.WrittenCases.{all_clauses}
use Rattle.jd_specifications.specs.declared.fault.SpecCause.TheVariants.{BadClause}
use Rattle.jd_specifications.specs.declared.fault.SpecFault.{SpecFault}
use Rattle.jd_spelled_tasks.proofs.Clauses.{IsGood}
use Rattle.jd_spelled_tasks.proofs.Scopes.{Fine}
use Rattle.jd_syntax.specs.JavaTrees.{JavaMethod, MethodMember, java_stmts}
use Rattle.jd_syntax.specs.JavaTypes.{PlainIdentifier}
use Rattle.jd_syntax.specs.SpecTrees.{Ensures, PlainClause, PlainSpecBlock, Requires}

then_fine : {A B : Type 0} (f : A → Result B SpecFault) (r : Result A SpecFault) → Fine (and_then f r) → Fine r
then_fine f (Ok a) h = tt
then_fine f (Err e) h = h

module _ (d : Declarations) where
  -- ---- clauses and blocks

  module _ (a : Around) where
    clause_good : (s : Sofar) (c : PlainClause) → ClauseFits c → Fine (clause d a s c) → IsGood d a c
    clause_good s (Requires at e) fits fine =
        (fits, then_fine (wanted d types.Boolean (at_of e)) (type_of d (before a) false a.locals e) (then_fine (λ t. Ok s) (expression d (before a) types.Boolean a.locals e) fine))
    clause_good s (Ensures at e) fits fine =
        (fits, then_fine (wanted d types.Boolean (at_of e)) (type_of d (behind a) false a.locals e) (then_fine (λ t. only_if (may_return s.word) at BadClause s) (expression d (behind a) types.Boolean a.locals e) fine))
    clause_good s c fits fine = tt

    abbrev AllGood : List PlainClause → Type 0
    AllGood cs = Every (IsGood d a) cs

    clauses_good : (s : Sofar) (cs : List PlainClause) → Every ClauseFits cs → Fine (clauses d a s cs) → AllGood cs
    clauses_good s [] fits fine = tt
    clauses_good s (c ∷ cs) fits fine = by (clause d a s c) refl (λ t. clauses_good t cs fits.1) fine
      where
        by : (r : Result Sofar SpecFault) → clause d a s c ≡ r → ((t : Sofar) → Fine (clauses d a t cs) → AllGood cs) → Fine (and_then (λ t. clauses d a t cs) r) → AllGood (c ∷ cs)
        by (Ok t) e more h = (clause_good s c fits.0 (subst Fine (sym e) tt), more t h)
        by (Err x) e more h = absurd h

    blocks_good : (s : Sofar) (bs : List PlainSpecBlock) → Every BlockFits bs → Fine (jml.blocks d a s bs) → AllGood (all_clauses bs)
    blocks_good s [] fits fine = tt
    blocks_good s (b ∷ bs) fits fine = by (clauses d a s b.clauses) refl (λ t. blocks_good t bs fits.1) fine
      where
        by : (r : Result Sofar SpecFault) → clauses d a s b.clauses ≡ r → ((t : Sofar) → Fine (jml.blocks d a t bs) → AllGood (all_clauses bs)) → Fine (and_then (λ t. jml.blocks d a t bs) r) → AllGood (all_clauses (b ∷ bs))
        by (Ok t) e more h = every_append (IsGood d a) b.clauses (all_clauses bs) (clauses_good s b.clauses fits.0 (subst Fine (sym e) tt)) (more t h)
        by (Err x) e more h = absurd h

  -- ---- the method

  abbrev pub around : JavaMethod → Around
  around m = record { place = record { class = 10; is_static = m.is_static }; result = jml.gives d m.result; locals = jml.parameters d m.parameters [] }

  none_fine : (file : ℕ) (r : Result (List SpecLocal) SpecFault) → jml.fault_or d file r None ≡ None → Fine r
  none_fine file (Ok ls) e = tt
  none_fine file (Err x) e = absurd (none-some (file, x) (sym e))

  none_left : (f : Scope → Result Scope Fault) (r : Result Scope Fault) → bodies.fault_or d 0 (judgements.and_then f r) None ≡ None → (s : Scope) × (r ≡ Ok s)
  none_left f (Ok s) e = (s, refl)
  none_left f (Err x) e = absurd (none-some (0, x) (sym e))

  module _ (at : ℕ) (name : PlainIdentifier) (parent : Option PlainIdentifier) (end : Option PlainSpecBlock) (m : JavaMethod) where
    method_fine : jml.first_fault d (with_method at name parent end m) ≡ None → Fine (jml.method d 10 m)
    method_fine e = then_fine (λ ls. jml.members d 10 [] end) (jml.method d 10 m) (none_fine 0 (jml.members d 10 (MethodMember m ∷ []) end) e)

    pub contract_is_good : jml.first_fault d (with_method at name parent end m) ≡ None → Every BlockFits m.specs → Every (IsGood d (around m)) (all_clauses m.specs)
    contract_is_good e fits =
        blocks_good (around m) at_first m.specs fits
        (then_fine (λ s. jml.stmts d (record { class = 10; is_static = m.is_static }) (java_stmts m.body) (jml.parameters d m.parameters [])) (jml.blocks d (around m) at_first m.specs) (method_fine e))

    pub body_is_fine : bodies.first_fault d (with_method at name parent end m) ≡ None → (s : Scope) × (bodies.method d 10 m empty_scope ≡ Ok s)
    body_is_fine e = none_left (λ s. bodies.members d 10 []) (bodies.method d 10 m empty_scope) e

-- ---- what fits

every_left : {X : Type 0} (P : X → Type 0) (xs ys : List X) → Every P (xs ++ ys) → Every P xs
every_left P [] ys h = tt
every_left P (x ∷ xs) ys h = (h.0, every_left P xs ys h.1)

module _ (at : ℕ) (name : PlainIdentifier) (parent : Option PlainIdentifier) (end : Option PlainSpecBlock) (m : JavaMethod) where
  abbrev own : List PlainSpecBlock
  own = m.specs ++ flat_map parameter_blocks m.parameters ++ stmts_blocks (java_stmts m.body)

  pub contract_fits : Every UnitFits (with_method at name parent end m) → Every BlockFits m.specs
  contract_fits h =
      every_left BlockFits m.specs (flat_map parameter_blocks m.parameters)
      (every_left BlockFits (m.specs ++ flat_map parameter_blocks m.parameters) (stmts_blocks (java_stmts m.body))
      (every_left BlockFits own []
      (every_left BlockFits (own ++ []) (option_to_list end)
      (every_left BlockFits ((own ++ []) ++ option_to_list end) [] h.0))))

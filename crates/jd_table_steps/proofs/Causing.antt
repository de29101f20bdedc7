-- A step of a row within the limits has no cause, and one past them just the last.
use Rattle.std.proofs.Common.{All, List, None, Option, Some, ap, arith, subst, suc, sym, zero, ◌≡◌, ◌∙◌, ℕ, refl}
use Rattle.std.specs.Option.{option_and_then}
use Rattle.jd_model.specs.Places.{FormulaPart, Part, TermPart, at_place, part_at}
use Rattle.jd_model.specs.Programs.{Program}
use Rattle.jd_model.specs.Sequents.{PlainPlace, PlainSequent}
use Rattle.jd_patterns.specs.Instances.{Instance, of_formula, of_term}
use Rattle.jd_patterns.specs.Patterns.{FormulaPattern}
use Rattle.jd_model.specs.declared.sequent.Side.{Side}
use Rattle.jd_sequent.specs.Limits.{IsWithinLimits}
use Rattle.jd_sequent.specs.Obligations.{PlainTask}
use Rattle.jd_sequent.specs.Rules.{IsLeastCause}
use Rattle.jd_sequent.specs.Trees.{PlainStep}
use Rattle.jd_taclet_scripts.specs.Causes.{ActsOn, HasNoFormula, HasNoPlace, IsAdmittedBy, IsOfWrongKind, IsTooLarge, RowCause}
use Rattle.jd_taclet_scripts.specs.Places.{IsFoundAt, MayStandAt}
use Rattle.jd_taclet_scripts.specs.Steps.{IsStepOfRow}
use Rattle.jd_taclet_stages.proofs.Giving.{given_there}
use Rattle.jd_taclets.specs.Taclets.{AtFormula, AtTerm, FormulaFind, Free, OnLeft, OnRight, Pattern, Taclet, TacletKind, TermFind}
use Rattle.jd_told_programs.specs.Told.{told_setting}

no_some : {A : Type 0} {x : A} → None ≡ Some x → ⊥
no_some h = cc

-- ---- the place

module _ (p : Program) (σ : Instance) (s : PlainSequent) where
  there : (k : TacletKind) (f : Option Pattern) (q : PlainPlace) → IsFoundAt p σ s k f (Some q) → (x : Part) × (at_place s q ≡ Some x) × ActsOn k q x
  there OnLeft (Some (FormulaFind a)) q h = (FormulaPart (of_formula p σ a), h.2, (h.0, h.1))
  there OnRight (Some (FormulaFind a)) q h = (FormulaPart (of_formula p σ a), h.2, (h.0, h.1))
  there AtFormula (Some (FormulaFind a)) q h = (FormulaPart (of_formula p σ a), h, tt)
  there AtTerm (Some (TermFind t)) q h = (TermPart (of_term p σ t), h, tt)
  there Free None q h = absurd h
  there Free (Some f) q h = absurd h
  there k f q h = absurd h

  nothing_asked : (k : TacletKind) (f : Option Pattern) → IsFoundAt p σ s k f None → f ≡ None
  nothing_asked k None h = refl
  nothing_asked OnLeft (Some (FormulaFind a)) h = absurd h
  nothing_asked OnLeft (Some (TermFind t)) h = absurd h
  nothing_asked OnRight (Some (FormulaFind a)) h = absurd h
  nothing_asked OnRight (Some (TermFind t)) h = absurd h
  nothing_asked AtFormula (Some (FormulaFind a)) h = absurd h
  nothing_asked AtFormula (Some (TermFind t)) h = absurd h
  nothing_asked AtTerm (Some (FormulaFind a)) h = absurd h
  nothing_asked AtTerm (Some (TermFind t)) h = absurd h
  nothing_asked Free (Some (FormulaFind a)) h = absurd h
  nothing_asked Free (Some (TermFind t)) h = absurd h

  numbered_there : (k : TacletKind) (f : Option Pattern) (place : Option PlainPlace) → IsFoundAt p σ s k f place → HasNoFormula f s place → ⊥
  numbered_there k f None h c = c (nothing_asked k f h)
  numbered_there k f (Some q) h c = no_some (sym (ap (option_and_then (λ a. part_at q.path (FormulaPart a))) c) ∙ (there k f q h).1)

  placed_there : (k : TacletKind) (f : Option Pattern) (place : Option PlainPlace) → IsFoundAt p σ s k f place → HasNoPlace s place → ⊥
  placed_there k f None h c = c
  placed_there k f (Some q) h c = no_some (sym c ∙ (there k f q h).1)

  of_right_kind : (k : TacletKind) (f : Option Pattern) (assumes : List (Side × FormulaPattern)) (place : Option PlainPlace) → IsFoundAt p σ s k f place → MayStandAt assumes s place → IsOfWrongKind k assumes s place → ⊥
  of_right_kind k f assumes None h m c = c
  of_right_kind k f assumes (Some q) h m c =
      let x = there k f q h in
      c.2 (subst (ActsOn k q) (same_some (sym x.1 ∙ c.1)) x.2, m)
    where
      same_some : {A : Type 0} {a b : A} → Some a ≡ Some b → a ≡ b
      same_some e = cc

-- ---- all causes

module _ (r : Taclet) (t : PlainTask) (s : PlainSequent) (step : PlainStep) (ps : List PlainSequent) (is : IsStepOfRow r t s step ps) where
  admitted : IsAdmittedBy r t s step is.instance
  admitted = record {
    new = record {
      assumed = record {
        given = record { found = record { found = is.found; may_stand = is.may_stand; fits = is.find_fits }; given = is.given };
        assumed = is.assumed;
        fit = is.assumed_fit;
      };
      constants = is.constants_new;
      variables = is.variables_new;
    };
    conds = is.conds;
  }

  pub refutes : (n : ℕ) → (IsTooLarge r t s step → n ≡ 13 → ⊥) → RowCause r t s step n → ⊥
  refutes (suc (suc zero)) last c = numbered_there (told_setting t).program is.instance s r.kind r.find step.place is.found c
  refutes (suc (suc (suc zero))) last c = placed_there (told_setting t).program is.instance s r.kind r.find step.place is.found c
  refutes (suc (suc (suc (suc zero)))) last c = of_right_kind (told_setting t).program is.instance s r.kind r.find r.assumes step.place is.found is.may_stand c
  refutes (suc (suc (suc (suc (suc zero))))) last c = c is.instance admitted.new.assumed.given.found
  refutes (suc (suc (suc (suc (suc (suc zero)))))) last c = given_there t (told_setting t).program is.instance r.insts step.insts is.given.each c
  refutes (suc (suc (suc (suc (suc (suc (suc zero))))))) last c = c is.instance admitted.new.assumed.given
  refutes (suc (suc (suc (suc (suc (suc (suc (suc zero)))))))) last c = c is.instance admitted.new.assumed
  refutes (suc (suc (suc (suc (suc (suc (suc (suc (suc zero))))))))) last c = c is.instance admitted.new
  refutes (suc (suc (suc (suc (suc (suc (suc (suc (suc (suc zero)))))))))) last c = c is.instance admitted
  refutes (suc (suc (suc (suc (suc (suc (suc (suc (suc (suc (suc (suc (suc zero))))))))))))) last c = last c refl
  refutes n last c = absurd c

  -- one of its premises is past a limit
  pub only_last : (All IsWithinLimits ps → ⊥) → IsLeastCause (RowCause r t s step) 13
  only_last past = (record { premises = ps; is = is; passes = past }, λ k some lt c. refutes k (λ l e. omega (arith, lt, e)) c)

  -- all are within the limits
  pub none_holds : ((qs : List PlainSequent) → IsStepOfRow r t s step qs → qs ≡ ps) → All IsWithinLimits ps → (n : ℕ) → RowCause r t s step n → ⊥
  none_holds one within n c = refutes n (λ l e. l.passes (subst (All IsWithinLimits) (sym (one l.premises l.is)) within)) c

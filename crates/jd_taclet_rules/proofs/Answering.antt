-- What is answered of a row is answered of the table in which it has the step's name.
use Rattle.std.proofs.Common.{List, MatchResult, None, Some, map, subst, suc, sym, zero, ◌≡◌, ◌∙◌, ℕ}
use Rattle.std.proofs.lemmas.Option.{same_Some}
use Rattle.std.specs.Global.{Vec}
use Rattle.std.specs.declared.result.Result.{Result}
use Rattle.std.specs.declared.result.Result.TheVariants.{Err, Ok}
use Rattle.jd_model.specs.Sequents.{PlainSequent, sequent_view}
use Rattle.jd_model.specs.declared.sequent.Sequent.{Sequent}
use Rattle.jd_sequent.specs.Obligations.{PlainTask}
use Rattle.jd_sequent.specs.Rules.{IsCaused, IsLeastCause, LeadsWithinLimits}
use Rattle.jd_sequent.specs.Trees.{PlainStep}
use Rattle.jd_sequent.specs.declared.bad.Bad.{Bad}
use Rattle.jd_sequent.specs.declared.bad.Bad.TheVariants as bads
use Rattle.jd_taclet_scripts.specs.Causes.{OfRow, RowCause, TacletCause}
use Rattle.jd_taclet_scripts.specs.Steps.{IsTacletStep, row_named}
use Rattle.jd_taclets.specs.Taclets.{Taclet}
use Rattle.jd_taclet_rules.specs.Premises.{IsAnswerOfRow}

module _ (rows : List Taclet) (r : Taclet) (t : PlainTask) (s : PlainSequent) (step : PlainStep) (named : row_named rows step.rule ≡ Some r) where
  none : {A : Type 0} {x : A} → None ≡ Some x → ⊥
  none e = cc

  of_row : (n : ℕ) → OfRow rows step (λ q. RowCause q t s step n) → RowCause r t s step n
  of_row n o = subst (λ q. RowCause q t s step n) (same_Some o.row r (sym o.named ∙ named)) o.holds

  below : (n : ℕ) → TacletCause rows t s step n → RowCause r t s step n
  below zero o = of_row zero o
  below (suc zero) e = absurd (none (sym e ∙ named))
  below (suc (suc n)) o = of_row (suc (suc n)) o

  least : (n : ℕ) → IsLeastCause (RowCause r t s step) (suc (suc n)) → IsLeastCause (TacletCause rows t s step) (suc (suc n))
  least n h = (record { row = r; named = named; holds = h.0 }, λ k some lt c. h.1 k some lt (below k c))

  caused : (b : Bad) → IsCaused (RowCause r t s step) b → IsCaused (TacletCause rows t s step) b
  caused bads.UnknownRule h = absurd h.0
  caused bads.NoFormula h = least 0 h
  caused bads.NoPlace h = least 1 h
  caused bads.WrongPlaceKind h = least 2 h
  caused bads.NoMatch h = least 3 h
  caused bads.MissingInst h = least 4 h
  caused bads.BadInst h = least 5 h
  caused bads.NoAssume h = least 6 h
  caused bads.NotFresh h = least 7 h
  caused bads.SideCondition h = least 8 h
  caused bads.NoContract h = least 9 h
  caused bads.NoDecreases h = least 10 h
  caused bads.TooLarge h = least 11 h
  caused bads.NoMemory h = tt

  pub answered : (x : Result (Vec Sequent) Bad) → IsAnswerOfRow r t s step x
      → MatchResult x (λ v. LeadsWithinLimits (IsTacletStep rows t) s step (map sequent_view v.items)) (λ b. IsCaused (TacletCause rows t s step) b)
  answered (Ok v) h = (record { row = r; named = named; is_step = h.0 }, h.1)
  answered (Err b) h = caused b h

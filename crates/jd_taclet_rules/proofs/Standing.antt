-- What a row finds stands in the sequent, where a premise puts something in its place.
use Rattle.std.proofs.Common.{All, List, None, Option, Some, [], arith, inr, length, map, refl, subst, suc, sym, zero, ◌<◌, ◌≡◌, ◌≤◌, ◌∷◌}
use Rattle.std.specs.List.{slice_index_or}
use Rattle.jd_model.proofs.PutIn.{there_within}
use Rattle.jd_model.specs.Places.{FormulaPart, Part, TermPart, at_place, on_side}
use Rattle.jd_model.specs.Programs.{Program}
use Rattle.jd_model.specs.Sequents.{PlainPlace, PlainSequent}
use Rattle.jd_patterns.specs.Instances.{Instance, of_formula, of_term}
use Rattle.jd_patterns.specs.Patterns.{TermPattern}
use Rattle.jd_taclet_premises.specs.Premises.{CanTake, PlainGoal, Replacement, StandsIn, WithFormula, WithTerm, goal_of}
use Rattle.jd_taclet_scripts.specs.Laws.{IsInShape}
use Rattle.jd_taclet_scripts.specs.Places.{IsFoundAt}
use Rattle.jd_taclet_steps.specs.Steps.{only_goal}
use Rattle.jd_term.specs.Formulas.{PlainFormula}
use Rattle.jd_taclets.specs.Taclets.{AtFormula, AtTerm, FormulaFind, Free, OnLeft, OnRight, Pattern, Taclet, TacletGoal, TacletKind, TermFind}

within : (s : PlainSequent) (q : PlainPlace) (x : Part) → at_place s q ≡ Some x → (0 < q.index) × (q.index ≤ length (on_side s q.side))
within s q x e = there_within (on_side s q.side) q.index q.path x e

formula_stands : (s : PlainSequent) (q : PlainPlace) (x : Part) → at_place s q ≡ Some x → ((a : PlainFormula) × (x ≡ FormulaPart a)) → (n : PlainGoal) → StandsIn s (Some q) n
formula_stands s q x e is n = (within s q x e, takes n.replace)
  where
    takes : (o : Option Replacement) → CanTake s q o
    takes None = within s q x e
    takes (Some (WithFormula c)) = record { formula = is.0; found = subst (λ y. at_place s q ≡ Some y) is.1 e }
    takes (Some (WithTerm t)) = within s q x e

each : {A : Type 0} (P : A → Type 0) (l : List A) → ((x : A) → P x) → All P l
each P l h k d lt = h (slice_index_or l k d)

one : {A : Type 0} (P : A → Type 0) (x : A) → P x → All P (x ∷ [])
one P x h zero d lt = h
one P x h (suc k) d lt = absurd (omega (arith, lt))

none : {A : Type 0} (P : A → Type 0) → All P []
none P k d lt = absurd (omega (arith, lt))

module _ (p : Program) (σ : Instance) (s : PlainSequent) where
  term_stands : (q : PlainPlace) (t : TermPattern) → at_place s q ≡ Some (TermPart (of_term p σ t)) → (goals : List TacletGoal) (u : TermPattern) → goals ≡ only_goal (TermFind u) → All (StandsIn s (Some q)) (map (goal_of p σ) goals)
  term_stands q t e goals u is =
      let b = within s q (TermPart (of_term p σ t)) e in
      subst (λ l. All (StandsIn s (Some q)) (map (goal_of p σ) l)) (sym is) (one (StandsIn s (Some q)) _ (b, b))

  all_stand : (k : TacletKind) (f : Option Pattern) (place : Option PlainPlace) (goals : List TacletGoal)
      → ((t : TermPattern) → f ≡ Some (TermFind t) → k ≡ AtTerm → (u : TermPattern) × (goals ≡ only_goal (TermFind u)))
      → IsFoundAt p σ s k f place → All (StandsIn s place) (map (goal_of p σ) goals)
  all_stand OnLeft (Some (FormulaFind a)) (Some q) goals shape h = each (StandsIn s (Some q)) (map (goal_of p σ) goals) (formula_stands s q (FormulaPart (of_formula p σ a)) h.2 (of_formula p σ a, refl))
  all_stand OnRight (Some (FormulaFind a)) (Some q) goals shape h = each (StandsIn s (Some q)) (map (goal_of p σ) goals) (formula_stands s q (FormulaPart (of_formula p σ a)) h.2 (of_formula p σ a, refl))
  all_stand AtFormula (Some (FormulaFind a)) (Some q) goals shape h = each (StandsIn s (Some q)) (map (goal_of p σ) goals) (formula_stands s q (FormulaPart (of_formula p σ a)) h (of_formula p σ a, refl))
  all_stand AtTerm (Some (TermFind t)) (Some q) goals shape h = let u = shape t refl refl in term_stands q t h goals u.0 u.1
  all_stand Free None None goals shape h = each (StandsIn s None) (map (goal_of p σ) goals) (λ n. tt)
  all_stand Free None (Some q) goals shape h = absurd h
  all_stand Free (Some f) None goals shape h = absurd h
  all_stand Free (Some f) (Some q) goals shape h = absurd h
  all_stand k f place goals shape h = absurd h

pub found_stand : (p : Program) (σ : Instance) (s : PlainSequent) (r : Taclet) → IsInShape r → (place : Option PlainPlace) → IsFoundAt p σ s r.kind r.find place → All (StandsIn s place) (map (goal_of p σ) r.goals)
found_stand p σ s r shape place h = all_stand p σ s r.kind r.find place r.goals (λ t e k. shape (TermFind t) e (inr k)) h

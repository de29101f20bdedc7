-- What is asked of each goal, along goals that are taken one after the other; and the premises that are made so far.
use Rattle.std.proofs.Common.{All, List, [], ap, append_assoc, arith, length, map, subst, suc, sym, ◌++◌, ◌<◌, ◌∙◌, ◌∷◌, ◌≡◌, ℕ}
use Rattle.std.proofs.lemmas.List.{map-append}
use Rattle.std.proofs.lemmas.List.Elements.{All-cons, All-nil}
use Rattle.jd_model.specs.Sequents.{PlainSequent, sequent_view}
use Rattle.jd_model.specs.declared.sequent.Sequent.{Sequent}
use Rattle.jd_taclet_premises.specs.Premises.{PlainGoal}
use Rattle.jd_taclet_premises.specs.Views.{goal_view}
use Rattle.jd_taclet_premises.specs.declared.parts.GoalParts.{GoalParts}

module _ (P : PlainGoal → Type 0) where
  pub head_stands : (g : GoalParts) (all rest : List GoalParts) → all ≡ g ∷ rest → All P (map goal_view all) → P (goal_view g)
  head_stands g all rest e h = subst (λ l. All P (map goal_view l)) e h 0 (goal_view g) (omega arith)

  pub rest_stand : (g : GoalParts) (all rest : List GoalParts) → all ≡ g ∷ rest → All P (map goal_view all) → All P (map goal_view rest)
  rest_stand g all rest e h k d lt = subst (λ l. All P (map goal_view l)) e h (suc k) d (omega (arith, lt))

  pub both_stand : (front : List GoalParts) (g : GoalParts) → All P (map goal_view (front ++ g ∷ [])) → All P (map goal_view front) × P (goal_view g)
  both_stand [] g h = (All-nil P, h 0 (goal_view g) (omega arith))
  both_stand (x ∷ front) g h =
      let more = both_stand front g (λ k d lt. h (suc k) d (omega (arith, lt))) in
      (All-cons P (goal_view x) (map goal_view front) (h 0 (goal_view x) (omega arith)) more.0, more.1)

-- one more premise
pub next_made : (f : PlainGoal → PlainSequent) (made more : List Sequent) (q : Sequent) (g : GoalParts) (all rest : List GoalParts) (whole : List PlainSequent)
    → more ≡ made ++ q ∷ [] → sequent_view q ≡ f (goal_view g) → all ≡ g ∷ rest
    → map sequent_view made ++ map f (map goal_view all) ≡ whole → map sequent_view more ++ map f (map goal_view rest) ≡ whole
next_made f made more q g all rest whole e is split so_far =
    ap (λ l. map sequent_view l ++ map f (map goal_view rest)) e
    ∙ ap (λ l. l ++ map f (map goal_view rest)) (map-append sequent_view made (q ∷ []))
    ∙ append_assoc (map sequent_view made) (sequent_view q ∷ []) (map f (map goal_view rest))
    ∙ ap (λ x. map sequent_view made ++ x ∷ map f (map goal_view rest)) is
    ∙ ap (λ l. map sequent_view made ++ map f (map goal_view l)) (sym split)
    ∙ so_far

-- A rule at a place below updates: where its premises are valid, each the sequent with a goal at the place, the sequent is.
use Rattle.std.proofs.Common.{List, map, subst, sym, ◌≡◌, ◌∷◌, ℕ, ℤ, []}
use Rattle.jd_model.proofs.RightRows.{MeansHere, sound_under}
use Rattle.jd_model.proofs.UpdatePlaces.{around_place}
use Rattle.jd_model.proofs.Wider.{formula_wider}
use Rattle.jd_model.specs.Occurrences.{Always, FormulaIn, FormulasIn, NotIn}
use Rattle.jd_model.specs.Places.{put_at}
use Rattle.jd_model.specs.Sequents.{PlainPlace, PlainSequent}
use Rattle.jd_model.specs.SpecialNames.{entry_measure}
use Rattle.jd_model.specs.Truth.{Setting}
use Rattle.jd_model.specs.UpdatePlaces.{IsUpdatePlace, sequent_with, sequents_with, through}
use Rattle.jd_model.specs.Validity.{AllValid, Valid}
use Rattle.jd_sequent.proofs.Freshness.{front_in, place_in, rest_in, updates_in}
use Rattle.jd_syntax.specs.Names.{Name}
use Rattle.jd_term.specs.Formulas.{Pairs, PlainFormula}

-- names with properties have weaker ones
pub formulas_wider : (P Q P' Q' : Name → Type 0) → ((x : Name) → P x → P' x) → ((x : Name) → Q x → Q' x) → (l : List PlainFormula) → FormulasIn P Q l → FormulasIn P' Q' l
formulas_wider P Q P' Q' p q [] o = tt
formulas_wider P Q P' Q' p q (a ∷ l) o = (formula_wider P Q P' Q' p q a o.0, formulas_wider P Q P' Q' p q l o.1)

-- the formula at the place has the names of the right side
pub at_update_place : (P Q : Name → Type 0) (s : PlainSequent) (p : PlainPlace) (a : PlainFormula) → IsUpdatePlace s p a → FormulasIn P Q s.right → FormulaIn P Q a
at_update_place P Q s p a at h =
    let w = around_place s p a at in
    place_in P Q w.updates a (rest_in P Q w.front (through w.updates a ∷ w.back) (subst (λ (q : PlainSequent). FormulasIn P Q q.right) w.is h)).0

module _ (g : Setting) (d : ℕ) (m : ℤ) (a : PlainFormula) (news : List Name) (s : PlainSequent) (p : PlainPlace) (at : IsUpdatePlace s p a) where
  as_sequents : (front back : List PlainFormula) (us : List Pairs) → ((b : PlainFormula) → put_at s p b ≡ sequent_with s.left front back us b) → (goals : List PlainFormula) → AllValid g d m (map (put_at s p) goals) → AllValid g d m (sequents_with s.left front back us goals)
  as_sequents front back us same [] h = tt
  as_sequents front back us same (b ∷ goals) h = (subst (Valid g d m) (same b) h.0, as_sequents front back us same goals h.1)

  pub sound_below_updates : (goals : List PlainFormula) → MeansHere g d m a news goals → NotIn entry_measure news → FormulasIn Always (λ x. NotIn x news) s.left → FormulasIn Always (λ x. NotIn x news) s.right → AllValid g d m (map (put_at s p) goals) → Valid g d m s
  sound_below_updates goals means old left right h =
      let w = around_place s p a at in
      let whole = subst (λ (q : PlainSequent). FormulasIn Always (λ x. NotIn x news) q.right) w.is right in
      let rest = rest_in Always (λ x. NotIn x news) w.front (through w.updates a ∷ w.back) whole in
      subst (Valid g d m) (sym w.is)
      (sound_under g d m a news goals means old w.updates (updates_in Always (λ x. NotIn x news) w.updates a rest.0) s.left w.front w.back left (front_in Always (λ x. NotIn x news) w.front (through w.updates a ∷ w.back) whole) rest.1
      (as_sequents w.front w.back w.updates w.put goals h))

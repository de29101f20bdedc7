-- Places of rules that act on a formula of the right side which is reached through bodies of updates alone.
use Rattle.std.specs.Prelude.{◌≡◌, ℕ, suc, ◌==◌, if◌then◌else◌, List, [], ◌∷◌, ◌++◌, length, Option, Some, None, option_and_then}
use Rattle.jd_term.specs.Formulas.{Pairs, PlainFormula, Updated}
use Rattle.jd_model.specs.declared.sequent.Side.TheVariants.{Right}
use Rattle.jd_model.specs.Sequents.{PlainSequent, PlainPlace}
use Rattle.jd_model.specs.Places.{FormulaPart, numbered, at_place}

-- what a path through bodies of updates alone leads to; an update's body is its last child
abbrev pub below_updates : List ℕ → PlainFormula → Option PlainFormula
below_updates [] a = Some a
below_updates (k ∷ ks) (Updated u a) = if k == suc (length u) then below_updates ks a else None
below_updates (k ∷ ks) a = None

-- this formula stands at the place
pub record IsUpdatePlace (s : PlainSequent) (p : PlainPlace) (a : PlainFormula) : Type 0 where
  pub right : p.side ≡ Right
  pub found : option_and_then (below_updates p.path) (numbered s.right p.index) ≡ Some a

-- it is what stands there
abbrev pub UpdatePlacesArePlaces : Type 0
UpdatePlacesArePlaces = (s : PlainSequent) (p : PlainPlace) (a : PlainFormula) → IsUpdatePlace s p a → at_place s p ≡ Some (FormulaPart a)

-- a formula below updates
abbrev pub through : List Pairs → PlainFormula → PlainFormula
through [] a = a
through (u ∷ us) a = Updated u (through us a)

-- a sequent with a formula below updates on the right
abbrev pub sequent_with : List PlainFormula → List PlainFormula → List PlainFormula → List Pairs → PlainFormula → PlainSequent
sequent_with left front back us a = record { left = left; right = front ++ (through us a ∷ back) }

-- one for each of these formulas
abbrev pub sequents_with : List PlainFormula → List PlainFormula → List PlainFormula → List Pairs → List PlainFormula → List PlainSequent
sequents_with left front back us [] = []
sequents_with left front back us (a ∷ l) = sequent_with left front back us a ∷ sequents_with left front back us l

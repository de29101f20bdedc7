-- The places of formulas, by paths and by what surrounds them.
use Rattle.std.specs.Prelude.{◌≡◌, ℕ, suc, List, [], ◌∷◌, length, Some}
use Rattle.jd_term.specs.Formulas.{PlainFormula}
use Rattle.jd_model.specs.declared.sequent.Side.TheVariants.{Left, Right}
use Rattle.jd_model.specs.Holes.{Around, Hole, NotH, AndL, OrL, ImpL, IffL, AndR, OrR, ImpR, IffR, AllH, ExH, UpdH, ModalH, plug}
use Rattle.jd_model.specs.Places.{FormulaPart, at_place, put_at}
use Rattle.jd_model.specs.Sequents.{PlainSequent, PlainPlace}
use Rattle.jd_taclet_steps.specs.Steps.{Spot, AtLeft, AtRight, whole}

-- the numbers of the children down to the place; an update's body is its last child
abbrev pub path_of : Around → List ℕ
path_of Hole = []
path_of (NotH h) = 1 ∷ path_of h
path_of (AndL h c) = 1 ∷ path_of h
path_of (OrL h c) = 1 ∷ path_of h
path_of (ImpL h c) = 1 ∷ path_of h
path_of (IffL h c) = 1 ∷ path_of h
path_of (AndR c h) = 2 ∷ path_of h
path_of (OrR c h) = 2 ∷ path_of h
path_of (ImpR c h) = 2 ∷ path_of h
path_of (IffR c h) = 2 ∷ path_of h
path_of (AllH s h) = 1 ∷ path_of h
path_of (ExH s h) = 1 ∷ path_of h
path_of (UpdH u h) = suc (length u) ∷ path_of h
path_of (ModalH m c h) = 1 ∷ path_of h

-- the place below the formula there
abbrev pub place_of : Spot → List ℕ → PlainPlace
place_of (AtLeft f b r) path = record { side = Left; index = suc (length f); path = path }
place_of (AtRight l f b) path = record { side = Right; index = suc (length f); path = path }

-- a place where a formula stands is one that something surrounds
pub record IsSurrounded (s : PlainSequent) (p : PlainPlace) (a : PlainFormula) : Type 0 where
  pub spot : Spot
  pub around : Around
  pub sequent : s ≡ whole spot (plug around a)
  pub place : p ≡ place_of spot (path_of around)

pub record PlacesAreSurrounded : Type 0 where
  pub each : (s : PlainSequent) (p : PlainPlace) (a : PlainFormula) → at_place s p ≡ Some (FormulaPart a) → IsSurrounded s p a
  pub found : (w : Spot) (h : Around) (a : PlainFormula) → at_place (whole w (plug h a)) (place_of w (path_of h)) ≡ Some (FormulaPart a)
  pub put : (w : Spot) (h : Around) (a c : PlainFormula) → put_at (whole w (plug h a)) (place_of w (path_of h)) c ≡ whole w (plug h c)

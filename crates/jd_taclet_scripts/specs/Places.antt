-- Where a step of a row stands in a sequent, and which formulas it assumes.
use Rattle.std.specs.Prelude.{Bool, List, None, Option, Some, false, length, nat_eq, not, suc, true, ◌&&◌, ◌≡◌, ◌∷◌, ◌⊎◌, ℕ, []}
use Rattle.std.specs.Option.{option_map_or}
use Rattle.jd_model.specs.Places.{FormulaPart, LocPart, Part, TermPart, at_place, children, numbered, on_side}
use Rattle.jd_model.specs.Programs.{Program}
use Rattle.jd_model.specs.Sequents.{PlainPlace, PlainSequent}
use Rattle.jd_model.specs.declared.sequent.Side.{Side}
use Rattle.jd_model.specs.declared.sequent.Side.TheVariants.{Left, Right}
use Rattle.jd_patterns.specs.Instances.{Instance, of_formula, of_term}
use Rattle.jd_patterns.specs.Patterns.{FormulaPattern}
use Rattle.jd_taclets.specs.Taclets.{AtFormula, AtTerm, FormulaFind, Free, OnLeft, OnRight, Pattern, TacletKind, TermFind}
use Rattle.jd_term.specs.Formulas.{Modal, PlainFormula, Updated}

-- ---- what surrounds a place

-- the child is an update's body or a modality's formula
abbrev pub is_behind : PlainFormula → ℕ → Bool
is_behind (Updated u a) k = nat_eq k (suc (length u))
is_behind (Modal m c a) k = true
is_behind a k = false

abbrev pub is_behind_part : Part → ℕ → Bool
is_behind_part (FormulaPart a) k = is_behind a k
is_behind_part (TermPart t) k = false
is_behind_part (LocPart l) k = false

-- the path leads into no update's body and into no modality's formula
abbrev pub is_calm : List ℕ → Part → Bool
is_calm [] p = true
is_calm (k ∷ ks) p = not (is_behind_part p k) && option_map_or (is_calm ks) (numbered (children p) k) true

abbrev pub is_calm_place : PlainSequent → PlainPlace → Bool
is_calm_place s p = option_map_or (λ a. is_calm p.path (FormulaPart a)) (numbered (on_side s p.side) p.index) true

-- ---- what is found and what is assumed

-- another formula than the step's own
abbrev pub IsOther : Option PlainPlace → PlainPlace → Type 0
IsOther None q = Unit {0}
IsOther (Some own) q = (own.side ≡ q.side) × (own.index ≡ q.index) → ⊥

module _ (p : Program) (σ : Instance) (s : PlainSequent) where
  -- a whole formula of the side; a formula or a term at any depth; nothing
  abbrev pub IsFoundAt : TacletKind → Option Pattern → Option PlainPlace → Type 0
  IsFoundAt OnLeft (Some (FormulaFind a)) (Some q) = (q.side ≡ Left) × (q.path ≡ []) × (at_place s q ≡ Some (FormulaPart (of_formula p σ a)))
  IsFoundAt OnRight (Some (FormulaFind a)) (Some q) = (q.side ≡ Right) × (q.path ≡ []) × (at_place s q ≡ Some (FormulaPart (of_formula p σ a)))
  IsFoundAt AtFormula (Some (FormulaFind a)) (Some q) = at_place s q ≡ Some (FormulaPart (of_formula p σ a))
  IsFoundAt AtTerm (Some (TermFind t)) (Some q) = at_place s q ≡ Some (TermPart (of_term p σ t))
  IsFoundAt Free None None = Unit {0}
  IsFoundAt k f q = ⊥

  -- a whole formula for each that the row assumes, in order
  abbrev pub AreAssumedAt : Option PlainPlace → List (Side × FormulaPattern) → List (Option PlainPlace) → Type 0
  AreAssumedAt own [] [] = Unit {0}
  AreAssumedAt own (a ∷ l) (Some q ∷ qs) = ((q.side ≡ a.0) × (q.path ≡ []) × (at_place s q ≡ Some (FormulaPart (of_formula p σ a.1))) × IsOther own q) × AreAssumedAt own l qs
  AreAssumedAt own l qs = ⊥

-- a row that assumes something is used in no update's body and no modality's formula
abbrev pub MayStandAt : List (Side × FormulaPattern) → PlainSequent → Option PlainPlace → Type 0
MayStandAt assumes s None = Unit {0}
MayStandAt assumes s (Some q) = (assumes ≡ []) ⊎ (is_calm_place s q ≡ true)

-- What the child of a formula is to the formulas around it.
use Rattle.std.specs.Prelude.{length, if◌then◌else◌, suc, ◌==◌, ℕ}
use Rattle.jd_term.specs.Formulas.{And, Exists, Forall, Iff, Implies, Modal, Not, Or, Pairs, PlainFormula, Updated, formula_view}
use Rattle.jd_taclet_matching.specs.declared.calm.Inside.{Inside}
use Rattle.jd_taclet_matching.specs.declared.calm.Inside.TheVariants as insides

-- an update's body or a modality's formula, no formula, another formula
pub data Inner : Type 0 where
  Behind Elsewhere : Inner
  Within : PlainFormula → Inner

abbrev pub inner_view : Inside → Inner
inner_view insides.Behind = Behind
inner_view (insides.Formula a) = Within (formula_view a.now)
inner_view insides.Elsewhere = Elsewhere

abbrev pub only_part : PlainFormula → ℕ → Inner
only_part a k = if k == 1 then Within a else Elsewhere

abbrev pub two_parts : PlainFormula → PlainFormula → ℕ → Inner
two_parts a c k = if k == 1 then Within a else (if k == 2 then Within c else Elsewhere)

abbrev pub in_update : Pairs → ℕ → Inner
in_update u k = if k == suc (length u) then Behind else Elsewhere

-- the child of this number
abbrev pub inner_of : PlainFormula → ℕ → Inner
inner_of (Not a) k = only_part a k
inner_of (And a c) k = two_parts a c k
inner_of (Or a c) k = two_parts a c k
inner_of (Implies a c) k = two_parts a c k
inner_of (Iff a c) k = two_parts a c k
inner_of (Forall s a) k = only_part a k
inner_of (Exists s a) k = only_part a k
inner_of (Updated u a) k = in_update u k
inner_of (Modal m c a) k = Behind
inner_of a k = Elsewhere

-- The formulas of a list are true together where their conjunction is, and lists may be joined and parted.
use Rattle.std.proofs.Common.{ℕ, List, [], ◌∷◌, ◌++◌}
use Rattle.jd_term.specs.Formulas.{PlainFormula}
use Rattle.jd_model.specs.Conjunctions.{conjunction}
use Rattle.jd_model.specs.States.{State}
use Rattle.jd_model.specs.Truth.{Setting, Truth}
use Rattle.jd_model.specs.Validity.{AllTrue}

module _ (g : Setting) (d : ℕ) (i s : State) where
  pub conj_true : (l : List PlainFormula) → AllTrue g d i s [] l → Truth g d i s [] (conjunction l)
  conj_true [] h = tt
  conj_true (a ∷ []) h = h.0
  conj_true (a ∷ c ∷ l) h = (h.0, conj_true (c ∷ l) h.1)

  pub conj_parts : (l : List PlainFormula) → Truth g d i s [] (conjunction l) → AllTrue g d i s [] l
  conj_parts [] h = tt
  conj_parts (a ∷ []) h = (h, tt)
  conj_parts (a ∷ c ∷ l) h = (h.0, conj_parts (c ∷ l) h.1)

  pub front_true : (l m : List PlainFormula) → AllTrue g d i s [] (l ++ m) → AllTrue g d i s [] l
  front_true [] m h = tt
  front_true (a ∷ l) m h = (h.0, front_true l m h.1)

  pub back_true : (l m : List PlainFormula) → AllTrue g d i s [] (l ++ m) → AllTrue g d i s [] m
  back_true [] m h = h
  back_true (a ∷ l) m h = back_true l m h.1

  pub join_true : (l m : List PlainFormula) → AllTrue g d i s [] l → AllTrue g d i s [] m → AllTrue g d i s [] (l ++ m)
  join_true [] m h k = k
  join_true (a ∷ l) m h k = (h.0, join_true l m h.1 k)

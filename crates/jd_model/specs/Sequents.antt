-- Plain sequents and places, and their views.
use Rattle.std.specs.Prelude.{ℕ, List, map}
use Rattle.jd_term.specs.Formulas.{PlainFormula, formula_view}
use Rattle.jd_model.specs.declared.sequent.Side.{Side}
use Rattle.jd_model.specs.declared.sequent.Place.{Place}
use Rattle.jd_model.specs.declared.sequent.Sequent.{Sequent}

pub record PlainSequent : Type 0 where
  pub left : List PlainFormula
  pub right : List PlainFormula

-- a side, the number of a formula there from 1, and the numbers of the children from it down
pub record PlainPlace : Type 0 where
  pub side : Side
  pub index : ℕ
  pub path : List ℕ

abbrev pub sequent_view : Sequent → PlainSequent
sequent_view s = record { left = map formula_view s.left.items; right = map formula_view s.right.items }

abbrev pub place_view : Place → PlainPlace
place_view p = record { side = p.side; index = p.index; path = p.path.items }

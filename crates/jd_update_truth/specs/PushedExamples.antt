-- Two worked examples of updates pushed inward.
use Rattle.std.specs.Prelude.{◌↔◌, ℕ, pos, List, [], ◌∷◌, codes}
use Rattle.jd_base.specs.declared.sort.Sort.TheVariants.{Int as IntSort}
use Rattle.jd_syntax.specs.Names.{Name}
use Rattle.jd_syntax.specs.Codes.{PlainCode, Set, Variable, Done, Then}
use Rattle.jd_term.specs.declared.formula.Modality.{Modality}
use Rattle.jd_term.specs.Terms.{Number, ProgramVariable}
use Rattle.jd_term.specs.Formulas.{Pairs, PlainFormula, Less, Updated, Modal}
use Rattle.jd_heap.specs.Values.{Value}
use Rattle.jd_model.specs.States.{State}
use Rattle.jd_model.specs.Truth.{Setting, Truth}

abbrev pub variable_w : Name
variable_w = record { text = codes "w"; sort = IntSort }

abbrev pub variable_x : Name
variable_x = record { text = codes "x"; sort = IntSort }

abbrev pub variable_y : Name
variable_y = record { text = codes "y"; sort = IntSort }

abbrev pub variable_z : Name
variable_z = record { text = codes "z"; sort = IntSort }

-- x := y || y := x
abbrev pub swap : Pairs
swap = (variable_x, ProgramVariable variable_y) ∷ (variable_y, ProgramVariable variable_x) ∷ []

-- y := 2 || w := 3 || z := 1 || x := x
abbrev pub four_pairs : Pairs
four_pairs = (variable_y, Number (pos 2)) ∷ (variable_w, Number (pos 3)) ∷ (variable_z, Number (pos 1)) ∷ (variable_x, ProgramVariable variable_x) ∷ []

-- w := 3 || y := 2
abbrev pub two_pairs : Pairs
two_pairs = (variable_w, Number (pos 3)) ∷ (variable_y, Number (pos 2)) ∷ []

-- x = y;
abbrev pub copy_y : PlainCode
copy_y = Then (Set variable_x (Variable variable_y)) Done

abbrev pub x_below_w : PlainFormula
x_below_w = Less (ProgramVariable variable_x) (ProgramVariable variable_w)

pub record PushedExamples : Type 0 where
  -- the pairs of an update act at one time
  pub swapped : (g : Setting) (d : ℕ) (i s : State) (b : List Value) → Truth g d i s b (Less (ProgramVariable variable_y) (ProgramVariable variable_x)) ↔ Truth g d i s b (Updated swap (Less (ProgramVariable variable_x) (ProgramVariable variable_y)))
  -- before a modality z is not needed, nor is x sent to itself
  pub before_modality : (g : Setting) (d : ℕ) (i s : State) (b : List Value) (m : Modality) → Truth g d i s b (Updated two_pairs (Modal m copy_y x_below_w)) ↔ Truth g d i s b (Updated four_pairs (Modal m copy_y x_below_w))

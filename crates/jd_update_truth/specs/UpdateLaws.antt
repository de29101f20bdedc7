-- The laws of updates pushed inward, as statements (The KeY Book, 3.4.3).
use Rattle.std.specs.Prelude.{◌≡◌, ◌↔◌, ℕ, List, [], ◌∷◌}
use Rattle.jd_term.specs.Terms.{PlainTerm, PlainLoc}
use Rattle.jd_term.specs.Formulas.{Pairs, PlainFormula, Updated}
use Rattle.jd_heap.specs.References.{Location}
use Rattle.jd_heap.specs.Values.{Value}
use Rattle.jd_update.specs.Replace.{replace, replace_loc}
use Rattle.jd_update.specs.Push.{joined, push, simplified, live}
use Rattle.jd_model.specs.States.{State, write}
use Rattle.jd_model.specs.TermValues.{value, within}
use Rattle.jd_model.specs.Truth.{Setting, Truth}
use Rattle.jd_update_truth.specs.SortedFormulas.{AreSorted, SortedFormula}

-- the state that a replacement stands for: the right sides in the old state, the first pair of a variable winning
abbrev pub replaced : State → State → List Value → Pairs → State
replaced i s b [] = s
replaced i s b (p ∷ q) = write (replaced i s b q) p.0 (value i s b p.1)

abbrev pub ReplacedValues : Type 0
ReplacedValues = (i s : State) (b : List Value) (q : Pairs) → AreSorted q → (t : PlainTerm) → value i s b (replace q t) ≡ value i (replaced i s b q) b t

abbrev pub ReplacedLocations : Type 0
ReplacedLocations = (i s : State) (b : List Value) (q : Pairs) → AreSorted q → (l : PlainLoc) (x : Location) → within i s b (replace_loc q l) x ≡ within i (replaced i s b q) b l x

-- the formula under a replacement
abbrev pub PushedUnder : Type 0
PushedUnder = (g : Setting) (d : ℕ) (i s : State) (b : List Value) (q : Pairs) → AreSorted q → (a : PlainFormula) → SortedFormula a → Truth g d i s b (push q a) ↔ Truth g d i (replaced i s b q) b a

-- the formula under an update, as the update is applied to it
abbrev pub PushedUpdate : Type 0
PushedUpdate = (g : Setting) (d : ℕ) (i s : State) (b : List Value) (u : Pairs) → AreSorted u → (a : PlainFormula) → SortedFormula a → Truth g d i s b (push (joined [] u []) a) ↔ Truth g d i s b (Updated u a)

abbrev pub SimplifiedFormula : Type 0
SimplifiedFormula = (g : Setting) (d : ℕ) (i s : State) (b : List Value) (a : PlainFormula) → SortedFormula a → Truth g d i s b (simplified a) ↔ Truth g d i s b a

abbrev pub DeadPairsDropped : Type 0
DeadPairsDropped = (g : Setting) (d : ℕ) (i s : State) (b : List Value) (u : Pairs) (a : PlainFormula) → Truth g d i s b (Updated (live a u) a) ↔ Truth g d i s b (Updated u a)

-- what is made of sorted updates is sorted
pub record StaySorted : Type 0 where
  pub of_formulas : (q : Pairs) → AreSorted q → (a : PlainFormula) → SortedFormula a → SortedFormula (push q a)
  pub of_updates : (u : Pairs) → AreSorted u → AreSorted (joined [] u [])
  pub of_live_pairs : (u : Pairs) (a : PlainFormula) → AreSorted u → AreSorted (live a u)

-- of other updates the pushed formula can be true and the formula under the update not
abbrev pub UnsortedUpdatesDiffer : Type 0
UnsortedUpdatesDiffer = (g : Setting) (d : ℕ) (i s : State) → ¬ ((b : List Value) (u : Pairs) (a : PlainFormula) → Truth g d i s b (push (joined [] u []) a) → Truth g d i s b (Updated u a))

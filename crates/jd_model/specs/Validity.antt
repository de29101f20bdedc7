-- Validity of sequents (The KeY Book, 2.2.3), at a depth of calls and an entry measure.
use Rattle.std.specs.Prelude.{◌≡◌, ℕ, ℤ, List, [], ◌∷◌}
use Rattle.jd_heap.specs.Values.{Value, IntValue}
use Rattle.jd_term.specs.Formulas.{PlainFormula}
use Rattle.jd_model.specs.Sequents.{PlainSequent}
use Rattle.jd_model.specs.SpecialNames.{entry_measure}
use Rattle.jd_model.specs.States.{State, read}
use Rattle.jd_model.specs.Truth.{Setting, Truth}

module _ (g : Setting) (d : ℕ) where
  abbrev pub AllTrue : State → State → List Value → List PlainFormula → Type 0
  AllTrue i s b [] = Unit {0}
  AllTrue i s b (a ∷ as') = Truth g d i s b a × AllTrue i s b as'

  abbrev pub AllFalse : State → State → List Value → List PlainFormula → Type 0
  AllFalse i s b [] = Unit {0}
  AllFalse i s b (a ∷ as') = (¬ (Truth g d i s b a)) × AllFalse i s b as'

  -- an interpretation and a state that make every left formula true and every right one false
  abbrev pub Refutes : State → State → List Value → PlainSequent → Type 0
  Refutes i s b q = AllTrue i s b q.left × AllFalse i s b q.right

  -- none does so where the entry measure is m
  abbrev pub Valid : ℤ → PlainSequent → Type 0
  Valid m q = (i s : State) → read i entry_measure ≡ IntValue m → ¬ (Refutes i s [] q)

  abbrev pub AllValid : ℤ → List PlainSequent → Type 0
  AllValid m [] = Unit {0}
  AllValid m (q ∷ qs) = Valid m q × AllValid m qs

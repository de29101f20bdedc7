-- The rules that close a sequent or take a whole formula apart.
use Rattle.std.proofs.Common.{◌≡◌, ℕ, zero, suc, ℤ, List, [], ◌∷◌, ◌++◌, map, Some}
use Rattle.std.specs.Prelude.{slice_get}
use Rattle.std.specs.Option.{IfSome}
use Rattle.jd_heap.specs.Values.{Value, IntValue}
use Rattle.jd_term.specs.Formulas.{PlainFormula, TrueFormula, Not, And, Implies}
use Rattle.jd_model.specs.SpecialNames.{entry_measure}
use Rattle.jd_model.specs.States.{State, read}
use Rattle.jd_model.specs.Truth.{Setting, Truth}
use Rattle.jd_model.specs.declared.sequent.Side.{Side}
use Rattle.jd_model.specs.declared.sequent.Side.TheVariants.{Left, Right}
use Rattle.jd_model.specs.Sequents.{PlainSequent}
use Rattle.jd_model.specs.Places.{on_side, numbered}
use Rattle.jd_model.specs.Validity.{AllTrue, AllFalse, Refutes, Valid, AllValid}
use Rattle.jd_model.proofs.Stable.{stable_Truth}
use Rattle.jd_first_steps.specs.declared.rules.FirstRule.{FirstRule}
use Rattle.jd_first_steps.specs.declared.rules.FirstRule.TheVariants.{CloseTrue, NotLeft, AndLeft, AndRight, ImpRight}
use Rattle.jd_first_steps.specs.Rows.{Goal, row_goals, with_instead, goal_premise}
use Rattle.jd_first_steps.specs.SoundSteps.{IsRefuted, GoalsHold, IsTakenApart, RowsAreSound}
use Rattle.jd_first_steps.proofs.Options.{no_some, if_found}
use Rattle.jd_first_steps.proofs.FormulaLists.{all_true, all_false, append_each, instead_each, numbered_each}

module _ (g : Setting) (d : ℕ) (i s : State) (b : List Value) where
  numbered_refuted : (q : PlainSequent) (side : Side) (k : ℕ) (a : PlainFormula) → slice_get (on_side q side) k ≡ Some a → Refutes g d i s b q → IsRefuted g d i s b side a
  numbered_refuted q Left k a e r = if_found (λ c. Truth g d i s b c) (slice_get q.left k) a e (numbered_each (λ c. Truth g d i s b c) (AllTrue g d i s b) (all_true g d i s b) q.left k r.0)
  numbered_refuted q Right k a e r = if_found (λ c. ¬ (Truth g d i s b c)) (slice_get q.right k) a e (numbered_each (λ c. ¬ (Truth g d i s b c)) (AllFalse g d i s b) (all_false g d i s b) q.right k r.1)

  true_after : (l m : List PlainFormula) → AllTrue g d i s b l → AllTrue g d i s b m → AllTrue g d i s b (l ++ m)
  true_after = append_each (λ a. Truth g d i s b a) (AllTrue g d i s b) (all_true g d i s b)

  false_after : (l m : List PlainFormula) → AllFalse g d i s b l → AllFalse g d i s b m → AllFalse g d i s b (l ++ m)
  false_after = append_each (λ a. ¬ (Truth g d i s b a)) (AllFalse g d i s b) (all_false g d i s b)

  true_instead : (l : List PlainFormula) (k : ℕ) (new : List PlainFormula) → AllTrue g d i s b l → AllTrue g d i s b new → AllTrue g d i s b (with_instead l (suc k) new)
  true_instead = instead_each (λ a. Truth g d i s b a) (AllTrue g d i s b) (all_true g d i s b)

  false_instead : (l : List PlainFormula) (k : ℕ) (new : List PlainFormula) → AllFalse g d i s b l → AllFalse g d i s b new → AllFalse g d i s b (with_instead l (suc k) new)
  false_instead = instead_each (λ a. ¬ (Truth g d i s b a)) (AllFalse g d i s b) (all_false g d i s b)

module _ (g : Setting) (d : ℕ) (m : ℤ) (q : PlainSequent) where
  -- where the premises are valid and the sequent is refuted, the goals hold
  goals_hold : (side : Side) (k : ℕ) (goals : List Goal) → AllValid g d m (map (goal_premise q side (suc k)) goals) → (i s : State) → read i entry_measure ≡ IntValue m → Refutes g d i s [] q → GoalsHold g d i s [] side goals
  goals_hold side k [] h i s e r = tt
  goals_hold Left k (x ∷ goals) h i s e r = (
    λ w. h.0 i s e (true_instead g d i s [] q.left k x.here r.0 w.0, false_after g d i s [] q.right x.other r.1 w.1),
    goals_hold Left k goals h.1 i s e r,
  )
  goals_hold Right k (x ∷ goals) h i s e r = (
    λ w. h.0 i s e (true_after g d i s [] q.left x.other r.0 w.1, false_instead g d i s [] q.right k x.here r.1 w.0),
    goals_hold Right k goals h.1 i s e r,
  )

pub rows_are_sound : RowsAreSound
rows_are_sound q side zero a goals found apart g d m h = absurd (no_some found)
rows_are_sound q side (suc k) a goals found apart g d m h = λ i s e r.
    apart g d i s (numbered_refuted g d i s [] q side k a found r) (goals_hold g d m q side k goals h i s e r)

row_means : (rule : FirstRule) (side : Side) (a : PlainFormula) → IfSome (row_goals rule side a) (IsTakenApart side a)
row_means CloseTrue Right TrueFormula = λ g d i s r h. r tt
row_means NotLeft Left (Not a) = λ g d i s r h. h.0 (tt, (r, tt))
row_means AndLeft Left (And a c) = λ g d i s r h. h.0 ((r.0, (r.1, tt)), tt)
row_means AndRight Right (And a c) = λ g d i s r h. h.0 ((λ x. h.1.0 ((λ y. r (x, y), tt), tt), tt), tt)
row_means ImpRight Right (Implies a c) = λ g d i s r h. h.0 ((λ y. r (λ x. y), tt), (stable_Truth g d i s [] a (λ no. r (λ x. absurd (no x))), tt))
row_means rule side a = tt

-- each rule takes its formula so apart
pub taken_apart : (rule : FirstRule) (side : Side) (a : PlainFormula) (goals : List Goal) → row_goals rule side a ≡ Some goals → IsTakenApart side a goals
taken_apart rule side a goals row = if_found (IsTakenApart side a) (row_goals rule side a) goals row (row_means rule side a)

pub close_valid : (g : Setting) (d : ℕ) (m : ℤ) (q : PlainSequent) (n k : ℕ) (a : PlainFormula) → numbered q.right n ≡ Some a → numbered q.left k ≡ Some a → Valid g d m q
close_valid g d m q zero k a on_right on_left = absurd (no_some on_right)
close_valid g d m q n zero a on_right on_left = absurd (no_some on_left)
close_valid g d m q (suc n) (suc k) a on_right on_left = λ i s e r.
    numbered_refuted g d i s [] q Right n a on_right r (numbered_refuted g d i s [] q Left k a on_left r)

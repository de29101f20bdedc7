-- Induction over the integers: from 0 upward and downward.
use Rattle.std.proofs.Common.{◌≡◌, ℕ, zero, suc, true, ℤ, pos, negsuc, ◌+ℤ◌, ◌-ℤ◌, int_le, List, [], ◌∷◌, refl, sym, inl, subst, arith}
use Rattle.std.proofs.lemmas.Int.{ints}
use Rattle.jd_base.specs.declared.sort.Sort.TheVariants.{Int as IntSort, Heap as HeapSort}
use Rattle.jd_term.specs.declared.term.ArithmeticOp.{ArithmeticOp}
use Rattle.jd_term.specs.declared.term.ArithmeticOp.TheVariants.{Add, Subtract}
use Rattle.jd_term.specs.Terms.{PlainTerm, Number, Bound, Arithmetic}
use Rattle.jd_term.specs.Formulas.{PlainFormula, And, Implies, LessOrEqual, Forall}
use Rattle.jd_term.specs.Substitutions.{SortsAgree, formula_subst}
use Rattle.jd_heap.specs.Values.{Value, IntValue, IsOf}
use Rattle.jd_model.specs.Closed.{BelowIn}
use Rattle.jd_model.specs.States.{State}
use Rattle.jd_model.specs.TermValues.{arithmetic}
use Rattle.jd_model.specs.Truth.{Setting, Truth, InvTruth}
use Rattle.jd_model.proofs.AllLaws.{are_substituted_by_sort}
use Rattle.jd_model.proofs.Unseen.{closed_truth}
use Rattle.jd_taclets.specs.Conditions.{IsBoundSort}

module _ (P : ℤ → Type 0) (start : P (pos 0)) where
  upward : ((z : ℤ) → int_le (pos 0) z ≡ true → P z → P (z +ℤ pos 1)) → (n : ℕ) → P (pos n)
  upward step zero = start
  upward step (suc n) = let next : pos n +ℤ pos 1 ≡ pos (suc n) = omega (arith, ints) in subst P next (step (pos n) (sym (omega (arith, ints))) (upward step n))

  downward : ((z : ℤ) → int_le z (pos 0) ≡ true → P z → P (z -ℤ pos 1)) → (n : ℕ) → P (negsuc n)
  downward step zero = step (pos 0) refl start
  downward step (suc n) = let next : negsuc n -ℤ pos 1 ≡ negsuc (suc n) = omega (arith, ints) in subst P next (step (negsuc n) (sym (omega (arith, ints))) (downward step n))

  pub at_each : ((z : ℤ) → int_le (pos 0) z ≡ true → P z → P (z +ℤ pos 1)) → ((z : ℤ) → int_le z (pos 0) ≡ true → P z → P (z -ℤ pos 1)) → (z : ℤ) → P z
  at_each up down (pos n) = upward up n
  at_each up down (negsuc n) = downward down n

-- each value of sort Int is a number
each_value : (P : Value → Type 0) → ((z : ℤ) → P (IntValue z)) → (v : Value) → IsOf IntSort v → P v
each_value P each (IntValue z) o = each z
each_value P each v o = absurd o

-- the bound variable with 1 added to it, or taken away
abbrev neighbour : ArithmeticOp → PlainTerm
neighbour op = Arithmetic op (Bound 0 IntSort) (Number (pos 1))

-- a formula with one free index, of sort Int
module _ (g : Setting) (a : PlainFormula) (agree : SortsAgree 0 IntSort a) (only : BelowIn 1 a) (d : ℕ) (i s : State) (b : List Value) where
  abbrev At : Value → Type 0
  At v = Truth g d i s (v ∷ b) a

  no_heap : ¬ (IntSort ≡ HeapSort)
  no_heap e = subst IsBoundSort e tt

  from_zero : Truth g d i s b (formula_subst 0 0 (Number (pos 0)) a) → At (IntValue (pos 0))
  from_zero x = (are_substituted_by_sort.of_formulas g d i s b (Number (pos 0)) a no_heap agree (inl tt)).0 x

  -- below the binder, where the formula's own index is that of the bound variable
  at_neighbour : (op : ArithmeticOp) (z : ℤ) → Truth g d i s (IntValue z ∷ b) (formula_subst 0 0 (neighbour op) a) → At (IntValue (arithmetic op z (pos 1)))
  at_neighbour op z x =
      let put = (are_substituted_by_sort.of_formulas g d i s (IntValue z ∷ b) (neighbour op) a no_heap agree (inl (tt, tt))).0 x in
      subst (λ T. T) (closed_truth g d (InvTruth g d) i (IntValue z ∷ b) b a (IntValue (arithmetic op z (pos 1)) ∷ []) only s) put

  pub true_at_each : Truth g d i s b (formula_subst 0 0 (Number (pos 0)) a)
      → Truth g d i s b (Forall IntSort (Implies (And (LessOrEqual (Number (pos 0)) (Bound 0 IntSort)) a) (formula_subst 0 0 (neighbour Add) a)))
      → Truth g d i s b (Forall IntSort (Implies (And (LessOrEqual (Bound 0 IntSort) (Number (pos 0))) a) (formula_subst 0 0 (neighbour Subtract) a)))
      → Truth g d i s b (Forall IntSort a)
  true_at_each start up down = each_value At (at_each (λ z. At (IntValue z)) (from_zero start) (λ z e x. at_neighbour Add z (up (IntValue z) tt (e, x))) (λ z e x. at_neighbour Subtract z (down (IntValue z) tt (e, x))))

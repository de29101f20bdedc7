-- What refutes a sequent refutes its parts, and what refutes the parts refutes the whole.
use Rattle.std.proofs.Common.{◌≡◌, inl, inr, ℕ, Bool, true, false, cond, List, [], ◌∷◌, ◌++◌, refl, sym, subst}
use Rattle.jd_syntax.specs.Names.{Name}
use Rattle.jd_term.specs.Formulas.{PlainFormula}
use Rattle.jd_heap.specs.Values.{Value}
use Rattle.jd_model.specs.Closed.{AllClosed}
use Rattle.jd_model.specs.Occurrences.{NotIn, FormulasIn}
use Rattle.jd_model.specs.Runs.{with_values}
use Rattle.jd_model.specs.Sequents.{PlainSequent}
use Rattle.jd_model.specs.States.{State}
use Rattle.jd_model.specs.Truth.{Setting, Truth, InvTruth}
use Rattle.jd_model.specs.Validity.{AllTrue, AllFalse, Refutes}
use Rattle.jd_model.proofs.Coincidence.{truth_agree}
use Rattle.jd_model.proofs.Unseen.{closed_truth}
use Rattle.jd_model.proofs.Writes.{new_values}
use Rattle.jd_taclet_steps.specs.Steps.{Spot, AtLeft, AtRight, whole, others, replaced, extended, IsAmong, AreAmong, AreNewIn}

-- what the step's own formula is where the sequent is refuted
abbrev pub Own : Spot → Type 0 → Type 0
Own (AtLeft f b r) X = X
Own (AtRight l f b) X = ¬ X

module _ (g : Setting) (d : ℕ) where
  module _ (i s : State) (b : List Value) where
    true_join : (l m : List PlainFormula) → AllTrue g d i s b l → AllTrue g d i s b m → AllTrue g d i s b (l ++ m)
    true_join [] m h k = k
    true_join (a ∷ l) m h k = (h.0, true_join l m h.1 k)

    true_split : (l m : List PlainFormula) → AllTrue g d i s b (l ++ m) → AllTrue g d i s b l × AllTrue g d i s b m
    true_split [] m h = (tt, h)
    true_split (a ∷ l) m h = let q : AllTrue g d i s b l × AllTrue g d i s b m = true_split l m h.1 in ((h.0, q.0), q.1)

    false_join : (l m : List PlainFormula) → AllFalse g d i s b l → AllFalse g d i s b m → AllFalse g d i s b (l ++ m)
    false_join [] m h k = k
    false_join (a ∷ l) m h k = (h.0, false_join l m h.1 k)

    false_split : (l m : List PlainFormula) → AllFalse g d i s b (l ++ m) → AllFalse g d i s b l × AllFalse g d i s b m
    false_split [] m h = (tt, h)
    false_split (a ∷ l) m h = let q : AllFalse g d i s b l × AllFalse g d i s b m = false_split l m h.1 in ((h.0, q.0), q.1)

    pub apart : (w : Spot) (a : PlainFormula) → Refutes g d i s b (whole w a) → Refutes g d i s b (others w) × Own w (Truth g d i s b a)
    apart (AtLeft f c r) a h = let q : AllTrue g d i s b f × AllTrue g d i s b (a ∷ c) = true_split f (a ∷ c) h.0 in ((true_join f c q.0 q.1.1, h.1), q.1.0)
    apart (AtRight l f c) a h = let q : AllFalse g d i s b f × AllFalse g d i s b (a ∷ c) = false_split f (a ∷ c) h.1 in ((h.0, false_join f c q.0 q.1.1), q.1.0)

    pub together : (w : Spot) (a : PlainFormula) → Refutes g d i s b (others w) → Own w (Truth g d i s b a) → Refutes g d i s b (whole w a)
    together (AtLeft f c r) a h o = let q : AllTrue g d i s b f × AllTrue g d i s b c = true_split f c h.0 in (true_join f (a ∷ c) q.0 (o, q.1), h.1)
    together (AtRight l f c) a h o = let q : AllFalse g d i s b f × AllFalse g d i s b c = false_split f c h.1 in (h.0, false_join f (a ∷ c) q.0 (o, q.1))

    renew : (w : Spot) (n : PlainSequent) → Refutes g d i s b (others w) → Refutes g d i s b n → Refutes g d i s b (replaced w n)
    renew (AtLeft f c r) n h k = let q : AllTrue g d i s b f × AllTrue g d i s b c = true_split f c h.0 in (true_join f (n.left ++ c) q.0 (true_join n.left c k.0 q.1), false_join r n.right h.1 k.1)
    renew (AtRight l f c) n h k = let q : AllFalse g d i s b f × AllFalse g d i s b c = false_split f c h.1 in (true_join l n.left h.0 k.0, false_join f (n.right ++ c) q.0 (false_join n.right c k.1 q.1))

    pub more : (q n : PlainSequent) → Refutes g d i s b q → Refutes g d i s b n → Refutes g d i s b (extended q n)
    more q n h k = (true_join q.left n.left h.0 k.0, false_join q.right n.right h.1 k.1)

    -- a premise at a whole formula
    pub covers : (keep : Bool) (w : Spot) (a : PlainFormula) (n : PlainSequent) → Refutes g d i s b (whole w a) → Refutes g d i s b n → Refutes g d i s b (cond keep (extended (whole w a) n) (replaced w n))
    covers true w a n h k = more (whole w a) n h k
    covers false w a n h k = renew w n (apart w a h).0 k

    true_one : (a : PlainFormula) (m : List PlainFormula) → IsAmong a m → AllTrue g d i s b m → Truth g d i s b a
    true_one a [] o h = absurd o
    true_one a (x ∷ m) (inl e) h = subst (λ c. Truth g d i s b c) (sym e) h.0
    true_one a (x ∷ m) (inr o) h = true_one a m o h.1

    false_one : (a : PlainFormula) (m : List PlainFormula) → IsAmong a m → AllFalse g d i s b m → ¬ (Truth g d i s b a)
    false_one a [] o h = absurd o
    false_one a (x ∷ m) (inl e) h = subst (λ c. ¬ (Truth g d i s b c)) (sym e) h.0
    false_one a (x ∷ m) (inr o) h = false_one a m o h.1

    pub true_among : (l m : List PlainFormula) → AreAmong l m → AllTrue g d i s b m → AllTrue g d i s b l
    true_among [] m o h = tt
    true_among (a ∷ l) m o h = (true_one a m o.0 h, true_among l m o.1 h)

    pub false_among : (l m : List PlainFormula) → AreAmong l m → AllFalse g d i s b m → AllFalse g d i s b l
    false_among [] m o h = tt
    false_among (a ∷ l) m o h = (false_one a m o.0 h, false_among l m o.1 h)

    -- closed formulas, whatever is bound outside
    pub true_under : (l : List PlainFormula) → AllClosed l → AllTrue g d i s [] l → AllTrue g d i s b l
    true_under [] o h = tt
    true_under (a ∷ l) o h = (subst (λ X. X) (closed_truth g d (InvTruth g d) i [] b a [] o.0 s) h.0, true_under l o.1 h.1)

    pub false_under : (l : List PlainFormula) → AllClosed l → AllFalse g d i s [] l → AllFalse g d i s b l
    false_under [] o h = tt
    false_under (a ∷ l) o h = (subst (λ X. ¬ X) (closed_truth g d (InvTruth g d) i [] b a [] o.0 s) h.0, false_under l o.1 h.1)

  -- new constants may have any values
  module _ (xs cs : List Name) (vs : List Value) (i s : State) where
    moved : (a : PlainFormula) → FormulasIn (λ y. NotIn y xs) (λ y. NotIn y cs) (a ∷ []) → Truth g d i s [] a ≡ Truth g d (with_values i cs vs) s [] a
    moved a o = truth_agree g d (InvTruth g d) (λ y. NotIn y xs) (λ y. NotIn y cs) i (with_values i cs vs) (new_values cs vs i) a o.0 [] s s (λ x _. refl)

    true_moves : (l : List PlainFormula) → FormulasIn (λ y. NotIn y xs) (λ y. NotIn y cs) l → AllTrue g d i s [] l → AllTrue g d (with_values i cs vs) s [] l
    true_moves [] o h = tt
    true_moves (a ∷ l) o h = (subst (λ X. X) (moved a (o.0, tt)) h.0, true_moves l o.1 h.1)

    false_moves : (l : List PlainFormula) → FormulasIn (λ y. NotIn y xs) (λ y. NotIn y cs) l → AllFalse g d i s [] l → AllFalse g d (with_values i cs vs) s [] l
    false_moves [] o h = tt
    false_moves (a ∷ l) o h = (subst (λ X. ¬ X) (moved a (o.0, tt)) h.0, false_moves l o.1 h.1)

    pub moves : (q : PlainSequent) → AreNewIn xs cs q → Refutes g d i s [] q → Refutes g d (with_values i cs vs) s [] q
    moves q f h = (true_moves q.left f.0 h.0, false_moves q.right f.1 h.1)

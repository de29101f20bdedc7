-- A formula of the same truth at any place: the whole keeps its truth, and the sequent its validity.
use Rattle.std.proofs.Common.{◌≡◌, ℕ, zero, suc, List, [], ◌∷◌, Some, refl, sym, ap, ◌∙◌, subst}
use Rattle.std.specs.Prelude.{option_and_then}
use Rattle.jd_heap.specs.Heaps.{Heap}
use Rattle.jd_heap.specs.References.{Reference}
use Rattle.jd_heap.specs.Values.{Value, IsOf}
use Rattle.jd_term.specs.Formulas.{PlainFormula, Not, And, Or, Implies, Iff, Forall, Exists, Updated, Modal}
use Rattle.jd_term.specs.declared.formula.Modality.TheVariants as modalities
use Rattle.jd_model.specs.States.{State}
use Rattle.jd_model.specs.Runs.{exec_at}
use Rattle.jd_model.specs.TermValues.{updated}
use Rattle.jd_model.specs.Truth.{Setting, truth, Truth, InvTruth, EitherOf}
use Rattle.jd_model.specs.declared.sequent.Side.{Side}
use Rattle.jd_model.specs.declared.sequent.Side.TheVariants.{Left, Right}
use Rattle.jd_model.specs.Sequents.{PlainSequent}
use Rattle.jd_model.specs.Places.{FormulaPart, part_at, on_side, numbered, put_formula, put_side}
use Rattle.jd_model.specs.Validity.{AllTrue, AllFalse, Refutes}
use Rattle.jd_model.proofs.Replacement.{truth_path}
use Rattle.jd_model.proofs.Substitution.{if_ends_same, ends_in_same}
use Rattle.jd_first_steps.specs.SoundSteps.{RewritingIsSound}
use Rattle.jd_first_steps.proofs.Options.{no_some}
use Rattle.jd_first_steps.proofs.FormulaLists.{all_true, all_false, put_each}
use Rattle.jd_first_steps.proofs.Paths.{below_update}

formula_part_same : {a c : PlainFormula} → Some (FormulaPart a) ≡ Some (FormulaPart c) → a ≡ c
formula_part_same h = cc

module _ (g : Setting) (d : ℕ) (inv : Heap → Reference → Type 0) (i : State) (find new : PlainFormula) (same : (s : State) (b : List Value) → truth g d inv i s b find ≡ truth g d inv i s b new) where
  pub put_same : (path : List ℕ) (a : PlainFormula) → part_at path (FormulaPart a) ≡ Some (FormulaPart find) → (s : State) (b : List Value) → truth g d inv i s b (put_formula path new a) ≡ truth g d inv i s b a
  put_same [] a e s b = sym (same s b) ∙ ap (truth g d inv i s b) (sym (formula_part_same e))
  put_same (zero ∷ ks) a e s b = absurd (no_some e)
  put_same (suc zero ∷ ks) (Not a) e s b = λ j. ¬ (put_same ks a e s b j)
  put_same (suc (suc k) ∷ ks) (Not a) e s b = absurd (no_some e)
  put_same (suc zero ∷ ks) (And a c) e s b = λ j. put_same ks a e s b j × truth g d inv i s b c
  put_same (suc (suc zero) ∷ ks) (And a c) e s b = λ j. truth g d inv i s b a × put_same ks c e s b j
  put_same (suc (suc (suc k)) ∷ ks) (And a c) e s b = absurd (no_some e)
  put_same (suc zero ∷ ks) (Or a c) e s b = λ j. EitherOf (put_same ks a e s b j) (truth g d inv i s b c)
  put_same (suc (suc zero) ∷ ks) (Or a c) e s b = λ j. EitherOf (truth g d inv i s b a) (put_same ks c e s b j)
  put_same (suc (suc (suc k)) ∷ ks) (Or a c) e s b = absurd (no_some e)
  put_same (suc zero ∷ ks) (Implies a c) e s b = λ j. put_same ks a e s b j → truth g d inv i s b c
  put_same (suc (suc zero) ∷ ks) (Implies a c) e s b = λ j. truth g d inv i s b a → put_same ks c e s b j
  put_same (suc (suc (suc k)) ∷ ks) (Implies a c) e s b = absurd (no_some e)
  put_same (suc zero ∷ ks) (Iff a c) e s b = λ j. (put_same ks a e s b j → truth g d inv i s b c) × (truth g d inv i s b c → put_same ks a e s b j)
  put_same (suc (suc zero) ∷ ks) (Iff a c) e s b = λ j. (truth g d inv i s b a → put_same ks c e s b j) × (put_same ks c e s b j → truth g d inv i s b a)
  put_same (suc (suc (suc k)) ∷ ks) (Iff a c) e s b = absurd (no_some e)
  put_same (suc zero ∷ ks) (Forall t a) e s b = λ j. (v : Value) → IsOf t v → put_same ks a e s (v ∷ b) j
  put_same (suc (suc k) ∷ ks) (Forall t a) e s b = absurd (no_some e)
  put_same (suc zero ∷ ks) (Exists t a) e s b = λ j. ¬ ((v : Value) → IsOf t v → ¬ (put_same ks a e s (v ∷ b) j))
  put_same (suc (suc k) ∷ ks) (Exists t a) e s b = absurd (no_some e)
  put_same (suc k ∷ ks) (Updated u a) e s b = put_same ks a (below_update u k ks a find e) (updated i s b u s) b
  put_same (suc zero ∷ ks) (Modal modalities.Necessity c a) e s b = λ j. (n : ℕ) → if_ends_same (exec_at g.program d n c s) (λ t. truth g d inv i t b (put_formula ks new a)) (λ t. truth g d inv i t b a) (λ t. put_same ks a e t b) j
  put_same (suc zero ∷ ks) (Modal modalities.Possibility c a) e s b = λ j. ¬ ((f n : ℕ) → ¬ (ends_in_same (exec_at g.program f n c s) (λ t. truth g d inv i t b (put_formula ks new a)) (λ t. truth g d inv i t b a) (λ t. put_same ks a e t b) j))
  put_same (suc (suc k) ∷ ks) (Modal m c a) e s b = absurd (no_some e)
  put_same (suc k ∷ ks) a e s b = refl

module _ (g : Setting) (d : ℕ) (i : State) (find new : PlainFormula) (same : (s : State) (b : List Value) → Truth g d i s b find ≡ Truth g d i s b new) (path : List ℕ) (s : State) (b : List Value) where
  put_refuted : (q : PlainSequent) (side : Side) (n : ℕ) → option_and_then (λ a. part_at path (FormulaPart a)) (numbered (on_side q side) n) ≡ Some (FormulaPart find) → Refutes g d i s b q → Refutes g d i s b (put_side side q n path new)
  put_refuted q side zero e r = absurd (no_some e)
  put_refuted q Left (suc k) e r = (put_each (λ a. Truth g d i s b a) (AllTrue g d i s b) (all_true g d i s b) path find new (λ a f h. subst (λ X. X) (sym (put_same g d (InvTruth g d) i find new same path a f s b)) h) q.left k e r.0, r.1)
  put_refuted q Right (suc k) e r = (r.0, put_each (λ a. ¬ (Truth g d i s b a)) (AllFalse g d i s b) (all_false g d i s b) path find new (λ a f h. subst (λ X. ¬ X) (sym (put_same g d (InvTruth g d) i find new same path a f s b)) h) q.right k e r.1)

pub rewriting_is_sound : RewritingIsSound
rewriting_is_sound q p before after found same g d m valid = λ i s is r.
    valid.0 i s is (put_refuted g d i before after (λ t b. truth_path g d i t b before after (same g d i t b)) p.path s [] q p.side p.index found r)

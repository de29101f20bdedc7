-- What a modality says hangs on what its code does: foci that end alike, each from its state, in any context.
use Rattle.std.proofs.Common.{◌≡◌, ◌↔◌, ℕ, List, sym, subst}
use Rattle.jd_syntax.specs.Codes.{PlainCode}
use Rattle.jd_term.specs.Formulas.{PlainFormula, Modal}
use Rattle.jd_term.specs.declared.formula.Modality.{Modality}
use Rattle.jd_term.specs.declared.formula.Modality.TheVariants as modalities
use Rattle.jd_heap.specs.References.{Reference}
use Rattle.jd_heap.specs.Heaps.{Heap}
use Rattle.jd_heap.specs.Values.{Value}
use Rattle.jd_model.specs.Contexts.{Context, fill}
use Rattle.jd_model.specs.States.{State}
use Rattle.jd_model.specs.Runs.{exec_at}
use Rattle.jd_model.specs.Truth.{Setting, truth, IfEnds, EndsIn}
use Rattle.jd_model.proofs.Contexts.{fill_alike}

pub both_ways : {P Q : Type 0} → P ≡ Q → P ↔ Q
both_ways e = (λ p. subst (λ X. X) e p, λ q. subst (λ X. X) (sym e) q)

module _ (g : Setting) (d : ℕ) (inv : Heap → Reference → Type 0) (i : State) (b : List Value) where
  pub modal_alike : (m : Modality) (k : Context) (c e : PlainCode) (a : PlainFormula) (s t : State) → ((d n : ℕ) → exec_at g.program d n c s ≡ exec_at g.program d n e t) → truth g d inv i s b (Modal m (fill k c) a) ≡ truth g d inv i t b (Modal m (fill k e) a)
  modal_alike modalities.Necessity k c e a s t h = λ j. (n : ℕ) → IfEnds (fill_alike g.program d n k c e s t (h d n) j) (λ y. truth g d inv i y b a)
  modal_alike modalities.Possibility k c e a s t h = λ j. ¬ ((f n : ℕ) → ¬ (EndsIn (fill_alike g.program f n k c e s t (h f n) j) (λ y. truth g d inv i y b a)))

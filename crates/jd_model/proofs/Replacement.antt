-- Each truth is a proposition, so formulas with the same truth are equal in truth, and so is what is built of them.
use Rattle.std.proofs.Common.{◌≡◌, ◌↔◌, ℕ, List, [], ◌∷◌, refl}
use mathlib.Core.HLevel.{Π_prop, ×_prop, ¬_prop, Stable-paths→set}
use mathlib.Core.HProp.{h_prop_ext}
use mathlib.Core.Bool.{Bool-set}
use Rattle.jd_heap.specs.Heaps.{Heap}
use Rattle.jd_heap.specs.References.{Reference, Null, Object, Array}
use Rattle.jd_heap.specs.Values.{Value, IsOf, RefValue}
use Rattle.jd_model.proofs.Stable.{stable_value}
use Rattle.jd_model.proofs.Substitution.{if_ends_same, ends_in_same}
use Rattle.jd_model.specs.Holes.{Around, Hole, NotH, AndL, OrL, ImpL, IffL, AndR, OrR, ImpR, IffR, AllH, ExH, UpdH, ModalH, plug}
use Rattle.jd_model.specs.Outcomes.{Outcome, Normal, Broke, Returned, Thrown, Stopped, NoLength, NotEnded}
use Rattle.jd_model.specs.Runs.{exec_at}
use Rattle.jd_model.specs.States.{State, write, empty_state, with_heap}
use Rattle.jd_model.specs.TermValues.{updated}
use Rattle.jd_model.specs.SpecialNames.{receiver}
use Rattle.jd_model.specs.Truth.{EachHolds, InvariantsOf, Setting, truth, Truth, InvTruth, no_inv, IfEnds, EitherOf}
use Rattle.jd_term.specs.Formulas.{PlainFormula, TrueFormula, FalseFormula, Not, And, Or, Implies, Iff, Equal, Less, LessOrEqual, Forall, Exists, Updated, Modal, InLocations, InInt, WellFormed, Invariant, IsInstance, IsExactInstance}
use Rattle.jd_term.specs.declared.formula.Modality.TheVariants as modalities

pub value_set : IsSet Value
value_set = Stable-paths→set stable_value

unit_prop : IsProp (Unit {0})
unit_prop x y = refl

bottom_prop : IsProp ⊥
bottom_prop x y = absurd x

prop_if : {A : Type 0} (o : Outcome A) (P : State → Type 0) → ((t : State) → IsProp (P t)) → IsProp (IfEnds o P)
prop_if (Normal u t) P h = h t
prop_if (Stopped t) P h = h t
prop_if (Broke l t) P h = unit_prop
prop_if (Returned v t) P h = unit_prop
prop_if (Thrown r t) P h = unit_prop
prop_if NoLength P h = unit_prop
prop_if NotEnded P h = unit_prop

module _ (g : Setting) (d : ℕ) (inv : Heap → Reference → Type 0) (prop_inv : (h : Heap) (o : Reference) → IsProp (inv h o)) where
  pub prop_truth : (i s : State) (b : List Value) (a : PlainFormula) → IsProp (truth g d inv i s b a)
  prop_truth i s b TrueFormula = unit_prop
  prop_truth i s b FalseFormula = bottom_prop
  prop_truth i s b (Not a) = ¬_prop
  prop_truth i s b (And a c) = ×_prop (prop_truth i s b a) (prop_truth i s b c)
  prop_truth i s b (Or a c) = ¬_prop
  prop_truth i s b (Implies a c) = Π_prop (λ _. prop_truth i s b c)
  prop_truth i s b (Iff a c) = ×_prop (Π_prop (λ _. prop_truth i s b c)) (Π_prop (λ _. prop_truth i s b a))
  prop_truth i s b (Equal t u) = value_set _ _
  prop_truth i s b (Less t u) = Bool-set _ _
  prop_truth i s b (LessOrEqual t u) = Bool-set _ _
  prop_truth i s b (Forall k a) = Π_prop (λ v. Π_prop (λ _. prop_truth i s (v ∷ b) a))
  prop_truth i s b (Exists k a) = ¬_prop
  prop_truth i s b (Updated u a) = prop_truth i (updated i s b u s) b a
  prop_truth i s b (Modal modalities.Necessity c a) = Π_prop (λ n. prop_if (exec_at g.program d n c s) _ (λ t. prop_truth i t b a))
  prop_truth i s b (Modal modalities.Possibility c a) = ¬_prop
  prop_truth i s b (InLocations o f l) = Bool-set _ _
  prop_truth i s b (InInt t) = Bool-set _ _
  prop_truth i s b (WellFormed h) = Π_prop (λ l. Π_prop (λ e. Π_prop (λ _. Bool-set _ _)))
  prop_truth i s b (Invariant h o) = prop_inv _ _
  prop_truth i s b (IsInstance k o) = Bool-set _ _
  prop_truth i s b (IsExactInstance k o) = Bool-set _ _

module _ (g : Setting) (d : ℕ) (h : Heap) (o : Reference) where
  prop_each : (l : List PlainFormula) → IsProp (EachHolds g d h o l)
  prop_each [] = unit_prop
  prop_each (a ∷ l) = ×_prop (prop_truth g d no_inv (λ _ _. unit_prop) (write empty_state receiver (RefValue o)) (with_heap empty_state h) [] a) (prop_each l)

  prop_all : (cs : List ℕ) → IsProp (InvariantsOf g d h o cs)
  prop_all [] = unit_prop
  prop_all (c ∷ cs) = ×_prop (prop_each (g.invariants c)) (prop_all cs)

pub prop_invariant : (g : Setting) (d : ℕ) (h : Heap) (o : Reference) → IsProp (InvTruth g d h o)
prop_invariant g d h Null = unit_prop
prop_invariant g d h (Object c n) = prop_all g d h (Object c n) (g.program.superclasses c)
prop_invariant g d h (Array l n) = unit_prop

pub prop_Truth : (g : Setting) (d : ℕ) (i s : State) (b : List Value) (a : PlainFormula) → IsProp (Truth g d i s b a)
prop_Truth g d i s b a = prop_truth g d (InvTruth g d) (prop_invariant g d) i s b a

-- the same truth, as an equation
pub truth_path : (g : Setting) (d : ℕ) (i s : State) (b : List Value) (a c : PlainFormula) → Truth g d i s b a ↔ Truth g d i s b c → Truth g d i s b a ≡ Truth g d i s b c
truth_path g d i s b a c h = h_prop_ext (prop_Truth g d i s b a) (prop_Truth g d i s b c) h.0 h.1

module _ (g : Setting) (d : ℕ) (inv : Heap → Reference → Type 0) (i : State) (a c : PlainFormula) (same : (s : State) (b : List Value) → truth g d inv i s b a ≡ truth g d inv i s b c) where
  pub plug_same : (h : Around) (s : State) (b : List Value) → truth g d inv i s b (plug h a) ≡ truth g d inv i s b (plug h c)
  plug_same Hole s b = same s b
  plug_same (NotH h) s b = λ e. ¬ (plug_same h s b e)
  plug_same (AndL h x) s b = λ e. plug_same h s b e × truth g d inv i s b x
  plug_same (OrL h x) s b = λ e. EitherOf (plug_same h s b e) (truth g d inv i s b x)
  plug_same (ImpL h x) s b = λ e. plug_same h s b e → truth g d inv i s b x
  plug_same (IffL h x) s b = λ e. (plug_same h s b e → truth g d inv i s b x) × (truth g d inv i s b x → plug_same h s b e)
  plug_same (AndR x h) s b = λ e. truth g d inv i s b x × plug_same h s b e
  plug_same (OrR x h) s b = λ e. EitherOf (truth g d inv i s b x) (plug_same h s b e)
  plug_same (ImpR x h) s b = λ e. truth g d inv i s b x → plug_same h s b e
  plug_same (IffR x h) s b = λ e. (truth g d inv i s b x → plug_same h s b e) × (plug_same h s b e → truth g d inv i s b x)
  plug_same (AllH k h) s b = λ e. (v : Value) → IsOf k v → plug_same h s (v ∷ b) e
  plug_same (ExH k h) s b = λ e. ¬ ((v : Value) → IsOf k v → ¬ (plug_same h s (v ∷ b) e))
  plug_same (UpdH u h) s b = plug_same h (updated i s b u s) b
  plug_same (ModalH modalities.Necessity k h) s b = λ e. (n : ℕ) → if_ends_same (exec_at g.program d n k s) (λ t. truth g d inv i t b (plug h a)) (λ t. truth g d inv i t b (plug h c)) (λ t. plug_same h t b) e
  plug_same (ModalH modalities.Possibility k h) s b = λ e. ¬ ((f n : ℕ) → ¬ (ends_in_same (exec_at g.program f n k s) (λ t. truth g d inv i t b (plug h a)) (λ t. truth g d inv i t b (plug h c)) (λ t. plug_same h t b) e))

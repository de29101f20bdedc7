-- Truth of formulas (The KeY Book, 2.2.3, 3.3 and 3.4). "Some", "or" and "ends" are said by their denial, so that each truth is stable.
use Rattle.std.specs.Prelude.{◌≡◌, ℕ, true, int_lt, int_le, List, [], ◌∷◌}
use Rattle.jd_term.specs.declared.formula.Modality.TheVariants as modalities
use Rattle.jd_term.specs.Formulas.{PlainFormula, TrueFormula, FalseFormula, Not, And, Or, Implies, Iff, Equal, Less, LessOrEqual, Forall, Exists, Updated, Modal, InLocations, InInt, WellFormed, Invariant, IsInstance, IsExactInstance}
use Rattle.jd_heap.specs.References.{Reference, Null, Object, Array, location}
use Rattle.jd_heap.specs.Heaps.{Heap}
use Rattle.jd_heap.specs.Values.{Value, RefValue, as_int, as_ref, as_heap, as_field, IsOf}
use Rattle.jd_model.specs.SpecialNames.{receiver}
use Rattle.jd_model.specs.States.{State, write, empty_state, with_heap}
use Rattle.jd_model.specs.Programs.{Program, is_instance, is_exactly}
use Rattle.jd_model.specs.Outcomes.{Outcome, Normal, Stopped, NoLength}
use Rattle.jd_model.specs.Runs.{exec_at}
use Rattle.jd_model.specs.TermValues.{value, within, updated}
use Rattle.jd_model.specs.WellFormedHeaps.{in_int, IsWellFormed}

-- by denial: "some" and "or"
abbrev pub EitherOf : Type 0 → Type 0 → Type 0
EitherOf P Q = ¬ ((¬ P) × (¬ Q))

-- what a box asks of a run's end
abbrev pub IfEnds : {A : Type 0} → Outcome A → (State → Type 0) → Type 0
IfEnds (Normal u t) P = P t
IfEnds (Stopped t) P = P t
IfEnds o P = Unit {0}

-- what a diamond asks of a run's end; of one by a length that is none, nothing (no resolved body has it, and `Exit` refuses it)
abbrev pub EndsIn : {A : Type 0} → Outcome A → (State → Type 0) → Type 0
EndsIn (Normal u t) P = P t
EndsIn (Stopped t) P = P t
EndsIn NoLength P = Unit {0}
EndsIn o P = ⊥

-- what fixes the meaning of formulas besides the state: the program, and each class's own invariants as formulas of
-- `@heap` and `#r_this`
pub record Setting : Type 0 where
  pub program : Program
  pub invariants : ℕ → List PlainFormula

abbrev pub IsWf : Setting → Value → Type 0
IsWf g v = IsWellFormed g.program (as_heap v)

module _ (g : Setting) (d : ℕ) (inv : Heap → Reference → Type 0) where
  -- truth, where `inv` says what `inv h o` means
  abbrev pub truth : State → State → List Value → PlainFormula → Type 0
  truth i s b TrueFormula = Unit {0}
  truth i s b FalseFormula = ⊥
  truth i s b (Not a) = ¬ (truth i s b a)
  truth i s b (And a c) = truth i s b a × truth i s b c
  truth i s b (Or a c) = EitherOf (truth i s b a) (truth i s b c)
  truth i s b (Implies a c) = truth i s b a → truth i s b c
  truth i s b (Iff a c) = (truth i s b a → truth i s b c) × (truth i s b c → truth i s b a)
  truth i s b (Equal t u) = value i s b t ≡ value i s b u
  truth i s b (Less t u) = int_lt (as_int (value i s b t)) (as_int (value i s b u)) ≡ true
  truth i s b (LessOrEqual t u) = int_le (as_int (value i s b t)) (as_int (value i s b u)) ≡ true
  truth i s b (Forall k a) = (v : Value) → IsOf k v → truth i s (v ∷ b) a
  truth i s b (Exists k a) = ¬ ((v : Value) → IsOf k v → ¬ (truth i s (v ∷ b) a))
  truth i s b (Updated u a) = truth i (updated i s b u s) b a
  truth i s b (Modal modalities.Necessity c a) = (n : ℕ) → IfEnds (exec_at g.program d n c s) (λ t. truth i t b a)
  truth i s b (Modal modalities.Possibility c a) = ¬ ((e n : ℕ) → ¬ (EndsIn (exec_at g.program e n c s) (λ t. truth i t b a)))
  truth i s b (InLocations o f l) = within i s b l (location (as_ref (value i s b o)) (as_field (value i s b f))) ≡ true
  truth i s b (InInt t) = in_int (as_int (value i s b t)) ≡ true
  truth i s b (WellFormed h) = IsWf g (value i s b h)
  truth i s b (Invariant h o) = inv (as_heap (value i s b h)) (as_ref (value i s b o))
  truth i s b (IsInstance k o) = is_instance g.program k (as_ref (value i s b o)) ≡ true
  truth i s b (IsExactInstance k o) = is_exactly k (as_ref (value i s b o)) ≡ true

abbrev pub no_inv : Heap → Reference → Type 0
no_inv h o = Unit {0}

module _ (g : Setting) (d : ℕ) (h : Heap) (o : Reference) where
  -- invariants hold of the object in the heap; they name no other invariant
  abbrev pub EachHolds : List PlainFormula → Type 0
  EachHolds [] = Unit {0}
  EachHolds (a ∷ as') = truth g d no_inv (write empty_state receiver (RefValue o)) (with_heap empty_state h) [] a × EachHolds as'

  abbrev pub InvariantsOf : List ℕ → Type 0
  InvariantsOf [] = Unit {0}
  InvariantsOf (c ∷ cs) = EachHolds (g.invariants c) × InvariantsOf cs

-- the invariants of an object's class and of those above it; null and arrays have none (JML Reference Manual, 8.2)
abbrev pub InvTruth : Setting → ℕ → Heap → Reference → Type 0
InvTruth g d h Null = Unit {0}
InvTruth g d h (Object c n) = InvariantsOf g d h (Object c n) (g.program.superclasses c)
InvTruth g d h (Array l n) = Unit {0}

abbrev pub Truth : Setting → ℕ → State → State → List Value → PlainFormula → Type 0
Truth g d i s b a = truth g d (InvTruth g d) i s b a

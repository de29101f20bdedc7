-- Each truth is stable: where its denial fails, it holds.
use Rattle.std.proofs.Common.{◌≡◌, ℕ, Bool, true, false, ℤ, List, [], ◌∷◌, refl, sym, ap, ◌∙◌, true≢false}
use mathlib.Core.HLevel.{Stable, dec→stable}
use lib.IntN.{ℤ_discrete}
use Rattle.jd_base.specs.declared.sort.Sort.{Sort}
use Rattle.jd_base.specs.declared.sort.Sort.TheVariants.{Int as IntSort, Bool as BoolSort, Ref as RefSort, Heap as HeapSort, Field as FieldSort}
use Rattle.jd_heap.proofs.Entries.{heap_same}
use Rattle.jd_heap.specs.Codings.{decide}
use Rattle.jd_heap.specs.Heaps.{Heap, select_int, select_bool, select_ref}
use Rattle.jd_heap.specs.ReferenceCodings.{reference_coding, field_coding}
use Rattle.jd_heap.specs.References.{Reference, Null, Object, Array, Field}
use Rattle.jd_heap.specs.Values.{Value, IntValue, BoolValue, RefValue, HeapValue, FieldValue, as_int, as_bool, as_ref, as_heap, as_field}
use Rattle.jd_model.specs.NameCodings.{sort_coding}
use Rattle.jd_model.specs.Outcomes.{Outcome, Normal, Broke, Returned, Thrown, Stopped, NoLength, NotEnded}
use Rattle.jd_model.specs.Runs.{exec_at}
use Rattle.jd_model.specs.States.{State, write, empty_state, with_heap}
use Rattle.jd_model.specs.TermValues.{updated}
use Rattle.jd_model.specs.SpecialNames.{receiver}
use Rattle.jd_model.specs.Truth.{EachHolds, InvariantsOf, Setting, truth, Truth, IfEnds, no_inv, InvTruth}
use Rattle.jd_term.specs.Formulas.{PlainFormula, TrueFormula, FalseFormula, Not, And, Or, Implies, Iff, Equal, Less, LessOrEqual, Forall, Exists, Updated, Modal, InLocations, InInt, WellFormed, Invariant, IsInstance, IsExactInstance}
use Rattle.jd_term.specs.declared.formula.Modality.TheVariants as modalities

pub stable_× : {A B : Type 0} → Stable A → Stable B → Stable (A × B)
stable_× a b n = (a (λ f. n (λ p. f p.0)), b (λ f. n (λ p. f p.1)))

pub stable_Π : {A : Type 0} {B : A → Type 0} → ((x : A) → Stable (B x)) → Stable ((x : A) → B x)
stable_Π h n x = h x (λ f. n (λ g. f (g x)))

pub stable_→ : {A B : Type 0} → Stable B → Stable (A → B)
stable_→ h n x = h (λ f. n (λ g. f (g x)))

pub stable_¬ : {A : Type 0} → Stable (¬ A)
stable_¬ n a = n (λ f. f a)

pub stable_unit : Stable (Unit {0})
stable_unit n = tt

pub stable_⊥ : Stable ⊥
stable_⊥ n = n (λ x. x)

pub stable_bool : (a b : Bool) → Stable (a ≡ b)
stable_bool true true n = refl
stable_bool false false n = refl
stable_bool true false n = absurd (n true≢false)
stable_bool false true n = absurd (n (λ e. true≢false (sym e)))

pub stable_int : (x y : ℤ) → Stable (x ≡ y)
stable_int x y = dec→stable (ℤ_discrete x y)

abbrev sort_of_value : Value → Sort
sort_of_value (IntValue z) = IntSort
sort_of_value (BoolValue z) = BoolSort
sort_of_value (RefValue z) = RefSort
sort_of_value (HeapValue z) = HeapSort
sort_of_value (FieldValue z) = FieldSort

abbrev built : Sort → ℤ → Bool → Reference → Heap → Field → Value
built IntSort z b r h f = IntValue z
built BoolSort z b r h f = BoolValue b
built RefSort z b r h f = RefValue r
built HeapSort z b r h f = HeapValue h
built FieldSort z b r h f = FieldValue f

builds : (v : Value) → v ≡ built (sort_of_value v) (as_int v) (as_bool v) (as_ref v) (as_heap v) (as_field v)
builds (IntValue z) = refl
builds (BoolValue z) = refl
builds (RefValue z) = refl
builds (HeapValue z) = refl
builds (FieldValue z) = refl

-- a part of two things that are not unequal
part : {A B : Type 0} (f : A → B) {x y : A} → Stable (f x ≡ f y) → ¬ (¬ (x ≡ y)) → f x ≡ f y
part f s n = s (λ g. n (λ e. g (ap f e)))

pub stable_reference : (r q : Reference) → Stable (r ≡ q)
stable_reference r q = dec→stable (decide reference_coding r q)

pub stable_heap : (h g : Heap) → Stable (h ≡ g)
stable_heap h g n = heap_same h g
    (λ o f. part (λ k. select_int k o f) (stable_int _ _) n)
    (λ o f. part (λ k. select_bool k o f) (stable_bool _ _) n)
    (λ o f. part (λ k. select_ref k o f) (stable_reference _ _) n)

pub stable_value : (v w : Value) → Stable (v ≡ w)
stable_value v w n =
    let s : sort_of_value v ≡ sort_of_value w = part sort_of_value (dec→stable (decide sort_coding _ _)) n in
    let z : as_int v ≡ as_int w = part as_int (stable_int _ _) n in
    let b : as_bool v ≡ as_bool w = part as_bool (stable_bool _ _) n in
    let r : as_ref v ≡ as_ref w = part as_ref (stable_reference _ _) n in
    let h : as_heap v ≡ as_heap w = part as_heap (stable_heap _ _) n in
    let f : as_field v ≡ as_field w = part as_field (dec→stable (decide field_coding _ _)) n in
    builds v ∙ (λ i. built (s i) (z i) (b i) (r i) (h i) (f i)) ∙ sym (builds w)

pub stable_if : {A : Type 0} (o : Outcome A) (P : State → Type 0) → ((t : State) → Stable (P t)) → Stable (IfEnds o P)
stable_if (Normal u t) P h = h t
stable_if (Stopped t) P h = h t
stable_if (Broke l t) P h = stable_unit
stable_if (Returned v t) P h = stable_unit
stable_if (Thrown r t) P h = stable_unit
stable_if NoLength P h = stable_unit
stable_if NotEnded P h = stable_unit

module _ (g : Setting) (d : ℕ) (inv : Heap → Reference → Type 0) (stable_inv : (h : Heap) (o : Reference) → Stable (inv h o)) where
  pub stable_truth : (i s : State) (b : List Value) (a : PlainFormula) → Stable (truth g d inv i s b a)
  stable_truth i s b TrueFormula = stable_unit
  stable_truth i s b FalseFormula = stable_⊥
  stable_truth i s b (Not a) = stable_¬
  stable_truth i s b (And a c) = stable_× (stable_truth i s b a) (stable_truth i s b c)
  stable_truth i s b (Or a c) = stable_¬
  stable_truth i s b (Implies a c) = stable_→ (stable_truth i s b c)
  stable_truth i s b (Iff a c) = stable_× (stable_→ (stable_truth i s b c)) (stable_→ (stable_truth i s b a))
  stable_truth i s b (Equal t u) = stable_value _ _
  stable_truth i s b (Less t u) = stable_bool _ _
  stable_truth i s b (LessOrEqual t u) = stable_bool _ _
  stable_truth i s b (Forall k a) = stable_Π (λ v. stable_→ (stable_truth i s (v ∷ b) a))
  stable_truth i s b (Exists k a) = stable_¬
  stable_truth i s b (Updated u a) = stable_truth i (updated i s b u s) b a
  stable_truth i s b (Modal modalities.Necessity c a) = stable_Π (λ n. stable_if (exec_at g.program d n c s) _ (λ t. stable_truth i t b a))
  stable_truth i s b (Modal modalities.Possibility c a) = stable_¬
  stable_truth i s b (InLocations o f l) = stable_bool _ _
  stable_truth i s b (InInt t) = stable_bool _ _
  stable_truth i s b (WellFormed h) = stable_Π (λ l. stable_Π (λ e. stable_→ (stable_bool _ _)))
  stable_truth i s b (Invariant h o) = stable_inv _ _
  stable_truth i s b (IsInstance k o) = stable_bool _ _
  stable_truth i s b (IsExactInstance k o) = stable_bool _ _

module _ (g : Setting) (d : ℕ) (h : Heap) (o : Reference) where
  stable_each : (l : List PlainFormula) → Stable (EachHolds g d h o l)
  stable_each [] = stable_unit
  stable_each (a ∷ l) = stable_× (stable_truth g d no_inv (λ _ _. stable_unit) (write empty_state receiver (RefValue o)) (with_heap empty_state h) [] a) (stable_each l)

  stable_all : (cs : List ℕ) → Stable (InvariantsOf g d h o cs)
  stable_all [] = stable_unit
  stable_all (c ∷ cs) = stable_× (stable_each (g.invariants c)) (stable_all cs)

pub stable_invariant : (g : Setting) (d : ℕ) (h : Heap) (o : Reference) → Stable (InvTruth g d h o)
stable_invariant g d h Null = stable_unit
stable_invariant g d h (Object c n) = stable_all g d h (Object c n) (g.program.superclasses c)
stable_invariant g d h (Array l n) = stable_unit

pub stable_Truth : (g : Setting) (d : ℕ) (i s : State) (b : List Value) (a : PlainFormula) → Stable (Truth g d i s b a)
stable_Truth g d i s b a = stable_truth g d (InvTruth g d) (stable_invariant g d) i s b a

-- Values of terms, and the locations of location sets (The KeY Book, 2.2.3 and 2.4).
use Rattle.std.specs.Prelude.{ℕ, zero, suc, Bool, true, false, cond, ◌&&◌, ◌||◌, ℤ, pos, ◌+ℤ◌, ◌-ℤ◌, ◌*ℤ◌, neg_ℤ, int_le, int_div, int_rem, List, [], ◌∷◌}
use Rattle.jd_base.specs.declared.sort.Sort.{Sort}
use Rattle.jd_base.specs.declared.sort.Sort.TheVariants.{Int as IntSort, Bool as BoolSort, Ref as RefSort, Heap as HeapSort, Field as FieldSort}
use Rattle.jd_term.specs.declared.term.ArithmeticOp.{ArithmeticOp}
use Rattle.jd_term.specs.declared.term.ArithmeticOp.TheVariants as arithmetic_ops
use Rattle.jd_term.specs.Terms.{PlainTerm, Number, Boolean, NullTerm, ProgramVariable, Constant, Bound, Arithmetic, Negation, Wrap, Length, Select, Sum, Store, Create, Anon, NamedField, CreatedField, ElementField, PlainLoc, NoLocations, AllLocations, Single, ObjectFields, ArrayElements, ElementRange, Union}
use Rattle.jd_term.specs.Formulas.{Pairs}
use Rattle.jd_heap.specs.Codings.{same}
use Rattle.jd_heap.specs.References.{Null, Field, Named, Created, Index, Location, location}
use Rattle.jd_heap.specs.ReferenceCodings.{location_coding, reference_coding}
use Rattle.jd_heap.specs.Heaps.{empty_heap, is_zero, create, anon, length_of}
use Rattle.jd_heap.specs.Values.{Value, IntValue, BoolValue, RefValue, HeapValue, FieldValue, as_int, as_bool, as_ref, as_heap, as_field, default, select_at, store_value}
use Rattle.jd_model.specs.States.{State, read, write}
use Rattle.jd_model.specs.Runs.{wrap32, magnitude}

-- unbounded; by 0 the quotient is 0 and the remainder the dividend
abbrev pub arithmetic : ArithmeticOp → ℤ → ℤ → ℤ
arithmetic arithmetic_ops.Add x y = x +ℤ y
arithmetic arithmetic_ops.Subtract x y = x -ℤ y
arithmetic arithmetic_ops.Multiply x y = x *ℤ y
arithmetic arithmetic_ops.Divide x y = cond (is_zero y) (pos 0) (int_div x y)
arithmetic arithmetic_ops.Remainder x y = cond (is_zero y) x (int_rem x y)

-- what a bound variable of a sort makes of a value: no formula binds a heap
abbrev pub taken : Sort → Value → Value
taken IntSort v = IntValue (as_int v)
taken BoolSort v = BoolValue (as_bool v)
taken RefSort v = RefValue (as_ref v)
taken HeapSort v = HeapValue empty_heap
taken FieldSort v = FieldValue (as_field v)

abbrev pub bound_at : List Value → ℕ → Sort → Value
bound_at [] k s = default s
bound_at (v ∷ vs) zero s = taken s v
bound_at (v ∷ vs) (suc k) s = bound_at vs k s

-- the sum of f at n numbers from x on
abbrev pub sum_from : ℤ → ℕ → (ℤ → ℤ) → ℤ
sum_from x zero f = pos 0
sum_from x (suc n) f = sum_from x n f +ℤ f (x +ℤ pos n)

abbrev pub sum_range : ℤ → ℤ → (ℤ → ℤ) → ℤ
sum_range x y f = sum_from x (magnitude (y -ℤ x)) f

abbrev pub in_range : ℤ → ℤ → Field → Bool
in_range x y (Index i) = int_le x i && int_le i y
in_range x y f = false

abbrev pub is_index : Field → Bool
is_index (Index i) = true
is_index f = false

-- an interpretation of the constants is a store too
abbrev mutual
  pub value : State → State → List Value → PlainTerm → Value
  value i s b (Number z) = IntValue z
  value i s b (Boolean x) = BoolValue x
  value i s b NullTerm = RefValue Null
  value i s b (ProgramVariable x) = read s x
  value i s b (Constant c) = read i c
  value i s b (Bound k srt) = bound_at b k srt
  value i s b (Arithmetic op t u) = IntValue (arithmetic op (as_int (value i s b t)) (as_int (value i s b u)))
  value i s b (Negation t) = IntValue (neg_ℤ (as_int (value i s b t)))
  value i s b (Wrap t) = IntValue (wrap32 (as_int (value i s b t)))
  value i s b (Length t) = IntValue (length_of (as_ref (value i s b t)))
  value i s b (Select srt h o f) = select_at srt (as_heap (value i s b h)) (as_ref (value i s b o)) (as_field (value i s b f))
  value i s b (Sum t u a) = IntValue (sum_range (as_int (value i s b t)) (as_int (value i s b u)) (λ z. as_int (value i s (IntValue z ∷ b) a)))
  value i s b (Store h o f t) = HeapValue (store_value (as_heap (value i s b h)) (as_ref (value i s b o)) (as_field (value i s b f)) (value i s b t))
  value i s b (Create h o) = HeapValue (create (as_heap (value i s b h)) (as_ref (value i s b o)))
  value i s b (Anon h l g) = HeapValue (anon (as_heap (value i s b h)) (within i s b l) (as_heap (value i s b g)))
  value i s b (NamedField f) = FieldValue (Named f)
  value i s b CreatedField = FieldValue Created
  value i s b (ElementField t) = FieldValue (Index (as_int (value i s b t)))

  pub within : State → State → List Value → PlainLoc → Location → Bool
  within i s b NoLocations q = false
  within i s b AllLocations q = true
  within i s b (Single o f) q = same location_coding q (location (as_ref (value i s b o)) (as_field (value i s b f)))
  within i s b (ObjectFields o) q = same reference_coding q.at (as_ref (value i s b o))
  within i s b (ArrayElements o) q = same reference_coding q.at (as_ref (value i s b o)) && is_index q.field
  within i s b (ElementRange o t u) q = same reference_coding q.at (as_ref (value i s b o)) && in_range (as_int (value i s b t)) (as_int (value i s b u)) q.field
  within i s b (Union l m) q = within i s b l q || within i s b m q

-- the state after an update: the right sides in the old state, the last pair of a variable winning
abbrev pub updated : State → State → List Value → Pairs → State → State
updated i s b [] t = t
updated i s b (e ∷ u) t = updated i s b u (write t e.0 (value i s b e.1))

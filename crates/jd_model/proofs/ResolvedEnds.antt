-- Every integer of a state and of its heap fits 32 bits: resolved code keeps this, so that no array has a length that is none.
use Rattle.std.proofs.Common.{◌≡◌, ◌∙◌, ℕ, Bool, true, false, cond, ℤ, pos, negsuc, Option, Some, None, List, [], ◌∷◌, refl, sym, subst, true≢false, ◌&&◌, arith, int_lt, int_le, ◌≤◌, neg_ℤ}
use Rattle.std.specs.Prelude.{FitsSigned}
use Rattle.std.specs.Int.{w32}
use Rattle.std.proofs.lemmas.Bool.{leb-true, le-leb}
use Rattle.std.proofs.lemmas.Bool.{and_parts}
use borrow.Author.Differences.{fits_in}
use Rattle.jd_base.specs.declared.sort.Sort.{Sort}
use Rattle.jd_base.specs.declared.sort.Sort.TheVariants.{Int as IntSort, Bool as BoolSort, Ref as RefSort, Heap as HeapSort, Field as FieldSort}
use Rattle.jd_heap.proofs.Entries.{entry-empty, proper_only, entry-store, entry-create}
use Rattle.jd_heap.specs.Codings.{same}
use Rattle.jd_heap.specs.Heaps.{empty_heap, Heap, Entry, IntEntry, BoolEntry, RefEntry, entry, int_in, select_int, create, store, is_proper, length_of, is_length}
use Rattle.jd_heap.specs.ReferenceCodings.{location_coding, reference_coding}
use Rattle.jd_heap.specs.References.{Location, Reference, Null, Object, Array, Field, Named, Created, Index, location, is_created_field}
use Rattle.jd_heap.specs.Values.{as_heap, Value, IntValue, BoolValue, RefValue, HeapValue, FieldValue, as_int, at_sort, default, store_value, select_at}
use Rattle.jd_model.proofs.States.{read-write, read-none}
use Rattle.jd_model.specs.Cases.{Parameter, Case, SpecifiedProgram}
use Rattle.jd_model.specs.Truth.{Setting}
use Rattle.std.proofs.lemmas.Int.{SFits-int_wrap}
use Rattle.jd_model.specs.ResolvedBodies.{NotSpecial, ResolvedBodiesAssignNoHeap, IsMethodEnd, MeetsNoBadLength, ResolvedBodiesEnd}
use Rattle.jd_model.proofs.ResolvedRuns.{AllGood, Keeps, Ends, exec_at_ends}
use Rattle.jd_model.specs.Runs.{exec_at}
use Rattle.jd_model.specs.EntryExit.{AreOf, is_of}
use Rattle.jd_model.specs.KeptCases.{Entry as Enters, start_state, run_of}
use Rattle.jd_model.specs.Outcomes.{Outcome, Normal, Returned, Thrown, Broke, Stopped, NoLength, NotEnded}
use Rattle.jd_model.specs.Programs.{ValueType, IntType, BooleanType, ReferenceType, Program, Body}
use Rattle.jd_model.specs.Runs.{with_one, with_values, unary, wrap32}
use Rattle.jd_model.specs.States.{State, read, write, empty_state, heap_of, with_heap}
use Rattle.jd_model.specs.WellFormedHeaps.{in_int, is_typed, is_allowed, IsWellFormed}
use Rattle.jd_syntax.specs.CodeNames.{same_name, heap_name}
use Rattle.jd_syntax.specs.Names.{Name}
use Rattle.jd_syntax.specs.declared.code.UnaryOp.{UnaryOp}
use Rattle.jd_syntax.specs.declared.code.UnaryOp.TheVariants as unary_ops
use Rattle.jd_syntax.specs.CodeNames.{is_special}
use Rattle.jd_model.specs.Occurrences.{Always, AllOf}
use Rattle.jd_model.specs.Bodies.{NotHeap}
use Rattle.jd_model.proofs.Writes.{apart_by}
use Rattle.jd_model.proofs.Wider.{maybe_wider, code_wider}

both_true : (a b : Bool) → a ≡ true → b ≡ true → a && b ≡ true
both_true true b p q = q
both_true false b p q = absurd (true≢false (sym p))

-- what is wrapped fits 32 bits
wrap_fits : (z : ℤ) → FitsSigned w32 (wrap32 z)
wrap_fits z = SFits-int_wrap w32 z

fits_in_int : (z : ℤ) → in_int z ≡ true → FitsSigned w32 z
fits_in_int (pos n) e = let le : n ≤ 2147483647 = leb-true n 2147483647 (and_parts (int_le (negsuc 2147483647) (pos n)) (int_le (pos n) (pos 2147483647)) e).1 in omega (arith, fits_in)
fits_in_int (negsuc n) e = let le : n ≤ 2147483647 = leb-true n 2147483647 (and_parts (int_le (negsuc 2147483647) (negsuc n)) (int_le (negsuc n) (pos 2147483647)) e).0 in omega (arith, fits_in)

zero_fits : FitsSigned w32 (pos 0)
zero_fits = omega (arith, fits_in)

from_le : (a b : ℕ) → a ≤ b → int_le (pos a) (pos b) ≡ true
from_le a b le = le-leb a b le

small : (z : ℤ) → FitsSigned w32 z → int_lt z (pos 0) ≡ false → is_length z ≡ true
small (pos n) f e = let le : n ≤ 2147483647 = omega (arith, fits_in, f) in both_true (int_le (pos 0) (pos n)) (int_le (pos n) (pos 2147483647)) (from_le 0 n (omega arith)) (from_le n 2147483647 le)
small (negsuc n) f e = absurd (true≢false e)

abbrev HeapFits : Heap → Type 0
HeapFits h = (o : Reference) (f : Field) → is_created_field f ≡ false → FitsSigned w32 (select_int h o f)

-- a value's integer, and those of its heap
abbrev pub Good : Value → Type 0
Good v = FitsSigned w32 (as_int v) × HeapFits (as_heap v)

abbrev pub InRange : State → Type 0
InRange s = (x : Name) → Good (read s x)

none_fits : (e : Option Entry) → e ≡ None → FitsSigned w32 (int_in e)
none_fits e q = subst (λ z. FitsSigned w32 (int_in z)) (sym q) zero_fits

empty_fits : HeapFits empty_heap
empty_fits o f n = none_fits (entry empty_heap (location o f)) (entry-empty (location o f))

good_int : (z : ℤ) → FitsSigned w32 z → Good (IntValue z)
good_int z f = (f, empty_fits)

good_heap : (h : Heap) → HeapFits h → Good (HeapValue h)
good_heap h f = (zero_fits, f)

good_default : (k : Sort) → Good (default k)
good_default IntSort = (zero_fits, empty_fits)
good_default BoolSort = (zero_fits, empty_fits)
good_default RefSort = (zero_fits, empty_fits)
good_default HeapSort = (zero_fits, empty_fits)
good_default FieldSort = (zero_fits, empty_fits)

good_sorted : (k : Sort) (v : Value) → Good v → Good (at_sort k v)
good_sorted IntSort v g = (g.0, empty_fits)
good_sorted BoolSort v g = (zero_fits, empty_fits)
good_sorted RefSort v g = (zero_fits, empty_fits)
good_sorted HeapSort v g = (zero_fits, g.1)
good_sorted FieldSort v g = (zero_fits, empty_fits)

good_write : (s : State) (x : Name) (v : Value) → InRange s → Good v → InRange (write s x v)
good_write s x v i g z = subst Good (sym (read-write s x v z)) (by (same_name z x))
  where
    by : (b : Bool) → Good (cond b (at_sort x.sort v) (read s z))
    by true = good_sorted x.sort v g
    by false = i z

proper_fits : (l : Location) (e : Entry) (b : Bool) → FitsSigned w32 (int_in (Some e)) → FitsSigned w32 (int_in (cond b (Some e) None))
proper_fits l e true f = f
proper_fits l e false f = zero_fits

store_fits : (h : Heap) (o : Reference) (f : Field) (e : Entry) → HeapFits h → FitsSigned w32 (int_in (Some e)) → HeapFits (store h o f e)
store_fits h o f e i g r y n = subst (λ z. FitsSigned w32 (int_in z)) (sym (entry-store h o f e (location r y))) (by (is_created_field f) (same location_coding (location r y) (location o f)))
  where
    by : (b c : Bool) → FitsSigned w32 (int_in (cond b (entry h (location r y)) (cond c (proper_only (location o f) e) (entry h (location r y)))))
    by true c = i r y n
    by false true = proper_fits (location o f) e (is_proper (location o f) e) g
    by false false = i r y n

value_fits : (h : Heap) (o : Reference) (f : Field) (v : Value) → HeapFits h → Good v → HeapFits (store_value h o f v)
value_fits h o f (IntValue z) i g = store_fits h o f (IntEntry z) i g.0
value_fits h o f (BoolValue z) i g = store_fits h o f (BoolEntry z) i zero_fits
value_fits h o f (RefValue z) i g = store_fits h o f (RefEntry z) i zero_fits
value_fits h o f (HeapValue z) i g = store_fits h o f (RefEntry Null) i zero_fits
value_fits h o f (FieldValue z) i g = store_fits h o f (RefEntry Null) i zero_fits

create_fits : (h : Heap) (o : Reference) → HeapFits h → HeapFits (create h o)
create_fits h o i r y n = subst (λ z. FitsSigned w32 (int_in z)) (sym (entry-create h o (location r y))) (by (same location_coding (location r y) (location o Created)) (same reference_coding r o))
  where
    by : (b c : Bool) → FitsSigned w32 (int_in (cond b (Some (BoolEntry true)) (cond c None (entry h (location r y)))))
    by true c = zero_fits
    by false true = zero_fits
    by false false = i r y n

abbrev AllFit : List Value → Type 0
AllFit [] = Unit {0}
AllFit (v ∷ vs) = Good v × AllFit vs

good_values : (s : State) (xs : List Name) (vs : List Value) → InRange s → AllFit vs → InRange (with_values s xs vs)
good_values s [] vs i g = i
good_values s (x ∷ xs) [] i g = i
good_values s (x ∷ xs) (v ∷ vs) i g = good_values (write s x v) xs vs (good_write s x v i g.0) g.1

good_one : (s : State) (x : Option Name) (v : Value) → InRange s → Good v → InRange (with_one s x v)
good_one s None v i g = i
good_one s (Some x) v i g = good_write s x v i g

good_select : (s : State) (k : Sort) (o : Reference) (f : Field) → is_created_field f ≡ false → InRange s → Good (select_at k (heap_of s) o f)
good_select s IntSort o f n i = good_int (select_int (heap_of s) o f) ((i heap_name).1 o f n)
good_select s BoolSort o f n i = (zero_fits, empty_fits)
good_select s RefSort o f n i = (zero_fits, empty_fits)
good_select s HeapSort o f n i = (zero_fits, empty_fits)
good_select s FieldSort o f n i = (zero_fits, empty_fits)

good_unary : (op : UnaryOp) (v : Value) → Good v → Good (unary op v)
good_unary unary_ops.Negate v g = good_int (wrap32 (neg_ℤ (as_int v))) (wrap_fits (neg_ℤ (as_int v)))
good_unary unary_ops.Invert v g = (zero_fits, empty_fits)

length_fits : (r : Reference) → FitsSigned w32 (length_of r)
length_fits Null = zero_fits
length_fits (Object c n) = zero_fits
length_fits (Array l n) = by (is_length (pos l)) refl
  where
    by : (b : Bool) → is_length (pos l) ≡ b → FitsSigned w32 (cond b (pos l) (pos 0))
    by false e = zero_fits
    by true e = let le : l ≤ 2147483647 = leb-true l 2147483647 (and_parts (int_le (pos 0) (pos l)) (int_le (pos l) (pos 2147483647)) e).1 in omega (arith, fits_in)

pub none_in_range : InRange empty_state
none_in_range x = subst Good (sym (read-none x)) (good_default x.sort)

pub range_kept : (p : Program) → Keeps p ⊥ Good InRange
range_kept p = record {
  reads = λ s x i. i x;
  writes = good_write;
  puts = λ s o f v i g. good_write s heap_name (HeapValue (store_value (heap_of s) o f v)) i (good_heap (store_value (heap_of s) o f v) (value_fits (heap_of s) o f v (i heap_name).1 g));
  news = λ s o i. good_write s heap_name (HeapValue (create (heap_of s) o)) i (good_heap (create (heap_of s) o) (create_fits (heap_of s) o (i heap_name).1));
  back = λ s t i j. good_write s heap_name (HeapValue (heap_of t)) i (good_heap (heap_of t) (j heap_name).1);
  begins = λ s b r vs i g. good_values (with_one (with_heap empty_state (heap_of s)) b.receiver (RefValue r)) b.parameters vs (good_one (with_heap empty_state (heap_of s)) b.receiver (RefValue r) (good_write empty_state heap_name (HeapValue (heap_of s)) none_in_range (good_heap (heap_of s) (i heap_name).1)) (zero_fits, empty_fits)) g;
  selects = good_select;
  unaries = good_unary;
  wraps = λ z. good_int (wrap32 z) (wrap_fits z);
  bools = λ b. (zero_fits, empty_fits);
  refs = λ r. (zero_fits, empty_fits);
  lengths = λ r. good_int (length_of r) (length_fits r);
  defaults = good_default;
  sorted = good_sorted;
  literals = λ z e. good_int z (fits_in_int z e);
  sizes = λ v g e f. true≢false (sym (small (as_int v) g.0 e) ∙ f);
}

-- ---- from an entry state

typed_fits : (p : Program) (h : Heap) (t : ValueType) (e : Entry) → is_typed p h t e ≡ true → FitsSigned w32 (int_in (Some e))
typed_fits p h IntType (IntEntry z) q = fits_in_int z q
typed_fits p h t (BoolEntry z) q = zero_fits
typed_fits p h t (RefEntry z) q = zero_fits
typed_fits p h BooleanType (IntEntry z) q = absurd (true≢false (sym q))
typed_fits p h (ReferenceType k) (IntEntry z) q = absurd (true≢false (sym q))

allowed_fits : (p : Program) (h : Heap) (o : Reference) (f : Field) (e : Entry) → is_created_field f ≡ false → is_allowed p h o f e ≡ true → FitsSigned w32 (int_in (Some e))
allowed_fits p h o Created e n q = absurd (true≢false n)
allowed_fits p h Null (Named f) e n q = absurd (true≢false (sym q))
allowed_fits p h (Object c m) (Named f) e n q = typed_fits p h (p.field_type f) e (and_parts (p.has_field c f) (is_typed p h (p.field_type f) e) q).1
allowed_fits p h (Array l m) (Named f) e n q = absurd (true≢false (sym q))
allowed_fits p h Null (Index z) e n q = absurd (true≢false (sym q))
allowed_fits p h (Object c m) (Index z) e n q = absurd (true≢false (sym q))
allowed_fits p h (Array l m) (Index z) e n q = typed_fits p h IntType e (and_parts (int_le (pos 0) z && int_lt z (length_of (Array l m))) (is_typed p h IntType e) q).1

pub wf_fits : (p : Program) (h : Heap) → IsWellFormed p h → HeapFits h
wf_fits p h wf o f n = by (entry h (location o f)) refl
  where
    by : (e : Option Entry) → entry h (location o f) ≡ e → FitsSigned w32 (int_in e)
    by None q = zero_fits
    by (Some e) q = allowed_fits p h o f e n (wf (location o f) e q)

module _ (g : Setting) (h : Heap) where
  declared_fits : (t : ValueType) (nullable : Bool) (v : Value) → is_of g h (record { type = t; nullable = nullable }) v ≡ true → Good v
  declared_fits IntType nl (IntValue z) e = good_int z (fits_in_int z e)
  declared_fits BooleanType nl (BoolValue z) e = (zero_fits, empty_fits)
  declared_fits (ReferenceType k) nl (RefValue z) e = (zero_fits, empty_fits)
  declared_fits t nl v e = absurd (true≢false (sym e))

  arguments_fit : (xs : List Parameter) (vs : List Value) → AreOf g h xs vs → AllFit vs
  arguments_fit [] [] a = tt
  arguments_fit (x ∷ xs) (v ∷ vs) a = (declared_fits x.declared.type x.declared.nullable v a.0, arguments_fit xs vs a.1)
  arguments_fit [] (v ∷ vs) a = absurd a
  arguments_fit (x ∷ xs) [] a = absurd a

start_in_range : (p : SpecifiedProgram) (c : Case) (b : Body) (h : Heap) (r : Reference) (vs : List Value) → Enters p c h r vs → InRange (start_state b h r vs)
start_in_range p c b h r vs en = good_values (with_one (with_heap empty_state h) b.receiver (RefValue r)) b.parameters vs (good_one (with_heap empty_state h) b.receiver (RefValue r) (good_write empty_state heap_name (HeapValue h) none_in_range (good_heap h (wf_fits p.setting.program h en.well_formed))) (zero_fits, empty_fits)) (arguments_fit p.setting h c.contract.parameters vs en.arguments)

-- ---- resolved bodies

-- nothing is known of the values and the states
abbrev AnyValue : Value → Type 0
AnyValue v = Unit {0}

abbrev AnyState : State → Type 0
AnyState s = Unit {0}

any_values : (p : Program) (vs : List Value) → AllGood p (Unit {0}) AnyValue AnyState vs
any_values p [] = tt
any_values p (v ∷ vs) = (tt, any_values p vs)

any_kept : (p : Program) → Keeps p (Unit {0}) AnyValue AnyState
any_kept p = record {
  reads = λ s x i. tt;
  writes = λ s x v i g. tt;
  puts = λ s o f v i g. tt;
  news = λ s o i. tt;
  back = λ s t i j. tt;
  begins = λ s b r vs i g. tt;
  selects = λ s k o f n i. tt;
  unaries = λ op v g. tt;
  wraps = λ z. tt;
  bools = λ b. tt;
  refs = λ r. tt;
  lengths = λ r. tt;
  defaults = λ k. tt;
  sorted = λ k v g. tt;
  literals = λ z e. tt;
  sizes = λ v g e f. tt;
}

method_end : (p : Program) (o : Outcome (Unit {0})) → Ends p (Unit {0}) AnyValue AnyState [] (λ u. Unit {0}) o → IsMethodEnd o
method_end p (Normal u t) e = tt
method_end p (Returned v t) e = tt
method_end p (Thrown x t) e = e.0
method_end p (Broke l t) e = true≢false (sym e.0)
method_end p (Stopped t) e = e
method_end p NoLength e = tt
method_end p NotEnded e = tt

length_met : (p : Program) (o : Outcome (Unit {0})) → Ends p ⊥ Good InRange [] (λ u. Unit {0}) o → MeetsNoBadLength o
length_met p (Normal u t) e = tt
length_met p (Returned v t) e = tt
length_met p (Thrown x t) e = tt
length_met p (Broke l t) e = tt
length_met p (Stopped t) e = tt
length_met p NoLength e = e
length_met p NotEnded e = tt

pub resolved_bodies_end : ResolvedBodiesEnd
resolved_bodies_end = record {
  as_methods = λ p all m b has d n s. method_end p (exec_at p d n b.code s)
      (exec_at_ends p (Unit {0}) AnyValue AnyState (any_kept p) (λ k c q. (all k c q).code) n d b.code (all m b has).code s tt);
  with_lengths = λ p all c b has h r vs en d n. length_met p.setting.program (run_of p b d n h r vs)
      (exec_at_ends p.setting.program ⊥ Good InRange (range_kept p.setting.program) (λ k e q. (all k e q).code) n d b.code (all c.body b has).code (start_state b h r vs) (start_in_range p c b h r vs en));
}

-- ---- the heap's variable

not_heap : (x : Name) → NotSpecial x → NotHeap x
not_heap x n = apart_by is_special heap_name x refl n

none_heap : (xs : List Name) → AllOf NotSpecial xs → AllOf NotHeap xs
none_heap [] n = tt
none_heap (x ∷ xs) n = (not_heap x n.0, none_heap xs n.1)

pub resolved_bodies_assign_no_heap : ResolvedBodiesAssignNoHeap
resolved_bodies_assign_no_heap p all m b has =
    let o = all m b has in record {
      receiver = maybe_wider Always NotSpecial Always NotHeap (λ x k. k) not_heap b.receiver o.receiver;
      parameters = none_heap b.parameters o.parameters;
      code = code_wider Always NotSpecial Always NotHeap (λ x k. k) not_heap b.code o.assigned;
    }

-- A term's value has the term's sort.
use Rattle.std.proofs.Common.{ℕ, zero, suc, List, [], ◌∷◌}
use Rattle.jd_base.specs.declared.sort.Sort.{Sort}
use Rattle.jd_base.specs.declared.sort.Sort.TheVariants.{Int as IntSort, Bool as BoolSort, Ref as RefSort, Heap as HeapSort, Field as FieldSort}
use Rattle.jd_heap.specs.Heaps.{Heap}
use Rattle.jd_heap.specs.References.{Reference, Field}
use Rattle.jd_heap.specs.Values.{Value, IsOf, select_at}
use Rattle.jd_model.proofs.States.{read_of}
use Rattle.jd_model.specs.States.{State}
use Rattle.jd_model.specs.TermValues.{bound_at, value}
use Rattle.jd_term.specs.Terms.{PlainTerm, sort_of_term, Number, Boolean, NullTerm, ProgramVariable, Constant, Bound, Arithmetic, Negation, Wrap, Length, Select, Sum, Store, Create, Anon, NamedField, CreatedField, ElementField}

selected : (k : Sort) (h : Heap) (o : Reference) (f : Field) → IsOf k (select_at k h o f)
selected IntSort h o f = tt
selected BoolSort h o f = tt
selected RefSort h o f = tt
selected HeapSort h o f = tt
selected FieldSort h o f = tt

pub bound_sort : (b : List Value) (k : ℕ) (s : Sort) → IsOf s (bound_at b k s)
bound_sort [] k IntSort = tt
bound_sort [] k BoolSort = tt
bound_sort [] k RefSort = tt
bound_sort [] k HeapSort = tt
bound_sort [] k FieldSort = tt
bound_sort (v ∷ b) zero IntSort = tt
bound_sort (v ∷ b) zero BoolSort = tt
bound_sort (v ∷ b) zero RefSort = tt
bound_sort (v ∷ b) zero HeapSort = tt
bound_sort (v ∷ b) zero FieldSort = tt
bound_sort (v ∷ b) (suc k) s = bound_sort b k s

pub value_sort : (i s : State) (b : List Value) (t : PlainTerm) → IsOf (sort_of_term t) (value i s b t)
value_sort i s b (Number z) = tt
value_sort i s b (Boolean x) = tt
value_sort i s b NullTerm = tt
value_sort i s b (ProgramVariable x) = read_of s x
value_sort i s b (Constant c) = read_of i c
value_sort i s b (Bound k srt) = bound_sort b k srt
value_sort i s b (Arithmetic op t u) = tt
value_sort i s b (Negation t) = tt
value_sort i s b (Wrap t) = tt
value_sort i s b (Length t) = tt
value_sort i s b (Select k h o f) = selected k _ _ _
value_sort i s b (Sum t u a) = tt
value_sort i s b (Store h o f t) = tt
value_sort i s b (Create h o) = tt
value_sort i s b (Anon h l g) = tt
value_sort i s b (NamedField f) = tt
value_sort i s b CreatedField = tt
value_sort i s b (ElementField t) = tt

-- Values: of the five sorts, with the defaults, and reading and storing of values in heaps.
use Rattle.std.specs.Prelude.{Bool, false, ℤ, pos}
use Rattle.jd_base.specs.declared.sort.Sort.{Sort}
use Rattle.jd_base.specs.declared.sort.Sort.TheVariants.{Int as IntSort, Bool as BoolSort, Ref as RefSort, Heap as HeapSort, Field as FieldSort}
use Rattle.jd_heap.specs.References.{Reference, Null, Field, Created}
use Rattle.jd_heap.specs.Heaps.{Heap, empty_heap, IntEntry, BoolEntry, RefEntry, select_int, select_bool, select_ref, store}

pub data Value : Type 0 where
  IntValue : ℤ → Value
  BoolValue : Bool → Value
  RefValue : Reference → Value
  HeapValue : Heap → Value
  FieldValue : Field → Value

-- the parts of a value, where one of another sort gives the default
abbrev pub as_int : Value → ℤ
as_int (IntValue z) = z
as_int v = pos 0

abbrev pub as_bool : Value → Bool
as_bool (BoolValue b) = b
as_bool v = false

abbrev pub as_ref : Value → Reference
as_ref (RefValue r) = r
as_ref v = Null

abbrev pub as_heap : Value → Heap
as_heap (HeapValue h) = h
as_heap v = empty_heap

abbrev pub as_field : Value → Field
as_field (FieldValue f) = f
as_field v = Created

-- the value at a sort: itself where it has the sort, else the sort's default
abbrev pub at_sort : Sort → Value → Value
at_sort IntSort v = IntValue (as_int v)
at_sort BoolSort v = BoolValue (as_bool v)
at_sort RefSort v = RefValue (as_ref v)
at_sort HeapSort v = HeapValue (as_heap v)
at_sort FieldSort v = FieldValue (as_field v)

abbrev pub default : Sort → Value
default IntSort = IntValue (pos 0)
default BoolSort = BoolValue false
default RefSort = RefValue Null
default HeapSort = HeapValue empty_heap
default FieldSort = FieldValue Created

abbrev pub IsOf : Sort → Value → Type 0
IsOf IntSort (IntValue z) = Unit {0}
IsOf BoolSort (BoolValue z) = Unit {0}
IsOf RefSort (RefValue z) = Unit {0}
IsOf HeapSort (HeapValue z) = Unit {0}
IsOf FieldSort (FieldValue z) = Unit {0}
IsOf s v = ⊥

-- a heap is read at integers, truth values and references
abbrev pub select_at : Sort → Heap → Reference → Field → Value
select_at IntSort h o f = IntValue (select_int h o f)
select_at BoolSort h o f = BoolValue (select_bool h o f)
select_at RefSort h o f = RefValue (select_ref h o f)
select_at HeapSort h o f = default HeapSort
select_at FieldSort h o f = default FieldSort

-- a heap or a field removes the entry
abbrev pub store_value : Heap → Reference → Field → Value → Heap
store_value h o f (IntValue z) = store h o f (IntEntry z)
store_value h o f (BoolValue b) = store h o f (BoolEntry b)
store_value h o f (RefValue r) = store h o f (RefEntry r)
store_value h o f (HeapValue g) = store h o f (RefEntry Null)
store_value h o f (FieldValue g) = store h o f (RefEntry Null)

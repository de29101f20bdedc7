-- States and interpretations: finite maps from program variables, and from constants, to values of their sorts (The KeY Book, 3.3.1).
-- A name without an entry has its sort's default. The heap is the value of the variable `@heap`.
use Rattle.std.specs.Prelude.{Bool, false, not, Option, nat_eq}
use Rattle.std.specs.Option.{unwrap_or}
use Rattle.std.specs.FinMap.{len}
use Rattle.jd_base.specs.declared.sort.Sort.{Sort}
use Rattle.jd_base.specs.declared.sort.Sort.TheVariants.{Int as IntSort, Bool as BoolSort, Ref as RefSort, Heap as HeapSort, Field as FieldSort}
use Rattle.jd_syntax.specs.Names.{Name}
use Rattle.jd_syntax.specs.CodeNames.{heap_name}
use Rattle.jd_heap.specs.SparseMaps.{SparseMap, find, no_entries, put}
use Rattle.jd_heap.specs.References.{is_null, is_created_field}
use Rattle.jd_heap.specs.Heaps.{Heap, is_zero}
use Rattle.jd_heap.specs.Values.{Value, IntValue, BoolValue, RefValue, HeapValue, FieldValue, as_heap, at_sort, default}
use Rattle.jd_model.specs.NameCodings.{name_coding}

-- a value of the sort that is not its default
abbrev pub is_worth : Sort → Value → Bool
is_worth IntSort (IntValue z) = not (is_zero z)
is_worth BoolSort (BoolValue b) = b
is_worth RefSort (RefValue r) = not (is_null r)
is_worth HeapSort (HeapValue h) = not (nat_eq (len h.map) 0)
is_worth FieldSort (FieldValue f) = not (is_created_field f)
is_worth s v = false

abbrev pub worth_at : Name → Value → Bool
worth_at x v = is_worth x.sort v

abbrev pub State : Type 0
State = SparseMap name_coding worth_at

abbrev pub read_in : Sort → Option Value → Value
read_in s o = unwrap_or o (default s)

unfoldable pub read : State → Name → Value
read s x = read_in x.sort (find name_coding worth_at s x)

unfoldable pub write : State → Name → Value → State
write s x v = put name_coding worth_at s x (at_sort x.sort v)

unfoldable pub empty_state : State
empty_state = no_entries name_coding worth_at

abbrev pub heap_of : State → Heap
heap_of s = as_heap (read s heap_name)

abbrev pub with_heap : State → Heap → State
with_heap s h = write s heap_name (HeapValue h)

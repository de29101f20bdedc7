-- The variables and constants that stand for the heap, the receiver, results and exceptions, in states and interpretations.
use Rattle.std.specs.Prelude.{codes}
use Rattle.jd_base.specs.declared.sort.Sort.{Sort}
use Rattle.jd_base.specs.declared.sort.Sort.TheVariants.{Int as IntSort, Bool as BoolSort, Ref as RefSort, Heap as HeapSort, Field as FieldSort}
use Rattle.jd_syntax.specs.Names.{Name}

-- the heap, the measure and the receiver at the entry
abbrev pub entry_heap : Name
entry_heap = record { text = codes "#hpre"; sort = HeapSort }

abbrev pub entry_measure : Name
entry_measure = record { text = codes "#im"; sort = IntSort }

abbrev pub receiver : Name
receiver = record { text = codes "#r_this"; sort = RefSort }

-- a reference that was thrown
abbrev pub thrown_variable : Name
thrown_variable = record { text = codes "@rexc"; sort = RefSort }

-- a method's result, by its sort
abbrev pub int_result : Name
int_result = record { text = codes "@ires"; sort = IntSort }

abbrev pub result_variable : Sort → Name
result_variable IntSort = int_result
result_variable BoolSort = record { text = codes "@bres"; sort = BoolSort }
result_variable RefSort = record { text = codes "@rres"; sort = RefSort }
result_variable HeapSort = record { text = codes "@hres"; sort = HeapSort }
result_variable FieldSort = record { text = codes "@fres"; sort = FieldSort }

-- Any two proofs that sorts are the same are one.
use Rattle.std.proofs.Common.{◌≡◌, ℕ, zero, suc, refl}
use Rattle.std.specs.Coded.{Coded, code_by, coded_ℕ}
use Rattle.jd_base.specs.declared.sort.Sort.{Sort}
use Rattle.jd_base.specs.declared.sort.Sort.TheVariants.{Int as IntSort, Bool as BoolSort, Ref as RefSort, Heap as HeapSort, Field as FieldSort}

abbrev number_of : Sort → ℕ
number_of IntSort = 0
number_of BoolSort = 1
number_of RefSort = 2
number_of HeapSort = 3
number_of FieldSort = 4

abbrev sort_numbered : ℕ → Sort
sort_numbered zero = IntSort
sort_numbered (suc zero) = BoolSort
sort_numbered (suc (suc zero)) = RefSort
sort_numbered (suc (suc (suc zero))) = HeapSort
sort_numbered (suc (suc (suc (suc n)))) = FieldSort

numbered_back : (s : Sort) → sort_numbered (number_of s) ≡ s
numbered_back IntSort = refl
numbered_back BoolSort = refl
numbered_back RefSort = refl
numbered_back HeapSort = refl
numbered_back FieldSort = refl

pub coded_sort : Coded Sort
coded_sort = code_by ℕ coded_ℕ number_of sort_numbered numbered_back

-- Names as lists of numbers, so that maps may be keyed by them.
use Rattle.std.specs.Prelude.{ℕ, zero, suc, List, [], ◌∷◌}
use Rattle.std.proofs.Common.{refl}
use Rattle.jd_base.specs.declared.sort.Sort.{Sort}
use Rattle.jd_base.specs.declared.sort.Sort.TheVariants.{Int as IntSort, Bool as BoolSort, Ref as RefSort, Heap as HeapSort, Field as FieldSort}
use Rattle.jd_syntax.specs.Names.{Name}
use Rattle.jd_heap.specs.Codings.{Coding}

abbrev pub sort_number : Sort → ℕ
sort_number IntSort = 0
sort_number BoolSort = 1
sort_number RefSort = 2
sort_number HeapSort = 3
sort_number FieldSort = 4

abbrev pub sort_of_number : ℕ → Sort
sort_of_number zero = IntSort
sort_of_number (suc zero) = BoolSort
sort_of_number (suc (suc zero)) = RefSort
sort_of_number (suc (suc (suc zero))) = HeapSort
sort_of_number (suc (suc (suc (suc n)))) = FieldSort

abbrev pub sort_coding : Coding Sort
sort_coding = record {
  code = λ s. sort_number s ∷ [];
  read = elim [ [] ↦ IntSort | n ∷ l ↦ sort_of_number n ];
  reads = elim [ IntSort ↦ refl | BoolSort ↦ refl | RefSort ↦ refl | HeapSort ↦ refl | FieldSort ↦ refl ];
}

abbrev pub name_code : Name → List ℕ
name_code x = sort_number x.sort ∷ x.text

abbrev pub name_read : List ℕ → Name
name_read [] = record { text = []; sort = IntSort }
name_read (n ∷ l) = record { text = l; sort = sort_of_number n }

abbrev pub name_coding : Coding Name
name_coding = record {
  code = name_code;
  read = name_read;
  reads = λ x i. record { text = x.text; sort = (sort_coding.reads x.sort) i };
}

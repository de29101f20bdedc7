-- Tests that are met, part by part, and sorts that are told to be one.
use Rattle.std.proofs.Common.{Bool, refl, sym, true, true≢false, ◌&&◌, ◌≡◌}
use Rattle.std.proofs.lemmas.Bool.{and_parts}
use Rattle.jd_base.specs.declared.sort.Sort.{Sort}
use Rattle.jd_base.specs.declared.sort.Sort.TheVariants.{Bool as BoolSort, Field as FieldSort, Heap as HeapSort, Int as IntSort, Ref as RefSort}
use Rattle.jd_syntax.specs.CodeNames.{same_sort}

pub all_2 : (a b : Bool) → (a && b) ≡ true → (a ≡ true) × (b ≡ true)
all_2 a b h = and_parts a b h

pub all_3 : (a b c : Bool) → (a && b && c) ≡ true → (a ≡ true) × (b ≡ true) × (c ≡ true)
all_3 a b c h = let x = and_parts (a && b) c h in let y = all_2 a b x.0 in (y.0, y.1, x.1)

pub all_4 : (a b c d : Bool) → (a && b && c && d) ≡ true → (a ≡ true) × (b ≡ true) × (c ≡ true) × (d ≡ true)
all_4 a b c d h = let x = and_parts (a && b && c) d h in let y = all_3 a b c x.0 in (y.0, y.1, y.2, x.1)

pub one_sort : (r s : Sort) → same_sort r s ≡ true → r ≡ s
one_sort IntSort IntSort e = refl
one_sort BoolSort BoolSort e = refl
one_sort RefSort RefSort e = refl
one_sort HeapSort HeapSort e = refl
one_sort FieldSort FieldSort e = refl
one_sort _ _ e = absurd (true≢false (sym e))

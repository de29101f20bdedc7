-- The test of names decides equality.
use Rattle.jd_base.specs.declared.sort.Sort.{Sort}
use Rattle.jd_base.specs.declared.sort.Sort.TheVariants.{Int, Bool as BoolSort, Ref, Heap, Field}
use Rattle.jd_syntax.specs.CodeNames.{same_name, same_sort}
use Rattle.jd_syntax.specs.Names.{Name}
use Rattle.std.proofs.Common.{◌≡◌, Bool, Decides, true, false, ◌&&◌, refl, sym, subst, true≢false}
use lib.Pointwise.{bytes_decides}

both_true : (a b : Bool) → (a && b) ≡ true → (a ≡ true) × (b ≡ true)
both_true true b h = (refl, h)
both_true false b h = absurd (true≢false (sym h))

sort_itself : (s : Sort) → same_sort s s ≡ true
sort_itself Int = refl
sort_itself BoolSort = refl
sort_itself Ref = refl
sort_itself Heap = refl
sort_itself Field = refl

sort_same : (s t : Sort) → same_sort s t ≡ true → s ≡ t
sort_same Int Int h = refl
sort_same BoolSort BoolSort h = refl
sort_same Ref Ref h = refl
sort_same Heap Heap h = refl
sort_same Field Field h = refl
sort_same _ _ h = absurd (true≢false (sym h))

name_itself : (v : Name) → same_name v v ≡ true
name_itself v = λ i. (bytes_decides v.text v.text).1 refl i && sort_itself v.sort i

pub same_name_decides : (v w : Name) → Decides (same_name v w) (v ≡ w)
same_name_decides v w = (there, λ e. subst (λ x. same_name v x ≡ true) e (name_itself v))
  where
    there : same_name v w ≡ true → v ≡ w
    there h =
        let parts = both_true _ _ h in
        λ i. record { text = (bytes_decides v.text w.text).0 parts.0 i; sort = sort_same v.sort w.sort parts.1 i }

-- The order of names is a total order that tells names apart.
use Rattle.std.proofs.Common.{◌≡◌, Bool, true, false, Ordering, Less, Equal, Greater, refl, sym, ap, ◌∙◌, true≢false}
use Rattle.std.specs.Ordering.{nat_cmp, is_eq, ordering_then, ordering_reverse}
use Rattle.std.specs.Cmp.{IsTotalOrder}
use Rattle.std.specs.Cmp.Lexicographic.{slice_cmp}
use Rattle.std.specs.FinMap.{nat_cmp-IsAntisymmetric, slice_cmp-IsAntisymmetric}
use Rattle.std.proofs.lemmas.Cmp.{nat_list_cmp_total, nat_cmp_total, on_total, then_total, tied_itself}
use Rattle.jd_base.specs.declared.sort.Sort.{Sort}
use Rattle.jd_base.specs.declared.sort.Sort.TheVariants.{Int as IntSort, Bool as BoolSort, Ref as RefSort, Heap as HeapSort, Field as FieldSort}
use Rattle.jd_syntax.specs.Names.{Name}
use Rattle.jd_syntax.specs.CodeNames.{same_name}
use Rattle.jd_syntax.proofs.NameTests.{same_name_decides}
use Rattle.jd_model.specs.NameCodings.{sort_of_number}
use Rattle.jd_update.specs.Push.{name_order, sort_rank}

name_total : IsTotalOrder name_order
name_total = then_total (on_total (λ (x : Name). x.text) nat_list_cmp_total) (on_total (λ (x : Name). sort_rank x.sort) nat_cmp_total)

first_equal : (o r : Ordering) → ordering_then o r ≡ Equal → o ≡ Equal
first_equal Less r e = e
first_equal Equal r e = refl
first_equal Greater r e = e

second_equal : (o r : Ordering) → ordering_then o r ≡ Equal → r ≡ Equal
second_equal Less r e = absurd (true≢false (sym (ap is_eq e)))
second_equal Equal r e = e
second_equal Greater r e = absurd (true≢false (sym (ap is_eq e)))

ranked_sort : (k : Sort) → sort_of_number (sort_rank k) ≡ k
ranked_sort IntSort = refl
ranked_sort BoolSort = refl
ranked_sort RefSort = refl
ranked_sort HeapSort = refl
ranked_sort FieldSort = refl

pub order_equal : (x y : Name) → name_order x y ≡ Equal → x ≡ y
order_equal x y e =
    let texts : x.text ≡ y.text = slice_cmp-IsAntisymmetric nat_cmp-IsAntisymmetric x.text y.text (first_equal _ _ e) in
    let ranks : sort_rank x.sort ≡ sort_rank y.sort = nat_cmp-IsAntisymmetric (sort_rank x.sort) (sort_rank y.sort) (second_equal (slice_cmp nat_cmp x.text y.text) _ e) in
    let sorts : x.sort ≡ y.sort = sym (ranked_sort x.sort) ∙ ap sort_of_number ranks ∙ ranked_sort y.sort in
    λ i. record { text = texts i; sort = sorts i }

pub order_turned : (x y : Name) → name_order x y ≡ Greater → name_order y x ≡ Less
order_turned x y e = name_total.antisymm y x ∙ ap ordering_reverse e

pub order_passed : (x y z : Name) → name_order x y ≡ Less → name_order y z ≡ Less → name_order x z ≡ Less
order_passed x y z e f = name_total.trans x y z e f

pub below_apart : (x y : Name) → name_order x y ≡ Less → same_name x y ≡ false
below_apart x y e = by (same_name x y) refl
  where
    by : (c : Bool) → same_name x y ≡ c → c ≡ false
    by true p =
        let tied : name_order x y ≡ Equal = ap (name_order x) (sym ((same_name_decides x y).0 p)) ∙ tied_itself name_total x in
        absurd (true≢false (sym (ap is_eq (sym e ∙ tied))))
    by false p = refl

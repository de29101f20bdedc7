use Rattle.std.proofs.Common.{◌≡◌, ℕ, ◌<◌, List, length, map, slice_index, sym, ap, subst, ◌∙◌, arith}
use Rattle.std.proofs.lemmas.List.{length-map}
use Rattle.jd_jlists.specs.Views.{member_of_view}
use Rattle.jd_jclashes.proofs.Reasons.{found_hiding, own_variants}
use Rattle.jd_jclashes.proofs.items.first_hiding.Goals as goal

pub first_differing-requires-clause-numbered : goal.first_differing-requires-clause-numbered
first_differing-requires-clause-numbered c =
    let count = length c.args.members.now in
    let own = subst (λ (l : List ℕ). (i : ℕ) → i < count → slice_index l i ≡ i) (sym c.deref.ensures.value) c.in_ok-indices.ensures.each in
    own_variants (map member_of_view c.args.members.now) c.deref.result.now count (sym (length-map c.args.members.now member_of_view))
    (ap length c.deref.ensures.value ∙ c.in_ok-indices.ensures.length) own

pub returns-clause-found : goal.returns-clause-found
returns-clause-found c units same same_ups stand =
    let count = length c.args.members.now in
    let own = subst (λ (l : List ℕ). (i : ℕ) → i < count → slice_index l i ≡ i) (sym c.deref.ensures.value) c.in_ok-indices.ensures.each in
    let all = sym (ap length same) ∙ length-map c.args.members.now member_of_view in
    found_hiding units stand c.deref.result.now (λ i lt. own i (omega (arith, lt, all))) c.in_ok-first_differing.field-0 (c.in_ok-first_differing.ensures.found units same same_ups)

-- Items that disagree are members that differ from one of an ancestor.
use Rattle.std.proofs.Common.{◌≡◌, ◌≢◌, ℕ, ◌+◌, ◌<◌, Bool, true, false, List, Option, Some, None, MatchOption, length, slice_index, refl, sym, ap, ◌∙◌, subst, inl, inr, arith}
use Rattle.std.proofs.lemmas.Option.{same_Some, slice_get_cases, slice_get_within}
use Rattle.std.specs.List.{slice_get}
use Rattle.jd_ancestry.specs.Ancestors.{Above}
use Rattle.jd_syntax.specs.JavaTrees.{JavaUnit}
use Rattle.jd_inherited.specs.declared.items.Item.{Item}
use Rattle.jd_inherited.specs.Disagreements.{Disagrees, IsFirst, NoneDisagrees}
use Rattle.jd_inherited.specs.Items.{AreItems, HaveOneKey, IsItem}
use Rattle.jd_jclasses.specs.Classes.{parents}
use Rattle.jd_jclasses.specs.Members.{Kind, Declared, declared_members}
use Rattle.jd_jclasses.specs.Numbers.{AreNumbers}
use Rattle.jd_jclasses.specs.Refusals.{SameName}
use Rattle.jd_jclashes.specs.Firsts.{IsFoundFirst}
use Rattle.jd_jclashes.specs.Items.{AreItemsOf, AreVariants, DiffersAt, HaveClassesBelow, item_of}
use Rattle.jd_jclashes.proofs.Firsts.{found_too}

-- ---- one item

node_of : (b : Bool) (i class name names variant variants : ℕ) → (item_of b i class name names variant variants).node ≡ class
node_of true i class name names variant variants = refl
node_of false i class name names variant variants = refl

key_of : (b : Bool) (i class name names variant variants : ℕ) → b ≡ true → (item_of b i class name names variant variants).key ≡ name
key_of b i class name names variant variants h = ap (λ (t : Bool). (item_of t i class name names variant variants).key) h

variant_of : (b : Bool) (i class name names variant variants : ℕ) → b ≡ true → (item_of b i class name names variant variants).variant ≡ variant
variant_of b i class name names variant variants h = ap (λ (t : Bool). (item_of t i class name names variant variants).variant) h

is_item : (b : Bool) (i class name names variant variants nodes count : ℕ) → class < nodes → name < names → variant < variants → i < count → IsItem nodes (names + count) (variants + count) (item_of b i class name names variant variants)
is_item true i class name names variant variants nodes count c n v lt = record { node = c; key = omega (arith, n); variant = omega (arith, v) }
is_item false i class name names variant variants nodes count c n v lt = record { node = c; key = omega (arith, lt); variant = omega (arith, lt) }

-- ---- two items

module _ (i j c d n m names v w variants : ℕ) (small_v : v < variants) (small_w : w < variants) (small_n : n < names) (small_m : m < names) where
  -- of one variant they have one key
  one_key_of : (s t : Bool) → (v ≡ w → n ≡ m) → (item_of s i c n names v variants).variant ≡ (item_of t j d m names w variants).variant → (item_of s i c n names v variants).key ≡ (item_of t j d m names w variants).key
  one_key_of true true law h = law h
  one_key_of true false law h = absurd (omega (arith, small_v, h))
  one_key_of false true law h = absurd (omega (arith, small_w, h))
  one_key_of false false law h = omega (arith, h)

  -- of one key and two variants they are compared
  both_compared : (s t : Bool) → (item_of s i c n names v variants).key ≡ (item_of t j d m names w variants).key → (item_of s i c n names v variants).variant ≢ (item_of t j d m names w variants).variant
      → (s ≡ true) × (t ≡ true) × (n ≡ m) × (v ≢ w)
  both_compared true true h ne = (refl, refl, h, ne)
  both_compared true false h ne = absurd (omega (arith, small_n, h))
  both_compared false true h ne = absurd (omega (arith, small_m, h))
  both_compared false false h ne = let same : variants + i ≡ variants + j = omega (arith, h) in absurd (ne same)

-- ---- the items of members

module _ (compared : Kind → Bool) (members : List Declared) (names : List ℕ) (name_count : ℕ) (variants : List ℕ) (variant_count : ℕ) (items : List Item)
    (are : AreItemsOf compared members names name_count variants variant_count items) (named : AreNumbers SameName members names name_count) (numbered : AreVariants members variants variant_count) where
  abbrev item_at : ℕ → Declared → Item
  item_at i m = item_of (compared m.kind) i m.class (slice_index names i) name_count (slice_index variants i) variant_count

  record IsOfMember (i : ℕ) (x : Item) : Type 0 where
    pub member : Declared
    pub there : slice_get members i ≡ Some member
    pub is : x ≡ item_at i member

  of_member : (i : ℕ) (x : Item) → slice_get items i ≡ Some x → IsOfMember i x
  of_member i x h =
      elim (slice_get_cases members i).1 [
        | inl found ↦ record { member = found.0; there = found.2; is = same_Some x (item_at i found.0) (sym h ∙ are.items_ i found.0 found.2) }
        | inr past ↦ absurd (omega (arith, slice_get_within items i x h, are.each, past.0))
      ]

  inside : (i : ℕ) (m : Declared) → slice_get members i ≡ Some m → i < length members
  inside i m there = slice_get_within members i m there

  small_name : (i : ℕ) (m : Declared) → slice_get members i ≡ Some m → slice_index names i < name_count
  small_name i m there = named.below i (inside i m there)

  small_variant : (i : ℕ) (m : Declared) → slice_get members i ≡ Some m → slice_index variants i < variant_count
  small_variant i m there = numbered.below i (inside i m there)

  pub are_items : (nodes count : ℕ) → count ≡ length members → HaveClassesBelow nodes members → AreItems nodes (name_count + count) (variant_count + count) items
  are_items nodes count all below i x h =
      let o = of_member i x h in
      subst (IsItem nodes (name_count + count) (variant_count + count)) (sym o.is)
      (is_item (compared o.member.kind) i o.member.class (slice_index names i) name_count (slice_index variants i) variant_count nodes count
      (below i o.member o.there) (small_name i o.member o.there) (small_variant i o.member o.there) (omega (arith, all, inside i o.member o.there)))

  pub have_one_key : HaveOneKey items
  have_one_key i j x y h k same =
      let o = of_member i x h in
      let p = of_member j y k in
      ap (λ (z : Item). z.key) o.is
      ∙ one_key_of i j o.member.class p.member.class (slice_index names i) (slice_index names j) name_count (slice_index variants i) (slice_index variants j) variant_count
      (small_variant i o.member o.there) (small_variant j p.member p.there) (small_name i o.member o.there) (small_name j p.member p.there) (compared o.member.kind) (compared p.member.kind)
      (λ e. (named.same i j o.member p.member o.there p.there).1 (numbered.one_name i j o.member p.member o.there p.there e))
      (sym (ap (λ (z : Item). z.variant) o.is) ∙ same ∙ ap (λ (z : Item). z.variant) p.is)
      ∙ sym (ap (λ (z : Item). z.key) p.is)

  module _ (units : List JavaUnit) (ups : List (Option ℕ)) (same : members ≡ declared_members units) (same_ups : ups ≡ parents units) where
    declared : (i : ℕ) (m : Declared) → slice_get members i ≡ Some m → slice_get (declared_members units) i ≡ Some m
    declared i m there = sym (ap (λ (l : List Declared). slice_get l i) same) ∙ there

    listed : (i : ℕ) (m : Declared) → slice_get (declared_members units) i ≡ Some m → slice_get members i ≡ Some m
    listed i m there = ap (λ (l : List Declared). slice_get l i) same ∙ there

    differs : (i : ℕ) → Disagrees ups items i → DiffersAt units compared variants i
    differs i d =
        let o = of_member i d.x d.stands in
        let p = of_member d.j d.y d.other_stands in
        let node : d.x.node ≡ o.member.class =
        ap (λ (z : Item). z.node) o.is ∙ node_of (compared o.member.kind) i o.member.class (slice_index names i) name_count (slice_index variants i) variant_count in
        let other_node : d.y.node ≡ p.member.class =
        ap (λ (z : Item). z.node) p.is ∙ node_of (compared p.member.kind) d.j p.member.class (slice_index names d.j) name_count (slice_index variants d.j) variant_count in
        let both =
        both_compared d.j i p.member.class o.member.class (slice_index names d.j) (slice_index names i) name_count (slice_index variants d.j) (slice_index variants i) variant_count
        (small_variant d.j p.member p.there) (small_variant i o.member o.there) (small_name d.j p.member p.there) (small_name i o.member o.there) (compared p.member.kind) (compared o.member.kind)
        (sym (ap (λ (z : Item). z.key) p.is) ∙ d.same_key ∙ ap (λ (z : Item). z.key) o.is)
        (λ e. d.other_variant (ap (λ (z : Item). z.variant) p.is ∙ e ∙ sym (ap (λ (z : Item). z.variant) o.is))) in
        record {
          place = d.j;
          other = p.member;
          one = o.member;
          other_there = declared d.j p.member p.there;
          there = declared i o.member o.there;
          above = subst (λ (l : List (Option ℕ)). Above l p.member.class o.member.class) same_ups (subst (λ (n : ℕ). Above ups n o.member.class) other_node (subst (λ (n : ℕ). Above ups d.y.node n) node d.above));
          other_compared = both.0;
          compared_ = both.1;
          name = (named.same d.j i p.member o.member p.there o.there).0 both.2;
          differ = both.3;
        }

    disagrees : (i : ℕ) → DiffersAt units compared variants i → Disagrees ups items i
    disagrees i d =
        let one = d.one in
        let other = d.other in
        let there = listed i one d.there in
        let other_there = listed d.place other d.other_there in
        let node : one.class ≡ (item_at i one).node = sym (node_of (compared one.kind) i one.class (slice_index names i) name_count (slice_index variants i) variant_count) in
        let other_node : other.class ≡ (item_at d.place other).node = sym (node_of (compared other.kind) d.place other.class (slice_index names d.place) name_count (slice_index variants d.place) variant_count) in
        let variant = variant_of (compared one.kind) i one.class (slice_index names i) name_count (slice_index variants i) variant_count d.compared_ in
        let other_variant = variant_of (compared other.kind) d.place other.class (slice_index names d.place) name_count (slice_index variants d.place) variant_count d.other_compared in
        record {
          x = item_at i one;
          stands = are.items_ i one there;
          j = d.place;
          y = item_at d.place other;
          other_stands = are.items_ d.place other other_there;
          above = subst (λ (n : ℕ). Above ups n (item_at i one).node) other_node (subst (λ (n : ℕ). Above ups other.class n) node (subst (λ (l : List (Option ℕ)). Above l other.class one.class) (sym same_ups) d.above));
          same_key = key_of (compared other.kind) d.place other.class (slice_index names d.place) name_count (slice_index variants d.place) variant_count d.other_compared
              ∙ (named.same d.place i other one other_there there).1 d.name
              ∙ sym (key_of (compared one.kind) i one.class (slice_index names i) name_count (slice_index variants i) variant_count d.compared_);
          other_variant = λ e. d.differ (sym other_variant ∙ e ∙ variant);
        }

    pub found_differing : (first : Option ℕ) → MatchOption first (NoneDisagrees ups items) (λ i. IsFirst ups items i) → IsFoundFirst (DiffersAt units compared variants) first
    found_differing None h = found_too (Disagrees ups items) (DiffersAt units compared variants) differs disagrees None h
    found_differing (Some i) h = found_too (Disagrees ups items) (DiffersAt units compared variants) differs disagrees (Some i) (record { here = h.disagrees; first = h.none_before })

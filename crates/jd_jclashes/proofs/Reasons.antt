-- Members that differ in a number from one of an ancestor are those that are refused.
use Rattle.std.proofs.Common.{◌≡◌, ◌≢◌, ℕ, ◌<◌, ◌⊎◌, Bool, true, false, List, Option, Some, length, slice_index, refl, ap, ◌∙◌, subst, inl, inr, arith}
use Rattle.std.proofs.lemmas.Option.{slice_get_within}
use Rattle.std.specs.List.{slice_get}
use Rattle.jd_syntax.specs.JavaTrees.{JavaUnit}
use Rattle.jd_jclasses.specs.Classes.{IsAncestor}
use Rattle.jd_jclasses.specs.Members.{Declared, declared_members, is_method, is_static, is_variable, result_of}
use Rattle.jd_jclasses.specs.Numbers.{AreNumbers, SameReturn, SameSignature}
use Rattle.jd_jclasses.specs.Refusals.{BadOverrideAt, ClassesStand, HasOtherParameters, HidingAt, OtherMember, SameName}
use Rattle.jd_jclashes.specs.Firsts.{IsFoundFirst}
use Rattle.jd_jclashes.specs.Items.{AreVariants, DiffersAt}
use Rattle.jd_jclashes.proofs.ClassNumbers.{no_cycle}
use Rattle.jd_jclashes.proofs.Firsts.{found_too}
use Rattle.jd_jclashes.proofs.Lists.{same_at}

-- numbers that agree only for one name
pub variants_of : (Same : Declared → Declared → Type 0) (members : List Declared) (numbers : List ℕ) (count : ℕ) → ((a b : Declared) → Same a b → SameName a b) → AreNumbers Same members numbers count → AreVariants members numbers count
variants_of Same members numbers count law n = record { each = n.each; below = n.below; one_name = λ i j a b p q e. law a b ((n.same i j a b p q).0 e) }

-- a number of its own for each
pub own_variants : (members : List Declared) (numbers : List ℕ) (count : ℕ) → count ≡ length members → length numbers ≡ count → ((i : ℕ) → i < count → slice_index numbers i ≡ i) → AreVariants members numbers count
own_variants members numbers count all each own =
    record {
      each = each ∙ all;
      below = λ i lt. let inside : i < count = omega (arith, lt, all) in omega (arith, inside, own i inside);
      one_name = λ i j a b p q e.
          let one : i < count = omega (arith, slice_get_within members i a p, all) in
          let other : j < count = omega (arith, slice_get_within members j b q, all) in
          let same : i ≡ j = omega (arith, own i one, own j other, e) in
          ap (λ (d : Declared). d.name.name) (same_at members i j a b same p q);
    }

module _ (units : List JavaUnit) where
  -- ---- variables that hide

  module _ (stand : ClassesStand units) (numbers : List ℕ) (own : (i : ℕ) → i < length (declared_members units) → slice_index numbers i ≡ i) where
    hides : (i : ℕ) → DiffersAt units is_variable numbers i → HidingAt units i
    hides i d = record { place = d.place; other = d.other; one = d.one; other_there = d.other_there; there = d.there; holds = (d.above, d.other_compared, d.compared_, d.name) }

    hidden : (i : ℕ) → HidingAt units i → DiffersAt units is_variable numbers i
    hidden i h =
        record {
          place = h.place;
          other = h.other;
          one = h.one;
          other_there = h.other_there;
          there = h.there;
          above = h.holds.0;
          other_compared = h.holds.1;
          compared_ = h.holds.2;
          name = h.holds.3;
          differ = λ e.
              let one = own i (slice_get_within (declared_members units) i h.one h.there) in
              let other = own h.place (slice_get_within (declared_members units) h.place h.other h.other_there) in
              let same : h.place ≡ i = omega (arith, e, one, other) in
              let member : h.other ≡ h.one = same_at (declared_members units) h.place i h.other h.one same h.other_there h.there in
              no_cycle units stand i h.one h.there (subst (λ (d : Declared). IsAncestor units d.class h.one.class) member h.holds.0);
        }

    pub found_hiding : (first : Option ℕ) → IsFoundFirst (DiffersAt units is_variable numbers) first → IsFoundFirst (HidingAt units) first
    found_hiding = found_too (DiffersAt units is_variable numbers) (HidingAt units) hides hidden

  -- ---- methods

  module _ (numbers : List ℕ) (count : ℕ) (signed : AreNumbers SameSignature (declared_members units) numbers count) where
    has_other : (i : ℕ) → DiffersAt units is_method numbers i → OtherMember units i (HasOtherParameters units)
    has_other i d =
        record {
          place = d.place;
          other = d.other;
          one = d.one;
          other_there = d.other_there;
          there = d.there;
          holds = (d.above, (d.other_compared, d.compared_, d.name), λ e. d.differ ((signed.same d.place i d.other d.one d.other_there d.there).1 (d.name, e)));
        }

    other_has : (i : ℕ) → OtherMember units i (HasOtherParameters units) → DiffersAt units is_method numbers i
    other_has i h =
        record {
          place = h.place;
          other = h.other;
          one = h.one;
          other_there = h.other_there;
          there = h.there;
          above = h.holds.0;
          other_compared = h.holds.1.0;
          compared_ = h.holds.1.1;
          name = h.holds.1.2;
          differ = λ e. h.holds.2 ((signed.same h.place i h.other h.one h.other_there h.there).0 e).1;
        }

    pub found_other : (first : Option ℕ) → IsFoundFirst (DiffersAt units is_method numbers) first → IsFoundFirst (λ i. OtherMember units i (HasOtherParameters units)) first
    found_other = found_too (DiffersAt units is_method numbers) (λ i. OtherMember units i (HasOtherParameters units)) has_other other_has

  bools : (a b : Bool) → (a ≡ b) ⊎ (a ≢ b)
  bools true true = inl refl
  bools true false = inr (λ e. cc)
  bools false true = inr (λ e. cc)
  bools false false = inl refl

  module _ (numbers : List ℕ) (count : ℕ) (given : AreNumbers SameReturn (declared_members units) numbers count) where
    one_differs : (i j : ℕ) (a b : Declared) → slice_get (declared_members units) i ≡ Some a → slice_get (declared_members units) j ≡ Some b → SameName a b → slice_index numbers i ≢ slice_index numbers j
        → (result_of a.kind ≢ result_of b.kind) ⊎ (is_static a.kind ≢ is_static b.kind)
    one_differs i j a b p q name ne =
        elim (bools (is_static a.kind) (is_static b.kind)) [
          | inl same ↦ inl (λ e. ne ((given.same i j a b p q).1 (name, e, same)))
          | inr other ↦ inr other
        ]

    is_bad : (i : ℕ) → DiffersAt units is_method numbers i → BadOverrideAt units i
    is_bad i d =
        record {
          place = d.place;
          other = d.other;
          one = d.one;
          other_there = d.other_there;
          there = d.there;
          holds = (d.above, (d.other_compared, d.compared_, d.name), one_differs d.place i d.other d.one d.other_there d.there d.name d.differ);
        }

    bad_differs : (i : ℕ) → BadOverrideAt units i → DiffersAt units is_method numbers i
    bad_differs i h =
        record {
          place = h.place;
          other = h.other;
          one = h.one;
          other_there = h.other_there;
          there = h.there;
          above = h.holds.0;
          other_compared = h.holds.1.0;
          compared_ = h.holds.1.1;
          name = h.holds.1.2;
          differ = λ e.
              let same = (given.same h.place i h.other h.one h.other_there h.there).0 e in
              elim h.holds.2 [ inl result ↦ result same.1 | inr static ↦ static same.2 ];
        }

    pub found_bad : (first : Option ℕ) → IsFoundFirst (DiffersAt units is_method numbers) first → IsFoundFirst (BadOverrideAt units) first
    found_bad = found_too (DiffersAt units is_method numbers) (BadOverrideAt units) is_bad bad_differs

-- The fields of a class and those of its ancestors, in order.
use Rattle.std.proofs.Common.{◌≡◌, ◌⊎◌, ℕ, zero, suc, ◌+◌, ◌<◌, Bool, true, false, cond, List, [], ◌∷◌, ◌++◌, None, Some, refl, sym, ap, ◌∙◌, subst, inl, inr, arith}
use Rattle.std.specs.Prelude.{nat_eq}
use Rattle.std.specs.List.{Contains, slice_get}
use Rattle.std.proofs.lemmas.Bool.Decides.{nat_tests}
use Rattle.std.proofs.lemmas.List.Elements.{Contains-append_cases, Contains-append_left, Contains-append_right}
use Rattle.std.proofs.lemmas.Option.{get_or_from_slice_get, none-some, same_Some, slice_get_within}
use Rattle.jd_ancestry.specs.Ancestors.{Above}
use Rattle.jd_ancestry.specs.Ancestors.Above.{above_child, above_parent}
use Rattle.jd_syntax.specs.JavaTrees.{JavaUnit}
use Rattle.jd_jclasses.specs.Classes.{IsSubclass, parents}
use Rattle.jd_jclasses.specs.Members.{Declared}
use Rattle.jd_jclasses.specs.Methods.{HasField, fields}
use Rattle.jd_jinfos.specs.Infos.{is_of, places_from}
use Rattle.jd_classes.specs.Fields.{AreFieldsOf, ComesBefore, FieldAt, IsLineage, along}
use Rattle.jd_classes.specs.Fields.ComesBefore.{of_an_ancestor, of_one_class}
use Rattle.jd_classes.specs.Fields.IsLineage.{extends, topmost}

-- ---- lists in which what comes first is related to what comes later

abbrev Ordered : {X : Type 0} → (X → X → Type 0) → List X → Type 0
Ordered {X} R xs = (i j : ℕ) (x y : X) → i < j → slice_get xs i ≡ Some x → slice_get xs j ≡ Some y → R x y

contains_at : {X : Type 0} (xs : List X) (i : ℕ) (x : X) → slice_get xs i ≡ Some x → Contains xs x
contains_at xs i x h = (i, slice_get_within xs i x h, get_or_from_slice_get xs i x x h)

found : {X : Type 0} (xs : List X) (x : X) (c : Contains xs x) → slice_get xs c.0 ≡ Some x
found [] x c = absurd (omega (arith, c.1))
found (y ∷ xs) x (zero, lt, e) = ap Some e
found (y ∷ xs) x (suc k, lt, e) = found xs x (k, omega (arith, lt), e)

first_or_later : {X : Type 0} (x y : X) (xs : List X) → Contains (x ∷ xs) y → (x ≡ y) ⊎ Contains xs y
first_or_later x y xs (zero, lt, e) = inl e
first_or_later x y xs (suc k, lt, e) = inr (k, omega (arith, lt), e)

later : {X : Type 0} (x y : X) (xs : List X) → Contains xs y → Contains (x ∷ xs) y
later x y xs c = (suc c.0, omega (arith, c.1), c.2)

none_in : {X : Type 0} (x : X) → Contains [] x → ⊥
none_in x c = absurd (omega (arith, c.1))

module _ {X : Type 0} (R : X → X → Type 0) where
  ordered_none : Ordered R []
  ordered_none i j x y lt at there = absurd (none-some x at)

  ordered_more : (x : X) (xs : List X) → ((y : X) → Contains xs y → R x y) → Ordered R xs → Ordered R (x ∷ xs)
  ordered_more x xs before rest zero zero a b lt at there = absurd (omega (arith, lt))
  ordered_more x xs before rest zero (suc j) a b lt at there = subst (λ c. R c b) (same_Some x a at) (before b (contains_at xs j b there))
  ordered_more x xs before rest (suc i) zero a b lt at there = absurd (omega (arith, lt))
  ordered_more x xs before rest (suc i) (suc j) a b lt at there = rest i j a b (omega (arith, lt)) at there

  ordered_tail : (x : X) (xs : List X) → Ordered R (x ∷ xs) → Ordered R xs
  ordered_tail x xs all i j a b lt at there = all (suc i) (suc j) a b (omega (arith, lt)) at there

  ordered_both : (xs ys : List X) → ((x y : X) → Contains xs x → Contains ys y → R x y) → Ordered R xs → Ordered R ys → Ordered R (xs ++ ys)
  ordered_both [] ys before first second = second
  ordered_both (x ∷ xs) ys before first second =
      ordered_more x (xs ++ ys)
      (λ y c. elim (Contains-append_cases xs ys y c) [
        | inl here ↦ in_first y here
        | inr behind ↦ before x y (0, omega arith, refl) behind
      ])
      (ordered_both xs ys (λ a b c d. before a b (later x a xs c) d) (ordered_tail x xs first) second)
    where
      in_first : (y : X) → Contains xs y → R x y
      in_first y c = first 0 (suc c.0) x y (omega arith) refl (found xs y c)

  ordered_weaker : (Q : X → X → Type 0) (xs : List X) → ((x y : X) → Contains xs x → Contains xs y → R x y → Q x y) → Ordered R xs → Ordered Q xs
  ordered_weaker Q xs weaker all i j x y lt at there = weaker x y (contains_at xs i x at) (contains_at xs j y there) (all i j x y lt at there)

-- ---- the places of those that pass a test

record PlaceOf (n : ℕ) (test : Declared → Bool) (ms : List Declared) (f : ℕ) : Type 0 where
  k : ℕ
  is : f ≡ n + k
  member : Declared
  there : slice_get ms k ≡ Some member
  passes : test member ≡ true

module _ (test : Declared → Bool) where
  one_further : (n : ℕ) (m : Declared) (ms : List Declared) (f : ℕ) → PlaceOf (n + 1) test ms f → PlaceOf n test (m ∷ ms) f
  one_further n m ms f p = record { k = suc p.k; is = omega (arith, p.is); member = p.member; there = p.there; passes = p.passes }

  place_forth : (n : ℕ) (ms : List Declared) (f : ℕ) → Contains (places_from n test ms) f → PlaceOf n test ms f
  place_forth n [] f c = absurd (none_in f c)
  place_forth n (m ∷ ms) f c = by (test m) refl (place_forth (n + 1) ms f) c
    where
      by : (b : Bool) → test m ≡ b → (Contains (places_from (n + 1) test ms) f → PlaceOf (n + 1) test ms f) → Contains (cond b (n ∷ places_from (n + 1) test ms) (places_from (n + 1) test ms)) f → PlaceOf n test (m ∷ ms) f
      by true is rest h = elim (first_or_later n f (places_from (n + 1) test ms) h) [
        | inl here ↦ record { k = 0; is = omega (arith, here); member = m; there = refl; passes = is }
        | inr behind ↦ one_further n m ms f (rest behind)
      ]
      by false is rest h = one_further n m ms f (rest h)

  place_back : (n k : ℕ) (ms : List Declared) (m : Declared) → slice_get ms k ≡ Some m → test m ≡ true → Contains (places_from n test ms) (n + k)
  place_back n k [] m there passes = absurd (none-some m there)
  place_back n zero (d ∷ ms) m there passes = by (test d) (ap test (same_Some d m there) ∙ passes)
    where
      by : (b : Bool) → b ≡ true → Contains (cond b (n ∷ places_from (n + 1) test ms) (places_from (n + 1) test ms)) (n + 0)
      by true e = (0, omega arith, omega arith)
      by false e = absurd cc
  place_back n (suc k) (d ∷ ms) m there passes =
      let same : n + 1 + k ≡ n + suc k = omega arith in
      by (test d) (subst (Contains (places_from (n + 1) test ms)) same (place_back (n + 1) k ms m there passes))
    where
      by : (b : Bool) → Contains (places_from (n + 1) test ms) (n + suc k) → Contains (cond b (n ∷ places_from (n + 1) test ms) (places_from (n + 1) test ms)) (n + suc k)
      by true c = later n (n + suc k) (places_from (n + 1) test ms) c
      by false c = c

  places_rise : (n : ℕ) (ms : List Declared) → Ordered (λ (f : ℕ) g. f < g) (places_from n test ms)
  places_rise n [] = ordered_none (λ (f : ℕ) g. f < g)
  places_rise n (m ∷ ms) = by (test m) (places_rise (n + 1) ms)
    where
      by : (b : Bool) → Ordered (λ (f : ℕ) g. f < g) (places_from (n + 1) test ms) → Ordered (λ (f : ℕ) g. f < g) (cond b (n ∷ places_from (n + 1) test ms) (places_from (n + 1) test ms))
      by true rest = ordered_more (λ (f : ℕ) g. f < g) n (places_from (n + 1) test ms) (λ f c. let p = place_forth (n + 1) ms f c in omega (arith, p.is)) rest
      by false rest = rest

same_number : (a b : ℕ) → nat_eq a b ≡ true → a ≡ b
same_number a b e = grind (arith, nat_tests)

number_same : (a b : ℕ) → a ≡ b → nat_eq a b ≡ true
number_same a b e = grind (arith, nat_tests)

-- ---- a class's own fields

module _ (units : List JavaUnit) where
  abbrev own : ℕ → List ℕ
  own class = places_from 0 (is_of class) (fields units)

  own_forth : (class f : ℕ) → Contains (own class) f → FieldAt units f (λ d. class ≡ d.class)
  own_forth class f c =
      let p = place_forth (is_of class) 0 (fields units) f c in
      let same : p.k ≡ f = omega (arith, p.is) in
      record { field = p.member; there = subst (λ (n : ℕ). slice_get (fields units) n ≡ Some p.member) same p.there; holds = same_number class p.member.class p.passes }

  own_back : (class f : ℕ) → FieldAt units f (λ d. class ≡ d.class) → Contains (own class) f
  own_back class f a =
      let same : 0 + f ≡ f = omega arith in
      subst (Contains (own class)) same (place_back (is_of class) 0 f (fields units) a.field a.there (number_same class a.field.class a.holds))

  own_ordered : (class : ℕ) → Ordered (ComesBefore units) (own class)
  own_ordered class =
      ordered_weaker (λ (f : ℕ) g. f < g) (ComesBefore units) (own class)
      (λ f g c d lt.
      let a = own_forth class f c in
      let b = own_forth class g d in
      of_one_class a.field b.field a.there b.there (sym a.holds ∙ b.holds) lt)
      (places_rise (is_of class) 0 (fields units))

  -- ---- those of a class and its ancestors

  weaker_field : (f : ℕ) (P Q : Declared → Type 0) → ((d : Declared) → P d → Q d) → FieldAt units f P → FieldAt units f Q
  weaker_field f P Q weaker a = record { field = a.field; there = a.there; holds = weaker a.field a.holds }

  none_above : (a b : ℕ) → slice_get (parents units) a ≡ Some None → Above (parents units) b a → ⊥
  none_above a b top (above_child _ _ h) = none-some b (same_Some None (Some b) (sym top ∙ h))
  none_above a b top (above_parent _ c _ h rest) = none-some c (same_Some None (Some c) (sym top ∙ h))

  module _ (a b : ℕ) (h : slice_get (parents units) b ≡ Some (Some a)) where
    one_below : (c : ℕ) → IsSubclass units a c → Above (parents units) c b
    one_below c (inl same) = subst (λ (n : ℕ). Above (parents units) n b) same (above_child a b h)
    one_below c (inr above) = above_parent c a b h above

    one_higher : (c : ℕ) → Above (parents units) c b → IsSubclass units a c
    one_higher c (above_child _ _ e) = inl (same_Some a c (same_Some (Some a) (Some c) (sym h ∙ e)))
    one_higher c (above_parent _ d _ e rest) = inr (subst (λ (n : ℕ). Above (parents units) c n) (same_Some d a (same_Some (Some d) (Some a) (sym e ∙ h))) rest)

    inherited : (fs : List ℕ) → AreFieldsOf units a fs → AreFieldsOf units b (fs ++ own b)
    inherited fs are =
        record {
          each = λ f. (forth f, back f);
          in_order = ordered_both (ComesBefore units) fs (own b) before are.in_order (own_ordered b);
        }
      where
        forth : (f : ℕ) → Contains (fs ++ own b) f → FieldAt units f (HasField units b)
        forth f c = elim (Contains-append_cases fs (own b) f c) [
          | inl above ↦ weaker_field f (HasField units a) (HasField units b) (λ d of. inr (one_below d.class of)) ((are.each f).0 above)
          | inr here ↦ weaker_field f (λ d. b ≡ d.class) (HasField units b) (λ d same. inl same) (own_forth b f here)
        ]

        by : (f : ℕ) (d : Declared) → slice_get (fields units) f ≡ Some d → HasField units b d → Contains (fs ++ own b) f
        by f d there (inl same) = Contains-append_right fs (own b) f (own_back b f (record { field = d; there = there; holds = same }))
        by f d there (inr above) = Contains-append_left fs (own b) f ((are.each f).1 (record { field = d; there = there; holds = one_higher d.class above }))

        back : (f : ℕ) → FieldAt units f (HasField units b) → Contains (fs ++ own b) f
        back f h = by f h.field h.there h.holds

        before : (f g : ℕ) → Contains fs f → Contains (own b) g → ComesBefore units f g
        before f g c d =
            let of = (are.each f).0 c in
            let its = own_forth b g d in
            of_an_ancestor of.field its.field of.there its.there (subst (λ (n : ℕ). Above (parents units) of.field.class n) its.holds (one_below of.field.class of.holds))

  of_topmost : (a : ℕ) → slice_get (parents units) a ≡ Some None → AreFieldsOf units a (own a)
  of_topmost a top =
      record {
        each = λ f. (
          (λ c. weaker_field f (λ d. a ≡ d.class) (HasField units a) (λ d same. inl same) (own_forth a f c)),
          (λ h. own_back a f (weaker_field f (HasField units a) (λ d. a ≡ d.class) its_own h)),
        );
        in_order = own_ordered a;
      }
    where
      its_own : (d : Declared) → HasField units a d → a ≡ d.class
      its_own d (inl same) = same
      its_own d (inr above) = absurd (none_above a d.class top above)

  pub are_fields : (class : ℕ) (classes : List ℕ) → IsLineage (parents units) class classes → AreFieldsOf units class (along own classes)
  are_fields class classes (topmost a top) = of_topmost a top
  are_fields class classes (extends a b above h rest) = inherited a b h (along own above) (are_fields a above rest)

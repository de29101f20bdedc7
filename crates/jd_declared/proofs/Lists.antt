-- What lists have, by recursion, and the first of a name.
use Rattle.std.proofs.Common.{◌≡◌, ◌⊎◌, ℕ, zero, suc, ◌+◌, ◌<◌, Bool, true, false, cond, if◌then◌else◌, List, [], ◌∷◌, ◌++◌, map, filter, Option, Some, None, option_map, refl, sym, ap, subst, ◌∙◌, inl, inr, arith, bytes_eq, slice_get}
use Rattle.std.specs.List.{cons_option, filter_map, position_from}
use Rattle.std.proofs.lemmas.Option.{same_Some, none-some}
use Rattle.std.proofs.lemmas.Slice.Eq.{bytes_eq-Decides}
use Rattle.jd_declared.specs.Named.{first_named}

abbrev pub In : {X : Type 0} → X → List X → Type 0
In x [] = ⊥
In x (y ∷ ys) = (x ≡ y) ⊎ In x ys

pub in_left : {X : Type 0} (x : X) (xs ys : List X) → In x xs → In x (xs ++ ys)
in_left x [] ys h = absurd h
in_left x (z ∷ xs) ys (inl same) = inl same
in_left x (z ∷ xs) ys (inr behind) = inr (in_left x xs ys behind)

pub in_right : {X : Type 0} (x : X) (xs ys : List X) → In x ys → In x (xs ++ ys)
in_right x [] ys h = h
in_right x (z ∷ xs) ys h = inr (in_right x xs ys h)

pub in_either : {X : Type 0} (x : X) (xs ys : List X) → In x (xs ++ ys) → In x xs ⊎ In x ys
in_either x [] ys h = inr h
in_either x (z ∷ xs) ys (inl same) = inl (inl same)
in_either x (z ∷ xs) ys (inr behind) = by (in_either x xs ys behind)
  where
    by : In x xs ⊎ In x ys → In x (z ∷ xs) ⊎ In x ys
    by (inl first) = inl (inr first)
    by (inr second) = inr second

-- what a list's element stands for
pub record Made {X Y : Type 0} (g : X → Option Y) (xs : List X) (y : Y) : Type 0 where
  pub from : X
  pub in_ : In from xs
  pub gives : g from ≡ Some y

pub in_filter_map : {X Y : Type 0} (g : X → Option Y) (xs : List X) (y : Y) → In y (filter_map g xs) → Made g xs y
in_filter_map g [] y h = absurd h
in_filter_map g (x ∷ xs) y h = by (g x) refl h (in_filter_map g xs y)
  where
    later : Made g xs y → Made g (x ∷ xs) y
    later m = record { from = m.from; in_ = inr m.in_; gives = m.gives }

    by : (o : Option _) → g x ≡ o → In y (cons_option o (filter_map g xs)) → (In y (filter_map g xs) → Made g xs y) → Made g (x ∷ xs) y
    by None is h rest = later (rest h)
    by (Some z) is (inl same) rest = record { from = x; in_ = inl refl; gives = is ∙ ap Some (sym same) }
    by (Some z) is (inr behind) rest = later (rest behind)

pub made_in : {X Y : Type 0} (g : X → Option Y) (xs : List X) (x : X) (y : Y) → In x xs → g x ≡ Some y → In y (filter_map g xs)
made_in g [] x y h is = absurd h
made_in g (z ∷ xs) x y (inl same) is = subst (λ o. In y (cons_option o (filter_map g xs))) (sym (ap g (sym same) ∙ is)) (inl refl)
made_in g (z ∷ xs) x y (inr behind) is = by (g z) (made_in g xs x y behind is)
  where
    by : (o : Option _) → In y (filter_map g xs) → In y (cons_option o (filter_map g xs))
    by None h = h
    by (Some w) h = inr h

pub in_map : {X Y : Type 0} (g : X → Y) (xs : List X) (y : Y) → In y (map g xs) → (x : X) × In x xs × (g x ≡ y)
in_map g [] y h = absurd h
in_map g (x ∷ xs) y (inl same) = (x, inl refl, sym same)
in_map g (x ∷ xs) y (inr behind) = let m = in_map g xs y behind in (m.0, inr m.1, m.2)

pub in_mapped : {X Y : Type 0} (g : X → Y) (xs : List X) (x : X) → In x xs → In (g x) (map g xs)
in_mapped g [] x h = absurd h
in_mapped g (z ∷ xs) x (inl same) = inl (ap g same)
in_mapped g (z ∷ xs) x (inr behind) = inr (in_mapped g xs x behind)

pub in_filter : {X : Type 0} (p : X → Bool) (xs : List X) (x : X) → In x (filter p xs) → In x xs × (p x ≡ true)
in_filter p [] x h = absurd h
in_filter p (z ∷ xs) x h = by (p z) refl h (in_filter p xs x)
  where
    by : (b : Bool) → p z ≡ b → In x (cond b (z ∷ filter p xs) (filter p xs)) → (In x (filter p xs) → In x xs × (p x ≡ true)) → In x (z ∷ xs) × (p x ≡ true)
    by true is (inl same) rest = (inl same, ap p same ∙ is)
    by true is (inr behind) rest = let r = rest behind in (inr r.0, r.1)
    by false is h rest = let r = rest h in (inr r.0, r.1)

pub filtered_in : {X : Type 0} (p : X → Bool) (xs : List X) (x : X) → In x xs → p x ≡ true → In x (filter p xs)
filtered_in p [] x h is = absurd h
filtered_in p (z ∷ xs) x (inl same) is = by (p z) (ap p (sym same) ∙ is)
  where
    by : (b : Bool) → b ≡ true → In x (cond b (z ∷ filter p xs) (filter p xs))
    by true e = inl same
    by false e = absurd cc
filtered_in p (z ∷ xs) x (inr behind) is = by (p z) (filtered_in p xs x behind is)
  where
    by : (b : Bool) → In x (filter p xs) → In x (cond b (z ∷ filter p xs) (filter p xs))
    by true h = inr h
    by false h = h

pub place_of : {X : Type 0} (xs : List X) (x : X) → In x xs → (i : ℕ) × (slice_get xs i ≡ Some x)
place_of [] x h = absurd h
place_of (z ∷ xs) x (inl same) = (0, ap Some (sym same))
place_of (z ∷ xs) x (inr behind) = let p = place_of xs x behind in (suc p.0, p.1)

pub at_place : {X : Type 0} (xs : List X) (i : ℕ) (x : X) → slice_get xs i ≡ Some x → In x xs
at_place [] i x e = absurd (none-some x e)
at_place (z ∷ xs) zero x e = inl (sym (same_Some z x e))
at_place (z ∷ xs) (suc i) x e = inr (at_place xs i x e)

-- ---- the first of a name

pub record IsPair {V : Type 0} (ps : List (List ℕ × V)) (q : List ℕ) (v : V) : Type 0 where
  pub pair : List ℕ × V
  pub in_ : In pair ps
  pub name : pair.0 ≡ q
  pub value : pair.1 ≡ v

pub first_in : {V : Type 0} (ps : List (List ℕ × V)) (q : List ℕ) (v : V) → first_named ps q ≡ Some v → IsPair ps q v
first_in [] q v e = absurd (none-some v e)
first_in (p ∷ ps) q v e = by (bytes_eq p.0 q) refl e (first_in ps q v)
  where
    by : (b : Bool) → bytes_eq p.0 q ≡ b → (if b then Some p.1 else first_named ps q) ≡ Some v → (first_named ps q ≡ Some v → IsPair ps q v) → IsPair (p ∷ ps) q v
    by true is h rest = record { pair = p; in_ = inl refl; name = (bytes_eq-Decides p.0 q).0 is; value = same_Some p.1 v h }
    by false is h rest = let r = rest h in record { pair = r.pair; in_ = inr r.in_; name = r.name; value = r.value }

pub none_in : {V : Type 0} (ps : List (List ℕ × V)) (q : List ℕ) (p : List ℕ × V) → first_named ps q ≡ None → In p ps → p.0 ≡ q → ⊥
none_in [] q p e h same = absurd h
none_in (z ∷ ps) q p e h same = by (bytes_eq z.0 q) refl e h (none_in ps q p)
  where
    by : (b : Bool) → bytes_eq z.0 q ≡ b → (if b then Some z.1 else first_named ps q) ≡ None → In p (z ∷ ps) → (first_named ps q ≡ None → In p ps → p.0 ≡ q → ⊥) → ⊥
    by true is h at rest = none-some z.1 (sym h)
    by false is h (inl here) rest = absurd (refuted is ((bytes_eq-Decides z.0 q).1 (ap (λ (x : List ℕ × _). x.0) (sym here) ∙ same)))
      where
        refuted : {b : Bool} → b ≡ false → b ≡ true → ⊥
        refuted not_so so = cc
    by false is h (inr behind) rest = rest h behind same

-- ---- the first that passes a test

pub record PlaceOf {X : Type 0} (t : X → Bool) (n : ℕ) (xs : List X) (i : ℕ) : Type 0 where
  pub k : ℕ
  pub is : i ≡ n + k
  pub one : X
  pub there : slice_get xs k ≡ Some one
  pub passes : t one ≡ true

pub further : {X : Type 0} (t : X → Bool) (n : ℕ) (x : X) (xs : List X) (i : ℕ) → PlaceOf t (n + 1) xs i → PlaceOf t n (x ∷ xs) i
further t n x xs i p = record { k = suc p.k; is = omega (arith, p.is); one = p.one; there = p.there; passes = p.passes }

pub first_place : {X : Type 0} (t : X → Bool) (n : ℕ) (xs : List X) (i : ℕ) → position_from t n xs ≡ Some i → PlaceOf t n xs i
first_place t n [] i e = absurd (none-some i e)
first_place t n (x ∷ xs) i e = by (t x) refl e (first_place t (n + 1) xs i)
  where
    by : (b : Bool) → t x ≡ b → cond b (Some n) (position_from t (n + 1) xs) ≡ Some i → (position_from t (n + 1) xs ≡ Some i → PlaceOf t (n + 1) xs i) → PlaceOf t n (x ∷ xs) i
    by true is h rest = let same = same_Some n i h in record { k = 0; is = omega (arith, same); one = x; there = refl; passes = is }
    by false is h rest = further t n x xs i (rest h)

pub no_place : {X : Type 0} (t : X → Bool) (n : ℕ) (xs : List X) (x : X) → position_from t n xs ≡ None → In x xs → t x ≡ true → ⊥
no_place t n [] x e h passes = absurd h
no_place t n (z ∷ xs) x e h passes = by (t z) refl e h (no_place t (n + 1) xs x)
  where
    by : (b : Bool) → t z ≡ b → cond b (Some n) (position_from t (n + 1) xs) ≡ None → In x (z ∷ xs) → (position_from t (n + 1) xs ≡ None → In x xs → t x ≡ true → ⊥) → ⊥
    by true is h at rest = none-some n (sym h)
    by false is h (inl here) rest = let same : t x ≡ false = ap t here ∙ is in cc
    by false is h (inr behind) rest = rest h behind passes

-- The names of classes differ, and each is found at its number.
use Rattle.std.proofs.Common.{◌≡◌, ◌⊎◌, ℕ, zero, suc, ◌+◌, ◌<◌, Bool, true, false, not, ◌&&◌, List, [], ◌∷◌, ◌++◌, length, map, take, Option, None, Some, option_map, refl, sym, ap, ◌∙◌, subst, inl, inr, true≢false, arith}
use Rattle.std.specs.List.{Contains, enumerate_from, list_any, slice_get}
use Rattle.std.specs.Str.{bytes_eq}
use Rattle.std.proofs.lemmas.Bool.{and_parts, cases_Bool, cases_order, or_parts}
use Rattle.std.proofs.lemmas.List.{length-map}
use Rattle.std.proofs.lemmas.Option.{get_or_from_slice_get, none-some, same_Some, slice_get-map, slice_get_within}
use Rattle.jd_syntax.specs.JavaTrees.{JavaUnit}
use Rattle.jd_jclasses.specs.Classes.{DeclaredClass, class_named, class_names, declared_classes, prelude, prelude_count}
use Rattle.jd_jclasses.specs.Refusals.{AreClasses}
use Rattle.jd_jinfos.specs.Infos.{class_infos, declared_info}
use Rattle.jd_tforms.specs.Naming.{number_where}
use Rattle.jd_tforms.proofs.Somes.{bytes_same, same_bytes}
use Rattle.jd_names.specs.Tables.{class_name}
use Rattle.jd_names.proofs.Firsts.{first_place, found_first, is_first}

-- ---- the names that the tables list

names_from : (units : List JavaUnit) (n : ℕ) (ds : List DeclaredClass) → map class_name (map (declared_info units) (enumerate_from n ds)) ≡ map (λ d. d.tree.name.name) ds
names_from units n [] = refl
names_from units n (d ∷ ds) = ap (λ l. d.tree.name.name ∷ l) (names_from units (n + 1) ds)

pub listed_names : (units : List JavaUnit) → map class_name (class_infos units) ≡ class_names units
listed_names units = ap (λ (l : List (List ℕ)). map (λ p. p.0) prelude ++ l) (names_from units prelude_count (declared_classes units))

pub as_many_names : (units : List JavaUnit) → length (class_infos units) ≡ length (class_names units)
as_many_names units = sym (length-map (class_infos units) class_name) ∙ ap length (listed_names units)

-- ---- parts of lists

pub at_either : {X : Type 0} (xs ys : List X) (b : ℕ) (u : X) → slice_get (xs ++ ys) b ≡ Some u → (slice_get xs b ≡ Some u) ⊎ ((i : ℕ) × (b ≡ length xs + i) × (slice_get ys i ≡ Some u))
at_either [] ys b u h = inr (b, omega arith, h)
at_either (x ∷ xs) ys zero u h = inl h
at_either (x ∷ xs) ys (suc b) u h = elim (at_either xs ys b u h) [
  | inl here ↦ inl here
  | inr behind ↦ let at = behind.1 in inr (behind.0, omega (arith, at), behind.2)
]

taken_at : {X : Type 0} (n : ℕ) (xs : List X) (a : ℕ) (u : X) → a < n → slice_get xs a ≡ Some u → slice_get (take n xs) a ≡ Some u
taken_at zero xs a u lt h = absurd (omega (arith, lt))
taken_at (suc n) [] a u lt h = absurd (none-some u h)
taken_at (suc n) (x ∷ xs) zero u lt h = h
taken_at (suc n) (x ∷ xs) (suc a) u lt h = taken_at n xs a u (omega (arith, lt)) h

contains_at : {X : Type 0} (xs : List X) (i : ℕ) (x : X) → slice_get xs i ≡ Some x → Contains xs x
contains_at xs i x h = (i, slice_get_within xs i x h, get_or_from_slice_get xs i x x h)

pub unmapped : {A B : Type 0} (f : A → B) (o : Option A) (b : B) → option_map f o ≡ Some b → (a : A) × (o ≡ Some a) × (f a ≡ b)
unmapped f None b e = absurd (none-some b e)
unmapped f (Some a) b e = (a, refl, same_Some (f a) b e)

-- ---- the classes that are always there have names of their own

abbrev all_new : List (List ℕ) → Bool
all_new [] = true
all_new (x ∷ xs) = not (list_any (bytes_eq x) xs) && all_new xs

not_false : (t : Bool) → not t ≡ true → t ≡ false
not_false true h = sym h
not_false false h = refl

none_equal : (x : List ℕ) (xs : List (List ℕ)) → list_any (bytes_eq x) xs ≡ false → (b : ℕ) → slice_get xs b ≡ Some x → ⊥
none_equal x [] none b h = none-some x h
none_equal x (y ∷ ys) none zero h = true≢false (sym (ap (bytes_eq x) (same_Some y x h) ∙ bytes_same x) ∙ (or_parts (bytes_eq x y) (list_any (bytes_eq x) ys) none).0)
none_equal x (y ∷ ys) none (suc c) h = none_equal x ys (or_parts (bytes_eq x y) (list_any (bytes_eq x) ys) none).1 c h

new_apart : (xs : List (List ℕ)) → all_new xs ≡ true → (a b : ℕ) (u : List ℕ) → a < b → slice_get xs a ≡ Some u → slice_get xs b ≡ Some u → ⊥
new_apart [] new a b u lt at there = none-some u at
new_apart (x ∷ xs) new a zero u lt at there = absurd (omega (arith, lt))
new_apart (x ∷ xs) new zero (suc b) u lt at there =
    none_equal x xs (not_false (list_any (bytes_eq x) xs) (and_parts (not (list_any (bytes_eq x) xs)) (all_new xs) new).0) b (there ∙ sym at)
new_apart (x ∷ xs) new (suc a) (suc b) u lt at there = new_apart xs (and_parts (not (list_any (bytes_eq x) xs)) (all_new xs) new).1 a b u (omega (arith, lt)) at there

prelude_new : all_new (map (λ p. p.0) prelude) ≡ true
prelude_new = refl

-- ---- all classes

module _ (units : List JavaUnit) (are : AreClasses units) where
  names_apart : (a b : ℕ) (u : List ℕ) → a < b → slice_get (class_names units) a ≡ Some u → slice_get (class_names units) b ≡ Some u → ⊥
  names_apart a b u lt at there =
      let front = map (λ p. p.0) prelude in
      let behind = map (λ d. d.tree.name.name) (declared_classes units) in
      elim (at_either front behind b u there) [
        | inl here ↦
            elim (at_either front behind a u at) [
              | inl same ↦ new_apart front prelude_new a b u lt same here
              | inr past ↦ let far = past.1 in let near = slice_get_within front b u here in absurd (omega (arith, far, near, lt))
            ]
        | inr later ↦
            let d = unmapped (λ (d : DeclaredClass). d.tree.name.name) (slice_get (declared_classes units) later.0) u (sym (slice_get-map (λ (d : DeclaredClass). d.tree.name.name) (declared_classes units) later.0) ∙ later.2) in
            let place : b ≡ prelude_count + later.0 = later.1 in
            are.classes.names later.0 (record {
              class = d.0;
              there = d.1;
              holds = subst (Contains (take (prelude_count + later.0) (class_names units))) (sym d.2) (contains_at (take (prelude_count + later.0) (class_names units)) a u (taken_at (prelude_count + later.0) (class_names units) a u (omega (arith, lt, place)) at));
            })
      ]

  pub one_name : (a b : ℕ) (u : List ℕ) → slice_get (class_names units) a ≡ Some u → slice_get (class_names units) b ≡ Some u → a ≡ b
  one_name a b u at there = elim (cases_order a b) [
    | inl same ↦ same
    | inr other ↦ elim other [
      | inl before ↦ absurd (names_apart a b u before at there)
      | inr behind ↦ absurd (names_apart b a u behind there at)
    ]
  ]

  -- the class of a name is the one that has it
  pub named_at : (c : ℕ) (u : List ℕ) → slice_get (class_names units) c ≡ Some u → number_where (λ n. bytes_eq n u) (class_names units) ≡ Some c
  named_at c u there =
      is_first (λ n. bytes_eq n u) (class_names units) c u there (bytes_same u) (λ i n lt at.
      elim (cases_Bool (bytes_eq n u)) [
        | inl same ↦ absurd (names_apart i c u lt (at ∙ ap Some (same_bytes n u same)) there)
        | inr other ↦ other
      ])

pub named_is : (units : List JavaUnit) (w : List ℕ) → class_named units w ≡ number_where (λ n. bytes_eq n w) (class_names units)
named_is units w = first_place (λ n. bytes_eq n w) (class_names units)

-- a name that is found stands there
pub found_name : (units : List JavaUnit) (w : List ℕ) (c : ℕ) → number_where (λ n. bytes_eq n w) (class_names units) ≡ Some c → slice_get (class_names units) c ≡ Some w
found_name units w c e =
    let f = found_first (λ n. bytes_eq n w) (class_names units) c e in
    f.there ∙ ap Some (same_bytes f.one w f.passes)

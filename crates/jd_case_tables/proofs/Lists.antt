-- Lists that grow by what each of others stands for.
use Rattle.std.proofs.Common.{◌≡◌, ◌<◌, ◌≤◌, ◌+◌, ℕ, zero, suc, List, [], ◌∷◌, ◌++◌, length, map, flat_map, drop, get_or, Result, Ok, IfOk, refl, sym, ap, subst, ◌∙◌, arith}
use Rattle.std.specs.List.{range_with_len}
use Rattle.std.proofs.lemmas.Grind.{flat_map-append}
use Rattle.std.proofs.lemmas.List.{append-nil, drop_more}

-- what holds of what was made where it is there
pub made : {A E : Type 0} (P : A → Type 0) (r : Result A E) (a : A) → r ≡ Ok a → IfOk r P → P a
made P r a is h = subst (λ i. IfOk i P) is h

pub none_left : {X : Type 0} (xs : List X) (i : ℕ) → length xs ≤ i → drop i xs ≡ []
none_left [] zero past = refl
none_left [] (suc i) past = refl
none_left (x ∷ xs) zero past = absurd (omega (arith, past))
none_left (x ∷ xs) (suc i) past = none_left xs i (omega (arith, past))

-- what holds of one of a list's parts holds of the whole
module _ {X Y C : Type 0} (L : List Y → Type 0) (first : (xs ys : List Y) → L xs → L (xs ++ ys)) (last : (xs ys : List Y) → L ys → L (xs ++ ys)) (g : X → List Y) (view : C → X) where
  pub at_place : (cs : List C) (i : ℕ) (c : C) → i < length cs → c ≡ get_or cs i c → L (g (view c)) → L (flat_map g (map view cs))
  at_place [] i c lt is h = absurd (omega (arith, lt))
  at_place (d ∷ cs) zero c lt is h = first (g (view d)) (flat_map g (map view cs)) (subst (λ e. L (g (view e))) is h)
  at_place (d ∷ cs) (suc i) c lt is h = last (g (view d)) (flat_map g (map view cs)) (at_place cs i c (omega (arith, lt)) is h)

-- the item at a place and those behind it
pub opened : {C : Type 0} (cs : List C) (i : ℕ) (c : C) → i < length cs → c ≡ get_or cs i c → drop i cs ≡ c ∷ drop (i + 1) cs
opened cs i c lt is = drop_more cs i c lt ∙ ap (λ d. d ∷ drop (i + 1) cs) (sym is)

-- an item that is there is the same whatever stands for one that is not
pub same_item : {C : Type 0} (cs : List C) (i : ℕ) (d e : C) → i < length cs → get_or cs i d ≡ get_or cs i e
same_item [] i d e lt = absurd (omega (arith, lt))
same_item (c ∷ cs) zero d e lt = refl
same_item (c ∷ cs) (suc i) d e lt = same_item cs i d e (omega (arith, lt))

pub joined : {X Y : Type 0} (f : X → List Y) (xs ys : List X) → flat_map f (xs ++ ys) ≡ flat_map f xs ++ flat_map f ys
joined f xs ys = flat_map-append f xs ys

-- ---- numbers in a row

range_more : (n k : ℕ) → range_with_len n (k + 1) ≡ range_with_len n k ++ (n + k) ∷ []
range_more n zero = let same : n ≡ n + 0 = omega arith in ap (λ m. m ∷ []) same
range_more n (suc k) =
    let next : suc k + 1 ≡ suc (k + 1) = omega arith in
    let place : n + 1 + k ≡ n + suc k = omega arith in
    ap (range_with_len n) next ∙ ap (λ l. n ∷ l) (range_more (n + 1) k ∙ ap (λ m. range_with_len (n + 1) k ++ m ∷ []) place)

module _ {Y : Type 0} (f : ℕ → List Y) where
  -- one more of what the numbers stand for
  pub number_more : (m : ℕ) (done new : List Y) → done ≡ flat_map f (range_with_len 0 m) → new ≡ done ++ f m → new ≡ flat_map f (range_with_len 0 (m + 1))
  number_more m done new so_far more =
      let start : 0 + m ≡ m = omega arith in
      more
      ∙ ap (λ l. l ++ f m) so_far
      ∙ ap (λ l. flat_map f (range_with_len 0 m) ++ l) (sym (append-nil (f m)))
      ∙ sym (joined f (range_with_len 0 m) (m ∷ []))
      ∙ ap (λ k. flat_map f (range_with_len 0 m ++ k ∷ [])) (sym start)
      ∙ ap (flat_map f) (sym (range_more 0 m))

  pub numbers_made : (m n : ℕ) (done : List Y) → m ≡ n → done ≡ flat_map f (range_with_len 0 m) → done ≡ flat_map f (range_with_len 0 n)
  numbers_made m n done same so_far = so_far ∙ ap (λ k. flat_map f (range_with_len 0 k)) same

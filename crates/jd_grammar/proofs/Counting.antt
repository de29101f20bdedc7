-- What a stack that counts values of nothing shows.
use Rattle.std.proofs.Common.{◌≡◌, ◌<◌, ◌≤◌, ◌-◌, ◌+◌, ℕ, zero, suc, cond, nat_lt, List, [], ◌∷◌, ◌++◌, length, slice_index_or, slice_set, take, drop, replicate, reverse, refl, sym, ap, ap₂, subst, ◌∙◌, arith, length-append}
use Rattle.std.proofs.Math.Seq.{set-append_seam}
use Rattle.std.proofs.lemmas.List.{append-nil, get_or-append-add, reverse-append}
use Rattle.jd_grammar.specs.Counted.{IsAlone, IsTop, piled, shown}
use Rattle.jd_grammar.specs.Nodes.{filled, top_or}
use Rattle.jd_grammar.specs.declared.piles.NodeParts.{NodeParts}
use Rattle.jd_grammar.specs.declared.piles.Pile.{Pile}
use Rattle.jd_grammar.specs.declared.piles.Piles.{Piles}

abbrev pile : {V : Type 0} → V → ℕ → Pile V
pile v n = record { value = v; under = n }

pub one_more : {V : Type 0} (x : V) (w v : ℕ) (rest : List V) → v ≡ w + 1 → replicate v x ++ rest ≡ x ∷ (replicate w x ++ rest)
one_more x w v rest is = ap (λ n. replicate n x ++ rest) (let z : v ≡ suc w = omega (arith, is) in z)

pub put_on : {V : Type 0} (x : V) (ps qs : List (Pile V)) (p : Pile V) → qs ≡ ps ++ p ∷ [] → piled x (reverse qs) ≡ p.value ∷ (replicate p.under x ++ piled x (reverse ps))
put_on x ps qs p is = ap (piled x) (ap reverse is ∙ reverse-append ps (p ∷ []))

-- one that waits is taken
pub top_waits : {V : Type 0} (x y : V) (w v : ℕ) (rest : List V) → 0 < w → v ≡ w - 1 → (x ≡ top_or y (take 1 (replicate w x ++ rest))) × (replicate v x ++ rest ≡ drop 1 (replicate w x ++ rest))
top_waits x y zero v rest some is = absurd (omega (arith, some))
top_waits x y (suc w) v rest some is = (refl, ap (λ n. replicate n x ++ rest) (let z : v ≡ w = omega (arith, is) in z))

lies : {V : Type 0} (x : V) (w : ℕ) (items rest : List (Pile V)) (p : Pile V) → w ≡ 0 → items ≡ rest ++ p ∷ [] → replicate w x ++ piled x (reverse items) ≡ p.value ∷ (replicate p.under x ++ piled x (reverse rest))
lies x w items rest p none is = ap (λ n. replicate n x ++ piled x (reverse items)) none ∙ put_on x rest items p is

-- one that lies there is
pub top_lies : {V : Type 0} (x y : V) (w : ℕ) (items rest : List (Pile V)) (p : Pile V) → w ≡ 0 → items ≡ rest ++ p ∷ [] → (p.value ≡ top_or y (take 1 (replicate w x ++ piled x (reverse items)))) × (replicate p.under x ++ piled x (reverse rest) ≡ drop 1 (replicate w x ++ piled x (reverse items)))
top_lies x y w items rest p none is = (sym (ap (λ xs. top_or y (take 1 xs)) (lies x w items rest p none is)), sym (ap (drop 1) (lies x w items rest p none is)))

none_left : {V : Type 0} (rest : List (Pile V)) → [] ≡ rest ++ [] → rest ≡ []
none_left [] e = refl
none_left (p ∷ ps) e = absurd (let n : 0 ≡ length ((p ∷ ps) ++ []) = ap length e in omega (arith, n))

-- there is none
pub no_top : {V : Type 0} (x y : V) (w v : ℕ) (items rest : List (Pile V)) → w ≡ 0 → v ≡ w → length items ≡ 0 → items ≡ rest ++ [] → (y ≡ top_or y (take 1 (replicate w x ++ piled x (reverse items)))) × (replicate v x ++ piled x (reverse rest) ≡ drop 1 (replicate w x ++ piled x (reverse items)))
no_top x y w v [] rest none same empty is =
    let r : rest ≡ [] = none_left rest is in
    let z : replicate v x ++ piled x (reverse rest) ≡ [] = ap (λ n. replicate n x ++ piled x (reverse rest)) (same ∙ none) ∙ ap (λ qs. piled x (reverse qs)) r in
    let u : replicate w x ++ piled x [] ≡ [] = ap (λ n. replicate n x ++ piled x []) none in
    (sym (ap (λ xs. top_or y (take 1 xs)) u), z ∙ sym (ap (drop 1) u))
no_top x y w v (p ∷ ps) rest none same empty is = absurd (omega (arith, empty))

-- ---- parts

abbrev four : {V : Type 0} → V → V → V → V → NodeParts V
four a b c d = record { first = a; second = b; third = c; fourth = d }

abbrev asks_for : ℕ → ℕ → ℕ
asks_for n k = cond (nat_lt k n) 1 0

abbrev top : {V : Type 0} → V → ℕ → ℕ → List V → V
top y n k xs = top_or y (take (asks_for n k) xs)

abbrev left : {V : Type 0} → ℕ → ℕ → List V → List V
left n k xs = drop (asks_for n k) xs

abbrev tops : {V : Type 0} → NodeParts V → ℕ → List V → NodeParts V
tops none n xs = four (top none.first n 0 xs) (top none.second n 1 (left n 0 xs)) (top none.third n 2 (left n 1 (left n 0 xs))) (top none.fourth n 3 (left n 2 (left n 1 (left n 0 xs))))

by_count : {V : Type 0} (none : NodeParts V) (n : ℕ) (xs : List V) → n ≤ 4 → tops none n xs ≡ filled none (take n xs)
by_count none zero xs few = refl
by_count none (suc zero) [] few = refl
by_count none (suc zero) (a ∷ xs) few = refl
by_count none (suc (suc zero)) [] few = refl
by_count none (suc (suc zero)) (a ∷ []) few = refl
by_count none (suc (suc zero)) (a ∷ b ∷ xs) few = refl
by_count none (suc (suc (suc zero))) [] few = refl
by_count none (suc (suc (suc zero))) (a ∷ []) few = refl
by_count none (suc (suc (suc zero))) (a ∷ b ∷ []) few = refl
by_count none (suc (suc (suc zero))) (a ∷ b ∷ c ∷ xs) few = refl
by_count none (suc (suc (suc (suc zero)))) [] few = refl
by_count none (suc (suc (suc (suc zero)))) (a ∷ []) few = refl
by_count none (suc (suc (suc (suc zero)))) (a ∷ b ∷ []) few = refl
by_count none (suc (suc (suc (suc zero)))) (a ∷ b ∷ c ∷ []) few = refl
by_count none (suc (suc (suc (suc zero)))) (a ∷ b ∷ c ∷ d ∷ xs) few = refl
by_count none (suc (suc (suc (suc (suc n))))) xs few = absurd (omega (arith, few))

pub parts_of : {V : Type 0} (none : NodeParts V) (n : ℕ) (xs ys zs ws : List V) (a b c d : V) → n ≤ 4 → a ≡ top none.first n 0 xs → ys ≡ left n 0 xs → b ≡ top none.second n 1 ys → zs ≡ left n 1 ys → c ≡ top none.third n 2 zs → ws ≡ left n 2 zs → d ≡ top none.fourth n 3 ws → four a b c d ≡ filled none (take n xs)
parts_of none n xs ys zs ws a b c d few is_a is_ys is_b is_zs is_c is_ws is_d =
    let third : zs ≡ left n 1 (left n 0 xs) = is_zs ∙ ap (left n 1) is_ys in
    let last : ws ≡ left n 2 (left n 1 (left n 0 xs)) = is_ws ∙ ap (left n 2) third in
    ap₂ (λ x y. four x y c d) is_a (is_b ∙ ap (top none.second n 1) is_ys)
    ∙ (ap₂ (λ x y. four (top none.first n 0 xs) (top none.second n 1 (left n 0 xs)) x y) (is_c ∙ ap (top none.third n 2) third) (is_d ∙ ap (top none.fourth n 3) last) ∙ by_count none n xs few)

-- ---- the value on top

pub top_shown : {V : Type 0} (x : V) (s : Piles V) (others : List (Pile V)) (v : V) (m : ℕ) → IsTop s others v m → shown x s ≡ v ∷ (replicate m x ++ piled x (reverse others))
top_shown x s others v m t = lies x s.waiting s.piles.items others (pile v m) t.none_waits t.is

pub under_set : {V : Type 0} (s : Piles V) (others : List (Pile V)) (v : V) (m n : ℕ) (t : Pile V) (len : ℕ) → IsTop s others v m → len ≡ length s.piles.items → t ≡ slice_index_or s.piles.items (len - 1) t → slice_set s.piles.items (len - 1) (pile t.value n) ≡ others ++ pile v n ∷ []
under_set s others v m n t len l count top =
    let q = pile v m in
    let size : length (others ++ q ∷ []) ≡ length others + 1 = length-append others (q ∷ []) in
    let all : len ≡ length (others ++ q ∷ []) = count ∙ ap length l.is in
    let one : len - 1 ≡ length others = omega (arith, size, all) in
    let behind : len - 1 ≡ length others + 0 = omega (arith, one) in
    let there : t ≡ q = top ∙ (ap₂ (λ xs k. slice_index_or xs k t) l.is behind ∙ get_or-append-add others (q ∷ []) 0 t) in
    ap₂ (λ xs k. slice_set xs k (pile t.value n)) l.is one
    ∙ (set-append_seam others q [] (pile t.value n) ∙ ap (λ (y : Pile _). others ++ pile y.value n ∷ []) there)

-- ---- a first part alone

pub take_first : {V : Type 0} (x : V) (n m w : ℕ) (rest : List V) → w ≡ n + m → take n (replicate w x ++ rest) ≡ replicate n x
take_first x zero m w rest e = refl
take_first x (suc n) m zero rest e = absurd (omega (arith, e))
take_first x (suc n) m (suc w) rest e = ap (λ xs. x ∷ xs) (take_first x n m w rest (omega (arith, e)))

pub drop_first : {V : Type 0} (x : V) (n m w : ℕ) (rest : List V) → w ≡ n + m → drop n (replicate w x ++ rest) ≡ replicate m x ++ rest
drop_first x zero m w rest e = ap (λ k. replicate k x ++ rest) (let z : w ≡ m = omega (arith, e) in z)
drop_first x (suc n) m zero rest e = absurd (omega (arith, e))
drop_first x (suc n) m (suc w) rest e = drop_first x n m w rest (omega (arith, e))

-- where nothing waits, so many of them
pub alone_waits : {V : Type 0} (x y : V) (w v n : ℕ) (rest : List V) → (n ≡ 0 → ⊥) → n ≤ w → v ≡ w - n → y ≡ x → IsAlone x n y (replicate w x ++ rest) (replicate v x ++ rest)
alone_waits x y w v n rest some enough less same =
    let all : w ≡ n + v = omega (arith, enough, less) in
    let whole : n ≡ suc (n - 1) = omega (arith, some) in
    record {
      others = n - 1;
      count = whole;
      parts = take_first x n v w rest all ∙ (ap (λ k. replicate k x) whole ∙ ap (λ z. z ∷ replicate (n - 1) x) (sym same));
      left = sym (drop_first x n v w rest all);
    }

-- a value with so many of nothing right below it
pub alone_lies : {V : Type 0} (x : V) (w v n : ℕ) (items rest : List (Pile V)) (p : Pile V) → w ≡ 0 → 0 < n → items ≡ rest ++ p ∷ [] → n - 1 ≤ p.under → v ≡ p.under - (n - 1) → IsAlone x n p.value (replicate w x ++ piled x (reverse items)) (replicate v x ++ piled x (reverse rest))
alone_lies x w v n items rest p none some is enough less =
    let all : p.under ≡ n - 1 + v = omega (arith, enough, less) in
    let whole : n ≡ suc (n - 1) = omega (arith, some) in
    let below = piled x (reverse rest) in
    let before = lies x w items rest p none is in
    record {
      others = n - 1;
      count = whole;
      parts = ap₂ take whole before ∙ ap (λ xs. p.value ∷ xs) (take_first x (n - 1) v p.under below all);
      left = sym (ap₂ drop whole before ∙ drop_first x (n - 1) v p.under below all);
    }

-- what lies there is put back
pub put_back : {V : Type 0} (x : V) (w : ℕ) (items rest again : List (Pile V)) (p : Pile V) → items ≡ rest ++ p ∷ [] → again ≡ rest ++ p ∷ [] → replicate w x ++ piled x (reverse again) ≡ replicate w x ++ piled x (reverse items)
put_back x w items rest again p is is_again = ap (λ ps. replicate w x ++ piled x (reverse ps)) (is_again ∙ sym is)

-- there is none
pub none_taken : {V : Type 0} (x : V) (w : ℕ) (items rest : List (Pile V)) → items ≡ rest ++ [] → replicate w x ++ piled x (reverse rest) ≡ replicate w x ++ piled x (reverse items)
none_taken x w items rest is = ap (λ ps. replicate w x ++ piled x (reverse ps)) (sym (is ∙ append-nil rest))

-- Tables of heads with their words.
use Rattle.std.proofs.Common.{◌≡◌, ℕ, List, [], ◌∷◌, map, Bool, true, false, cond, Option, Some, option_map, refl, ap, Bor, ◌++◌}
use Rattle.std.specs.List.{find}
use Rattle.std.specs.Str.{bytes_eq}
use Rattle.jd_tforms.specs.Heads.{head_of}
use Rattle.jd_twords.specs.declared.places.Place.{Place}
use Rattle.jd_twords.specs.Beside.{find_beside}

abbrev Row : Type 0 → Type 0
Row H = H × Bor (List ℕ) × Bor (List Place) × Option Place

pub in_columns : {H : Type 0} (rows : List (Row H)) (w : List ℕ) →
    option_map (λ (r : Row H). r.0) (find (λ (r : Row H). bytes_eq r.1.now w) rows)
    ≡ find_beside (map (λ (r : Row H). r.0) rows) (map (λ (r : Row H). r.1.now) rows) w
in_columns [] w = refl
in_columns {H} (r ∷ rs) w = by (bytes_eq r.1.now w) (in_columns rs w)
  where
    by : (b : Bool) → option_map (λ (q : Row H). q.0) (find (λ (q : Row H). bytes_eq q.1.now w) rs) ≡ find_beside (map (λ (q : Row H). q.0) rs) (map (λ (q : Row H). q.1.now) rs) w →
        option_map (λ (q : Row H). q.0) (cond b (Some r) (find (λ (q : Row H). bytes_eq q.1.now w) rs)) ≡ cond b (Some r.0) (find_beside (map (λ (q : Row H). q.0) rs) (map (λ (q : Row H). q.1.now) rs) w)
    by true e = refl
    by false e = e

pub beside_words : {H : Type 0} (word : H → List ℕ) (hs : List H) (w : List ℕ) → find_beside hs (map word hs) w ≡ head_of word hs w
beside_words word [] w = refl
beside_words {H} word (h ∷ hs) w = ap (cond (bytes_eq (word h) w) (Some h)) (beside_words word hs w)

-- a head that stands twice is found where it stands first
pub once : {H : Type 0} (word : H → List ℕ) (front : List H) (h : H) (hs : List H) (w : List ℕ) → head_of word (front ++ (h ∷ h ∷ hs)) w ≡ head_of word (front ++ (h ∷ hs)) w
once {H} word [] h hs w = by (bytes_eq (word h) w)
  where
    by : (b : Bool) → cond b (Some h) (cond b (Some h) (head_of word hs w)) ≡ cond b (Some h) (head_of word hs w)
    by true = refl
    by false = refl
once word (g ∷ gs) h hs w = ap (cond (bytes_eq (word g) w) (Some g)) (once word gs h hs w)

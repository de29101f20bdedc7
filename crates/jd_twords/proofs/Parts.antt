-- The parts of what stands in brackets, one after the other.
use Rattle.std.proofs.Common.{◌≡◌, ◌≢◌, ℕ, zero, suc, ◌+◌, ◌-◌, ◌<◌, ◌≤◌, List, [], ◌∷◌, length, map, drop, get_or, slice_index_or, Bool, true, false, ◌&&◌, Option, Some, None, refl, sym, ap, ◌∙◌, arith}
use Rattle.std.proofs.lemmas.List.{get_or-map, length-map}
use Rattle.jd_syntax.specs.declared.sx.Sx.{Sx}
use Rattle.jd_syntax.specs.Sxs.{Bracketed, bracketed_list, sx_view}
use Rattle.jd_tforms.specs.Forms as plain
use Rattle.jd_tforms.specs.HasForm.{has_form, have_forms}
use Rattle.jd_twords.specs.declared.places.Place.{Place}
use Rattle.jd_twords.specs.Places.{place_view, place_at}

pub there : (xs : List Place) (i : ℕ) (d : Place) (rest : Option plain.Place) → i < length xs → Some (place_view (slice_index_or xs i d)) ≡ place_at (map place_view xs) i rest
there [] i d rest lt = absurd (omega arith)
there (x ∷ xs) zero d rest lt = refl
there (x ∷ xs) (suc i) d rest lt = there xs i d rest (omega arith)

pub past : (xs : List Place) (i : ℕ) (rest : Option plain.Place) → length xs ≤ i → rest ≡ place_at (map place_view xs) i rest
past [] i rest le = refl
past (x ∷ xs) zero rest le = absurd (omega arith)
past (x ∷ xs) (suc i) rest le = past xs i rest (omega arith)

-- ---- behind a word

pub behind_word : (w : List ℕ) (ps : List plain.Place) (i : ℕ) (rest : Option plain.Place) → i ≢ 0 → place_at ps (i - 1) rest ≡ place_at (plain.WordPlace w ∷ ps) i rest
behind_word w ps zero rest ne = absurd (ne refl)
behind_word w ps (suc i) rest ne = let one_less : suc i - 1 ≡ i = omega arith in ap (λ k. place_at ps k rest) one_less

-- ---- parts

no_second : (b : Bool) → (b && false) ≡ false
no_second true = refl
no_second false = refl

pub too_few : (xs : List Bracketed) (ps : List plain.Place) (rest : Option plain.Place) → length xs < length ps → false ≡ have_forms (bracketed_list xs) ps rest
too_few [] [] rest lt = absurd (omega arith)
too_few [] (p ∷ ps) rest lt = refl
too_few (x ∷ xs) [] rest lt = absurd (omega arith)
too_few (x ∷ xs) (p ∷ ps) rest lt = sym (no_second (has_form x p)) ∙ ap (λ b. has_form x p && b) (too_few xs ps rest (omega arith))

-- the parts from that number on
abbrev pub from : List Bracketed → List plain.Place → Option plain.Place → ℕ → Bool
from xs ps rest i = have_forms (bracketed_list (drop i xs)) (drop i ps) rest

no_drop : (i : ℕ) → drop {A = plain.Place} i [] ≡ []
no_drop zero = refl
no_drop (suc i) = refl

from_none : (x : Bracketed) (xs : List Bracketed) (rest : Option plain.Place) (i : ℕ) → from (x ∷ xs) [] rest (suc i) ≡ from xs [] rest i
from_none x xs rest i = ap (λ (q : List plain.Place). have_forms (bracketed_list (drop i xs)) q rest) (sym (no_drop i))

-- a part is as its place asks, and the rest follows
pub part_is : (xs : List Bracketed) (ps : List plain.Place) (rest : Option plain.Place) (i : ℕ) (d : Bracketed) (p : plain.Place) → i < length xs → Some p ≡ place_at ps i rest →
    from xs ps rest i ≡ (has_form (get_or xs i d) p && from xs ps rest (suc i))
part_is [] ps rest i d p lt e = absurd (omega arith)
part_is (x ∷ xs) [] None zero d p lt e = absurd cc
part_is (x ∷ xs) [] (Some q) zero d p lt e = let same : p ≡ q = cc in ap (λ r. has_form x r && have_forms (bracketed_list xs) [] (Some q)) (sym same)
part_is (x ∷ xs) (q ∷ ps) rest zero d p lt e = let same : p ≡ q = cc in ap (λ r. has_form x r && have_forms (bracketed_list xs) ps rest) (sym same)
part_is (x ∷ xs) [] rest (suc i) d p lt e =
    from_none x xs rest i ∙ (part_is xs [] rest i d p (omega arith) e ∙ ap (λ b. has_form (get_or xs i d) p && b) (sym (from_none x xs rest (suc i))))
part_is (x ∷ xs) (q ∷ ps) rest (suc i) d p lt e = part_is xs ps rest i d p (omega arith) e

pub no_part : (xs : List Bracketed) (ps : List plain.Place) (rest : Option plain.Place) (i : ℕ) → i < length xs → None ≡ place_at ps i rest → from xs ps rest i ≡ false
no_part [] ps rest i lt e = absurd (omega arith)
no_part (x ∷ xs) [] None zero lt e = refl
no_part (x ∷ xs) [] (Some q) zero lt e = absurd cc
no_part (x ∷ xs) (q ∷ ps) rest zero lt e = absurd cc
no_part (x ∷ xs) [] rest (suc i) lt e = from_none x xs rest i ∙ no_part xs [] rest i (omega arith) e
no_part (x ∷ xs) (q ∷ ps) rest (suc i) lt e = no_part xs ps rest i (omega arith) e

pub all_parts : (xs : List Bracketed) (ps : List plain.Place) (rest : Option plain.Place) (i : ℕ) → i ≡ length xs → length ps ≤ length xs → from xs ps rest i ≡ true
all_parts [] [] rest i e le = rw e refl
all_parts [] (p ∷ ps) rest i e le = absurd (omega arith)
all_parts (x ∷ xs) [] rest zero e le = absurd (omega arith)
all_parts (x ∷ xs) [] rest (suc i) e le = from_none x xs rest i ∙ all_parts xs [] rest i (omega arith) (omega arith)
all_parts (x ∷ xs) (p ∷ ps) rest zero e le = absurd (omega arith)
all_parts (x ∷ xs) (p ∷ ps) rest (suc i) e le = all_parts xs ps rest i (omega arith) (omega arith)

-- ---- the same for a list that the code walks

pub part_fails : (xs : List Bracketed) (ps : List plain.Place) (rest : Option plain.Place) (i : ℕ) (x d : Bracketed) (p : plain.Place) (all : Bool) → i < length xs → Some p ≡ place_at ps i rest →
    get_or xs i d ≡ x → false ≡ has_form x p → all ≡ from xs ps rest i → false ≡ all
part_fails xs ps rest i x d p all lt e at fails so_far =
    sym (so_far ∙ (part_is xs ps rest i d p lt e ∙ (ap (λ y. has_form y p && from xs ps rest (suc i)) at ∙ ap (λ b. b && from xs ps rest (suc i)) (sym fails))))

next : (xs : List Bracketed) (ps : List plain.Place) (rest : Option plain.Place) (i : ℕ) → from xs ps rest (suc i) ≡ from xs ps rest (i + 1)
next xs ps rest i = let same : suc i ≡ i + 1 = omega arith in ap (from xs ps rest) same

pub part_passes : (xs : List Bracketed) (ps : List plain.Place) (rest : Option plain.Place) (i : ℕ) (x d : Bracketed) (p : plain.Place) (all : Bool) → i < length xs → Some p ≡ place_at ps i rest →
    get_or xs i d ≡ x → true ≡ has_form x p → all ≡ from xs ps rest i → all ≡ from xs ps rest (i + 1)
part_passes xs ps rest i x d p all lt e at passes so_far =
    so_far ∙ (part_is xs ps rest i d p lt e ∙ (ap (λ y. has_form y p && from xs ps rest (suc i)) at ∙ (ap (λ b. b && from xs ps rest (suc i)) (sym passes) ∙ next xs ps rest i)))

-- ---- the same for the code's items

pub item : (parts : List Sx) (i : ℕ) (x d : Sx) → i < length parts → x ≡ get_or parts i d → get_or (map sx_view parts) i (sx_view d) ≡ sx_view x
item parts i x d lt e = get_or-map sx_view parts i d (sx_view d) lt ∙ ap sx_view (sym e)

pub mapped_length : (parts : List Sx) (i : ℕ) → i < length parts → i < length (map sx_view parts)
mapped_length parts i lt = omega (arith, lt, length-map parts sx_view)

-- The forms of a place, one after the other.
use Rattle.std.proofs.Common.{◌≡◌, ℕ, zero, suc, ◌+◌, ◌<◌, ◌≤◌, List, [], ◌∷◌, length, map, drop, get_or, Bool, true, false, ◌||◌, Option, Some, None, Bor, refl, sym, ap, ◌∙◌, arith}
use Rattle.jd_tforms.specs.Forms as plain
use Rattle.jd_tforms.specs.Forms.{Form, Place, forms}
use Rattle.jd_tforms.specs.HasForm.{any_form}
use Rattle.jd_twords.specs.declared.places.Place.{Place as CodePlace}
use Rattle.jd_twords.specs.Places.{at_number, row_form}

abbrev Row : Type 0 → Type 0
Row H = H × Bor (List ℕ) × Bor (List CodePlace) × Option CodePlace

-- (the code takes each part of a row by itself)
pub row_there : {H : Type 0} (rows : List (Row H)) (i : ℕ) (p q r : Row H) → i < length rows →
    Some (row_form (get_or rows i p).1.now (get_or rows i q).2.now (get_or rows i r).3) ≡ at_number i (map (λ (row : Row H). row_form row.1.now row.2.now row.3) rows)
row_there [] i p q r lt = absurd (omega arith)
row_there (row ∷ rows) zero p q r lt = refl
row_there (row ∷ rows) (suc i) p q r lt = row_there rows i p q r (omega arith)

pub no_row : {H : Type 0} (rows : List (Row H)) (i : ℕ) → length rows ≤ i → None ≡ at_number i (map (λ (p : Row H). row_form p.1.now p.2.now p.3) rows)
no_row [] i le = refl
no_row (q ∷ qs) zero le = absurd (omega arith)
no_row (q ∷ qs) (suc i) le = no_row qs i (omega arith)

-- ---- what is left of them

module _ (go : List Place → Option Place → Bool) where
  pub none_left : (fs : List Form) (i : ℕ) → None ≡ at_number i fs → any_form go (drop i fs) ≡ false
  none_left [] zero e = refl
  none_left [] (suc i) e = refl
  none_left (f ∷ fs) zero e = absurd cc
  none_left (f ∷ fs) (suc i) e = none_left fs i e

  left : (fs : List Form) (i : ℕ) (f : Form) → Some f ≡ at_number i fs → any_form go (drop i fs) ≡ (go f.parts f.rest || any_form go (drop (suc i) fs))
  left [] zero f e = absurd cc
  left [] (suc i) f e = absurd cc
  left (g ∷ fs) zero f e = let same : f ≡ g = cc in ap (λ (h : Form). go h.parts h.rest || any_form go fs) (sym same)
  left (g ∷ fs) (suc i) f e = left fs i f e

  pub form_passes : (fs : List Form) (i : ℕ) (f : Form) (all : Bool) → Some f ≡ at_number i fs → true ≡ go f.parts f.rest → all ≡ any_form go (drop i fs) → true ≡ all
  form_passes fs i f all e passes so_far = sym (so_far ∙ (left fs i f e ∙ ap (λ b. b || any_form go (drop (suc i) fs)) (sym passes)))

  pub form_fails : (fs : List Form) (i : ℕ) (f : Form) (all : Bool) → Some f ≡ at_number i fs → false ≡ go f.parts f.rest → all ≡ any_form go (drop i fs) → all ≡ any_form go (drop (i + 1) fs)
  form_fails fs i f all e fails so_far =
      let next : suc i ≡ i + 1 = omega arith in
      so_far ∙ (left fs i f e ∙ (ap (λ b. b || any_form go (drop (suc i) fs)) (sym fails) ∙ ap (λ k. any_form go (drop k fs)) next))

  -- no place has more than 25
  pub past_all : (p : Place) → any_form go (drop 25 (forms p)) ≡ false
  past_all plain.TermPlace = refl
  past_all p = refl

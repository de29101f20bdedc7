-- The longest sign of a table, sign by sign.
use Rattle.std.proofs.Common.{◌≡◌, ◌⊎◌, inl, inr, ℕ, ◌+◌, ◌<◌, ◌≤◌, List, [], ◌∷◌, ◌++◌, map, length, take, get_or, refl, sym, ap, subst, ◌∙◌, arith, Bor}
use Rattle.std.proofs.lemmas.List.{map_more}
use Rattle.std.proofs.Math.Seq.{take-append_seam}
use Rattle.jd_lex.specs.Signs.{Listed, BeginsWith}
use Rattle.jd_lex.specs.Lens.{Longer, LongestLen}

pub listed_more : (text : List ℕ) (table : List (List ℕ)) (sign : List ℕ) → Listed text (table ++ sign ∷ []) → Listed text table ⊎ (text ≡ sign)
listed_more text [] sign (inl e) = inr e
listed_more text [] sign (inr h) = absurd h
listed_more text (s ∷ table) sign (inl e) = inl (inl e)
listed_more text (s ∷ table) sign (inr h) = elim (listed_more text table sign h) [ inl k ↦ inl (inr k) | inr e ↦ inr e ]

listed_front : (text : List ℕ) (table : List (List ℕ)) (sign : List ℕ) → Listed text table → Listed text (table ++ sign ∷ [])
listed_front text [] sign h = absurd h
listed_front text (s ∷ table) sign (inl e) = inl e
listed_front text (s ∷ table) sign (inr h) = inr (listed_front text table sign h)

listed_last : (table : List (List ℕ)) (sign : List ℕ) → Listed sign (table ++ sign ∷ [])
listed_last [] sign = inl refl
listed_last (s ∷ table) sign = inr (listed_last table sign)

pub longest_none : (bytes : List ℕ) → LongestLen [] bytes 0
longest_none bytes = record { within = omega arith; listed = inl refl; longest = λ sign h b. absurd h }

pub longest_more : (table : List (List ℕ)) (sign bytes : List ℕ) (best n : ℕ) → LongestLen table bytes best → Longer sign bytes best n → LongestLen (table ++ sign ∷ []) bytes n
longest_more table sign bytes best n h (inl k) = record {
  within = omega (arith, h.within, k.0);
  listed = elim h.listed [ inl z ↦ inl (k.0 ∙ z) | inr l ↦ inr (subst (λ m. Listed (take m bytes) (table ++ sign ∷ [])) (sym k.0) (listed_front (take best bytes) table sign l)) ];
  longest = λ other l b. elim (listed_more other table sign l) [
    | inl l' ↦ let le = h.longest other l' b in omega (arith, le, k.0)
    | inr e ↦ let le = k.1 (subst (λ t. BeginsWith t bytes) e b) in omega (arith, le, k.0, ap length e)
  ];
}
longest_more table sign bytes best n h (inr k) = record {
  within = let (behind, is) = k.2 in let l = long sign behind in omega (arith, k.0, ap length is, l);
  listed = inr (subst (λ t. Listed t (table ++ sign ∷ [])) (sym (let (behind, is) = k.2 in ap (λ m. take m bytes) k.0 ∙ (ap (λ t. take (length sign) t) is ∙ take-append_seam sign behind))) (listed_last table sign));
  longest = λ other l b. elim (listed_more other table sign l) [
    | inl l' ↦ let le = h.longest other l' b in omega (arith, le, k.0, k.1)
    | inr e ↦ omega (arith, k.0, ap length e)
  ];
}
  where
    long : (xs ys : List ℕ) → length xs ≤ length (xs ++ ys)
    long [] ys = omega arith
    long (x ∷ xs) ys = let l = long xs ys in omega (arith, l)

pub longest_step : (table : List (Bor (List ℕ))) (other : Bor (List ℕ)) (i : ℕ) (bytes : List ℕ) (best n : ℕ) → i < length table
    → LongestLen (map (λ s. s.now) (take i table)) bytes best → Longer (get_or table i other).now bytes best n
    → LongestLen (map (λ s. s.now) (take (i + 1) table)) bytes n
longest_step table other i bytes best n lt h k =
    subst (λ t. LongestLen t bytes n) (sym (map_more (λ (s : Bor (List ℕ)). s.now) table i other lt))
    (longest_more (map (λ s. s.now) (take i table)) (get_or table i other).now bytes best n h k)

-- Numbered names are apart from names without `~`, from those of other digits, and from those that a letter tells apart.
use Rattle.std.proofs.Common.{◌≡◌, ℕ, ◌<◌, ◌^◌, nat_eq, Bool, true, false, cond, not, List, [], ◌∷◌, ◌++◌, length, refl, sym, ap, ◌∙◌, arith}
use Rattle.std.specs.Prelude.{codes}
use Rattle.std.specs.Fmt.{decimal}
use Rattle.std.specs.Str.Parse.{AllDigits}
use Rattle.std.proofs.lemmas.Fmt.{decimal_injective, decimal_nonempty, decimal_is_IsNumeral}
use Rattle.std.proofs.lemmas.Str.Parse.{tells_digits}
use Rattle.std.proofs.lemmas.List.{append_cancel_right}
use Rattle.std.proofs.lemmas.Bool.{ne_eqb}
use Rattle.jd_base.specs.declared.sort.Sort.{Sort}
use Rattle.jd_base.specs.declared.sort.Sort.TheVariants.{Int as IntSort, Bool as BoolSort, Ref as RefSort, Heap as HeapSort, Field as FieldSort}
use Rattle.jd_syntax.specs.Names.{Name}
use Rattle.jd_syntax.specs.CodeNames.{same_name}
use Rattle.jd_syntax.proofs.NameTests.{same_name_decides}
use Rattle.jd_model.specs.Tables.{sort_letter}
use Rattle.jd_model.specs.NumberedNames.{numbered_name}
use Rattle.jd_model.proofs.Writes.{apart_by}

-- ---- names without `~`
abbrev pub has_tilde : List ℕ → Bool
has_tilde [] = false
has_tilde (c ∷ l) = cond (nat_eq c 126) true (has_tilde l)

tilde_in : (m rest : List ℕ) → has_tilde (m ++ (126 ∷ rest)) ≡ true
tilde_in [] rest = refl
tilde_in (c ∷ m) rest = by (tilde_in m rest) (nat_eq c 126)
  where
    by : has_tilde (m ++ (126 ∷ rest)) ≡ true → (b : Bool) → cond b true (has_tilde (m ++ (126 ∷ rest))) ≡ true
    by h true = refl
    by h false = h

tilde_after : (m l : List ℕ) → has_tilde l ≡ true → has_tilde (m ++ l) ≡ true
tilde_after [] l h = h
tilde_after (c ∷ m) l h = by (tilde_after m l h) (nat_eq c 126)
  where
    by : has_tilde (m ++ l) ≡ true → (b : Bool) → cond b true (has_tilde (m ++ l)) ≡ true
    by g true = refl
    by g false = g

pub tilde_apart : (x : Name) → has_tilde x.text ≡ false → (sign : List ℕ) (k : Sort) (m : List ℕ) (n : ℕ) → same_name x (numbered_name sign k m n) ≡ false
tilde_apart x o sign k m n = apart_by (λ y. not (has_tilde y.text)) x (numbered_name sign k m n) (ap not o)
    (ap not (tilde_after sign (sort_letter k ++ (m ++ (codes "~" ++ decimal n))) (tilde_after (sort_letter k) (m ++ (codes "~" ++ decimal n)) (tilde_in m (decimal n)))))

-- ---- what stands behind the sign and the letter
abbrev pub behind_letter : List ℕ → List ℕ
behind_letter [] = []
behind_letter (a ∷ []) = []
behind_letter (a ∷ (b ∷ l)) = l

pub behind_is : (sign : ℕ) (k : Sort) (m : List ℕ) (n : ℕ) → behind_letter (numbered_name (sign ∷ []) k m n).text ≡ m ++ (126 ∷ decimal n)
behind_is sign IntSort m n = refl
behind_is sign BoolSort m n = refl
behind_is sign RefSort m n = refl
behind_is sign HeapSort m n = refl
behind_is sign FieldSort m n = refl

abbrev pub starts_with : ℕ → List ℕ → Bool
starts_with c [] = false
starts_with c (x ∷ l) = nat_eq x c

-- names of different digits
pub digits_apart : (sign k m n : ℕ) (s t : Sort) → k < 2 ^ 64 → m < 2 ^ 64 → k < m → same_name (numbered_name (sign ∷ []) s (decimal k) n) (numbered_name (sign ∷ []) t (decimal m) n) ≡ false
digits_apart sign k m n s t bk bm lt = by (same_name (numbered_name (sign ∷ []) s (decimal k) n) (numbered_name (sign ∷ []) t (decimal m) n)) refl
  where
    by : (b : Bool) → same_name (numbered_name (sign ∷ []) s (decimal k) n) (numbered_name (sign ∷ []) t (decimal m) n) ≡ b → b ≡ false
    by false p = refl
    by true p =
        let e : decimal k ++ (126 ∷ decimal n) ≡ decimal m ++ (126 ∷ decimal n) =
        sym (behind_is sign s (decimal k) n)
        ∙ ap (λ (x : Name). behind_letter x.text) ((same_name_decides (numbered_name (sign ∷ []) s (decimal k) n) (numbered_name (sign ∷ []) t (decimal m) n)).0 p)
        ∙ behind_is sign t (decimal m) n in
        let same : k ≡ m = decimal_injective k m bk bm (append_cancel_right (decimal k) (decimal m) (126 ∷ decimal n) e) in
        absurd (omega arith)

no_digit : (c : ℕ) → 57 < c → (ds rest : List ℕ) → 0 < length ds → AllDigits 10 ds → starts_with c (ds ++ rest) ≡ false
no_digit c big [] rest some d = absurd (omega arith)
no_digit c big (x ∷ ds) rest some d = let r = (tells_digits.parts x ds d).0 in ne_eqb x c (λ e. omega (arith, r.1))

-- what is told apart by digits is no name that is told apart by a letter, or by nothing
pub letter_apart : (x : Name) (c : ℕ) → 57 < c → starts_with c (behind_letter x.text) ≡ true → (sign : ℕ) (s : Sort) (k n : ℕ) → k < 2 ^ 64 → same_name x (numbered_name (sign ∷ []) s (decimal k) n) ≡ false
letter_apart x c big is sign s k n small = apart_by (λ y. starts_with c (behind_letter y.text)) x (numbered_name (sign ∷ []) s (decimal k) n) is
    (ap (starts_with c) (behind_is sign s (decimal k) n) ∙ no_digit c big (decimal k) (126 ∷ decimal n) (decimal_nonempty k small) (decimal_is_IsNumeral k small).0.1)

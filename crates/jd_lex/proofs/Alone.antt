-- A sign of one byte with which no other begins is the longest where it stands.
use Rattle.std.proofs.Common.{◌≡◌, ◌⊎◌, inl, inr, ℕ, ◌≤◌, Bool, true, false, not, ◌==◌, ◌&&◌, ◌||◌, List, [], ◌∷◌, length, refl, sym, ap, subst, ◌∙◌, eq-eqb, true≢false, arith}
use Rattle.std.specs.List.{list_any, list_all}
use Rattle.std.proofs.lemmas.Bool.{eqb-true}
use Rattle.jd_lex.specs.Signs.{Listed, BeginsWith, alone, begins_alone, signs}
use Rattle.jd_lex.specs.Lens.{LongestLen}

-- the byte is a sign of the table
abbrev holds : List (List ℕ) → ℕ → Bool
holds [] b = false
holds ([] ∷ table) b = holds table b
holds ((s ∷ []) ∷ table) b = (b == s) || holds table b
holds ((s ∷ t ∷ sign) ∷ table) b = holds table b

-- no longer sign of the table begins with the byte
abbrev none_longer : List (List ℕ) → ℕ → Bool
none_longer [] b = true
none_longer ([] ∷ table) b = none_longer table b
none_longer ((s ∷ []) ∷ table) b = none_longer table b
none_longer ((s ∷ t ∷ sign) ∷ table) b = not (b == s) && none_longer table b

abbrev single : List (List ℕ) → ℕ → Bool
single table b = holds table b && none_longer table b

or_cases : (p q : Bool) → (p || q) ≡ true → (p ≡ true) ⊎ (q ≡ true)
or_cases true q e = inl refl
or_cases false q e = inr e

and_cases : (p q : Bool) → (p && q) ≡ true → (p ≡ true) × (q ≡ true)
and_cases true q e = (refl, e)
and_cases false q e = absurd (true≢false (sym e))

listed : (table : List (List ℕ)) (b : ℕ) → holds table b ≡ true → Listed (b ∷ []) table
listed [] b e = absurd (true≢false (sym e))
listed ([] ∷ table) b e = inr (listed table b e)
listed ((s ∷ []) ∷ table) b e = elim (or_cases (b == s) (holds table b) e) [
  | inl k ↦ inl (ap (λ n. n ∷ []) (eqb-true b s k))
  | inr k ↦ inr (listed table b k)
]
listed ((s ∷ t ∷ sign) ∷ table) b e = inr (listed table b e)

begins : (b s : ℕ) (sign bytes : List ℕ) → BeginsWith (s ∷ sign) (b ∷ bytes) → b ≡ s
begins b s sign bytes (behind, is) = head-eq is
  where
    head-eq : {x y : ℕ} {xs ys : List ℕ} → x ∷ xs ≡ y ∷ ys → x ≡ y
    head-eq e = cc

longest : (table : List (List ℕ)) (b : ℕ) (bytes : List ℕ) → none_longer table b ≡ true
    → (sign : List ℕ) → Listed sign table → BeginsWith sign (b ∷ bytes) → length sign ≤ 1
longest [] b bytes e sign l w = absurd l
longest ([] ∷ table) b bytes e sign (inl is) w = omega (arith, ap length is)
longest ([] ∷ table) b bytes e sign (inr l) w = longest table b bytes e sign l w
longest ((s ∷ []) ∷ table) b bytes e sign (inl is) w = omega (arith, ap length is)
longest ((s ∷ []) ∷ table) b bytes e sign (inr l) w = longest table b bytes e sign l w
longest ((s ∷ t ∷ other) ∷ table) b bytes e sign (inl is) w =
    let same = begins b s (t ∷ other) bytes (subst (λ o. BeginsWith o (b ∷ bytes)) is w) in
    absurd (true≢false (sym (and_cases (not (b == s)) (none_longer table b) e).0 ∙ ap not (eq-eqb b s same)))
longest ((s ∷ t ∷ other) ∷ table) b bytes e sign (inr l) w = longest table b bytes (and_cases (not (b == s)) (none_longer table b) e).1 sign l w

alone_len : (table : List (List ℕ)) (b : ℕ) (bytes : List ℕ) → single table b ≡ true → LongestLen table (b ∷ bytes) 1
alone_len table b bytes e =
    let (h, n) = and_cases (holds table b) (none_longer table b) e in
    record { within = omega arith; listed = inr (listed table b h); longest = longest table b bytes n }

one_of : (table : List (List ℕ)) (ones : List ℕ) (b : ℕ) → list_all (single table) ones ≡ true → list_any (λ s. b == s) ones ≡ true → single table b ≡ true
one_of table [] b all any = absurd (true≢false (sym any))
one_of table (s ∷ ones) b all any =
    let (first, others) = and_cases (single table s) (list_all (single table) ones) all in
    elim (or_cases (b == s) (list_any (λ t. b == t) ones) any) [
      | inl k ↦ subst (λ n. single table n ≡ true) (sym (eqb-true b s k)) first
      | inr k ↦ one_of table ones b others k
    ]

all_alone : (jml : Bool) → list_all (single (signs jml)) alone ≡ true
all_alone true = refl
all_alone false = refl

pub begins_alone_len : (jml : Bool) (bytes : List ℕ) → begins_alone bytes ≡ true → LongestLen (signs jml) bytes 1
begins_alone_len jml [] e = absurd (true≢false (sym e))
begins_alone_len jml (b ∷ bytes) e = alone_len (signs jml) b bytes (one_of (signs jml) alone b (all_alone jml) e)

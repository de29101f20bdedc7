-- Another number of parts than a form has.
use Rattle.std.proofs.Common.{◌≡◌, ◌≢◌, ℕ, List, [], ◌∷◌, length, map, Option, Some, None, refl, ap}
use Rattle.jd_syntax.specs.declared.sx.Sx.{Sx}
use Rattle.jd_syntax.specs.Sxs.{BracketedList, Atom, Brackets, NoneBracketed, BracketedThen, bracketed_list, sx_view}
use Rattle.jd_tgrammar.specs.NameTables.{NameTable}
use Rattle.jd_tforms.specs.Heads.{head_of}
use Rattle.jd_tforms.specs.Reading.{Read, with_one, with_two, with_three, with_four, behind, reads}
use Rattle.jd_tcode.specs.Behind.{first_word, rest_of}

abbrev of : NameTable → List Sx → List Read
of names xs = rest_of (reads names (bracketed_list (map sx_view xs)))

pub no_one : {T : Type 0} (names : NameTable) (f : Read → Option T) (xs : List Sx) → length xs ≢ 2 → None ≡ with_one f (rest_of (reads names (bracketed_list (map sx_view xs))))
no_one names f [] n = refl
no_one names f (h ∷ []) n = refl
no_one names f (h ∷ a ∷ []) n = absurd (n refl)
no_one names f (h ∷ a ∷ b ∷ xs) n = refl

pub no_two : {T : Type 0} (names : NameTable) (f : Read → Read → Option T) (xs : List Sx) → length xs ≢ 3 → None ≡ with_two f (rest_of (reads names (bracketed_list (map sx_view xs))))
no_two names f [] n = refl
no_two names f (h ∷ []) n = refl
no_two names f (h ∷ a ∷ []) n = refl
no_two names f (h ∷ a ∷ b ∷ []) n = absurd (n refl)
no_two names f (h ∷ a ∷ b ∷ c ∷ xs) n = refl

pub no_three : {T : Type 0} (names : NameTable) (f : Read → Read → Read → Option T) (xs : List Sx) → length xs ≢ 4 → None ≡ with_three f (rest_of (reads names (bracketed_list (map sx_view xs))))
no_three names f [] n = refl
no_three names f (h ∷ []) n = refl
no_three names f (h ∷ a ∷ []) n = refl
no_three names f (h ∷ a ∷ b ∷ []) n = refl
no_three names f (h ∷ a ∷ b ∷ c ∷ []) n = absurd (n refl)
no_three names f (h ∷ a ∷ b ∷ c ∷ d ∷ xs) n = refl

pub no_four : {T : Type 0} (names : NameTable) (f : Read → Read → Read → Read → Option T) (xs : List Sx) → length xs ≢ 5 → None ≡ with_four f (rest_of (reads names (bracketed_list (map sx_view xs))))
no_four names f [] n = refl
no_four names f (h ∷ []) n = refl
no_four names f (h ∷ a ∷ []) n = refl
no_four names f (h ∷ a ∷ b ∷ []) n = refl
no_four names f (h ∷ a ∷ b ∷ c ∷ []) n = refl
no_four names f (h ∷ a ∷ b ∷ c ∷ d ∷ []) n = absurd (n refl)
no_four names f (h ∷ a ∷ b ∷ c ∷ d ∷ e ∷ xs) n = refl

pub ruleset counts = (no_one, no_two, no_three, no_four)

-- ---- the head

pub no_head : {H T : Type 0} (names : NameTable) (word : H → List ℕ) (hs : List H) (go : Option H → List Read → Option T) → ((rs : List Read) → go None rs ≡ None) →
    (xs : BracketedList) → first_word xs ≡ None → behind names word hs go (reads names xs) ≡ None
no_head names word hs go none NoneBracketed e = refl
no_head names word hs go none (BracketedThen (Atom w) xs) e = absurd cc
no_head names word hs go none (BracketedThen (Brackets ys) xs) e = none (reads names xs)

pub headed : {H T : Type 0} (names : NameTable) (word : H → List ℕ) (hs : List H) (go : Option H → List Read → Option T) (xs : BracketedList) (w : List ℕ) → first_word xs ≡ Some w →
    behind names word hs go (reads names xs) ≡ go (head_of word hs w) (rest_of (reads names xs))
headed names word hs go NoneBracketed w e = absurd cc
headed names word hs go (BracketedThen (Atom v) xs) w e = let same : v ≡ w = cc in ap (λ u. go (head_of word hs u) (reads names xs)) same
headed names word hs go (BracketedThen (Brackets ys) xs) w e = absurd cc

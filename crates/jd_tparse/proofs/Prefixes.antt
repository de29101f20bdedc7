-- A name and a dot before a word.
use Rattle.std.proofs.Common.{◌≡◌, ℕ, ◌+◌, true, false, nat_eq, List, [], ◌∷◌, ◌++◌, length, take, drop, Option, None, Some, MatchOption, refl, sym, ap, ◌∙◌}
use Rattle.std.specs.Bool.{Decides}
use Rattle.std.specs.Str.{bytes_eq}
use Rattle.std.specs.Borrow.{Bor}
use Rattle.std.proofs.lemmas.Bool.{eq-eqb}
use Rattle.std.proofs.lemmas.Slice.Eq.{strip_prefix_is}
use Rattle.jd_tgrammar.specs.NameTables.{member_word}
use Rattle.jd_names.proofs.Letters.{same_byte}

decides : (a b : ℕ) → Decides (nat_eq a b) (a ≡ b)
decides a b = (same_byte a b, eq-eqb a b)

rest_of : (xs ys : List ℕ) → drop (length xs) (xs ++ ys) ≡ ys
rest_of [] ys = refl
rest_of (x ∷ xs) ys = rest_of xs ys

-- what `strip_prefix` says where it finds the prefix, and where it does not
abbrev Stripped : List ℕ → List ℕ → Bor (List ℕ) → Type 0
Stripped word name x = (bytes_eq (take (length name) word) name ≡ true) × (x.now ≡ drop (length name) word) × (length x.now + length name ≡ length word)

abbrev Other : List ℕ → List ℕ → Type 0
Other word name = bytes_eq (take (length name) word) name ≡ false

module _ (name word : List ℕ) where
  pub none_behind : Other word name → (rest : List ℕ) → member_word name rest ≡ word → ⊥
  none_behind fails rest e = strip_prefix_is decides word name None fails (46 ∷ rest) (sym e)

  pub dot_behind : (x : Bor (List ℕ)) → Stripped word name x → (r : Option (Bor (List ℕ))) → MatchOption r (Other x.now (46 ∷ [])) (Stripped x.now (46 ∷ []))
      → MatchOption r ((rest : List ℕ) → member_word name rest ≡ word → ⊥) (λ rest. member_word name rest.now ≡ word)
  dot_behind x front None fails = λ rest e. strip_prefix_is decides x.now (46 ∷ []) None fails rest (front.1 ∙ ap (drop (length name)) (sym e) ∙ rest_of name (46 ∷ rest))
  dot_behind x front (Some y) dot =
      ap (λ l. name ++ l) (sym (strip_prefix_is decides x.now (46 ∷ []) (Some y) dot))
      ∙ sym (strip_prefix_is decides word name (Some x) front)

-- A search among the rows of a text's length finds what a search among all rows finds.
use Rattle.std.proofs.Common.{◌≡◌, ℕ, ◌<◌, ◌≤◌, List, [], ◌∷◌, Bool, true, false, true≢false, length, get_or, refl, sym, ap, ◌∙◌, arith, nat_eq, nat_lt, Some, None, if◌then◌else◌}
use Rattle.std.specs.List.{list_all}
use Rattle.std.specs.Str.{bytes_eq}
use Rattle.std.proofs.lemmas.Bool.{eq-eqb, eqb-true, ltb-true}
use Rattle.std.proofs.lemmas.List.FromFn.{get_or-map-range_with_len}
use Rattle.std.proofs.lemmas.Slice.Eq.{bytes_eq-Decides}
use Rattle.jd_java_tokens.specs.Words.{Table, spelled, of_length, IsByLength}

different : (a b : List ℕ) → nat_eq (length a) (length b) ≡ false → bytes_eq a b ≡ false
different a b e = by (bytes_eq a b) refl where
  by : (t : Bool) → bytes_eq a b ≡ t → bytes_eq a b ≡ false
  by true h = absurd (true≢false (sym (eq-eqb (length a) (length b) (ap length ((bytes_eq-Decides a b).0 h))) ∙ e))
  by false h = h

spelled_of_length : (rows : Table) (text : List ℕ) → spelled (of_length (length text) rows) text ≡ spelled rows text
spelled_of_length [] text = refl
spelled_of_length (row ∷ rows) text = by (spelled_of_length rows text) (nat_eq (length row.0) (length text)) refl where
  by : spelled (of_length (length text) rows) text ≡ spelled rows text → (b : Bool) → nat_eq (length row.0) (length text) ≡ b → spelled (of_length (length text) (row ∷ rows)) text ≡ spelled (row ∷ rows) text
  by rest true e = rw e (ap (λ r. if bytes_eq row.0 text then Some row.1 else r) rest)
  by rest false e = rw (e, different row.0 text e) rest

unequal : (a m n : ℕ) → nat_lt a m ≡ true → m ≤ n → nat_eq a n ≡ false
unequal a m n lt le = by (nat_eq a n) refl where
  by : (b : Bool) → nat_eq a n ≡ b → nat_eq a n ≡ false
  by true h = let less : a < m = ltb-true a m lt in let same : a ≡ n = eqb-true a n h in absurd (omega arith)
  by false h = h

none_of_length : (rows : Table) (m n : ℕ) → list_all (λ row. nat_lt (length row.0) m) rows ≡ true → m ≤ n → of_length n rows ≡ []
none_of_length [] m n all le = refl
none_of_length (row ∷ rows) m n all le = by (none_of_length rows m n) (nat_lt (length row.0) m) refl where
  by : (list_all (λ row. nat_lt (length row.0) m) rows ≡ true → m ≤ n → of_length n rows ≡ []) → (b : Bool) → nat_lt (length row.0) m ≡ b → of_length n (row ∷ rows) ≡ []
  by rest true e = rw (unequal (length row.0) m n e le) (rest (rw e at all) le)
  by rest false e = absurd (true≢false (sym (rw e at all)))

-- a text that is longer than all rows
pub longer : (rows : Table) (tables : List Table) → IsByLength rows tables → (text : List ℕ) → length tables ≤ length text → None ≡ spelled rows text
longer rows tables is text le = ap (λ ts. spelled ts text) (sym (none_of_length rows (length tables) (length text) is.none_longer le)) ∙ spelled_of_length rows text

-- a text for whose length there are rows
pub by_length : (rows : Table) (tables : List Table) → IsByLength rows tables → (text : List ℕ) → length text < length tables → spelled (get_or tables (length text) []) text ≡ spelled rows text
by_length rows tables is text lt =
    let shown : get_or tables (length text) [] ≡ of_length (length text) rows = ap (λ ts. get_or ts (length text) []) (sym is.each) ∙ get_or-map-range_with_len (λ n. of_length n rows) 0 (length tables) (length text) (length text) [] lt (omega arith) in
    rw shown (spelled_of_length rows text)

-- The texts of parameters and locals: words, which tell the name and its number.
use Rattle.std.specs.Prelude.{List, false, true, ◌<◌, ◌^◌, ◌∷◌, ◌≡◌, ◌≤◌, ℕ}
use Rattle.jd_bodies.specs.Variables.{local_text}
use Rattle.jd_model.specs.Tables.{source_name}
use Rattle.jd_names.specs.Identifiers.{is_variable_word}
use Rattle.jd_variable_words.specs.Words.{IsWord, is_literal_word}

-- of a name that is a word, with a number whose digits are written whole
pub record TextsOfLocalsAreApart : Type 0 where
  pub word : (x : List ℕ) (k : ℕ) → k < 10 ^ 64 → IsWord x → is_variable_word (local_text x k) ≡ true
  pub no_literal : (x : List ℕ) (k : ℕ) → k < 10 ^ 64 → 1 ≤ k → IsWord x → is_literal_word (local_text x k) ≡ false
  pub source : (x : List ℕ) (k : ℕ) → IsWord x → source_name (local_text x k) ≡ x
  pub apart : (x y : List ℕ) (j k : ℕ) → IsWord x → IsWord y → j < 10 ^ 64 → k < 10 ^ 64 → 1 ≤ j → 1 ≤ k → local_text x j ≡ local_text y k → (x ≡ y) × (j ≡ k)
  -- and none is that of a temporary, which begins with the mark
  pub no_temporary : (x : List ℕ) (k : ℕ) (bs : List ℕ) → IsWord x → local_text x k ≡ 39 ∷ bs → ⊥

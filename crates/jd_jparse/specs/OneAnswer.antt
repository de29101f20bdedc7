-- That tokens have one answer.
use Rattle.std.specs.Prelude.{◌≡◌, ℕ, List}
use Rattle.jd_lex.specs.Parts as lexed
use Rattle.jd_syntax.specs.JavaTrees.{JavaUnit}
use Rattle.jd_jparse.specs.Parses.{Reads, IsUnsupported, IsNoFile, IsTooDeep}

-- one tree at most; each refusal excludes what is read and the others; one token is unsupported first
pub record OneAnswer : Type 0 where
  pub one_tree : (ts : List lexed.Token) (t u : JavaUnit) → Reads ts t → Reads ts u → t ≡ u
  pub supported : (ts : List lexed.Token) (t : JavaUnit) (at : ℕ) (what : List ℕ) → Reads ts t → IsUnsupported ts at what → ⊥
  pub a_file : (ts : List lexed.Token) (t : JavaUnit) → Reads ts t → IsNoFile ts → ⊥
  pub not_too_deep : (ts : List lexed.Token) (t : JavaUnit) → Reads ts t → IsTooDeep ts → ⊥
  pub one_token : (ts : List lexed.Token) (p q : ℕ) (v w : List ℕ) → IsUnsupported ts p v → IsUnsupported ts q w → (p ≡ q) × (v ≡ w)
  pub unsupported_first : (ts : List lexed.Token) (at : ℕ) (what : List ℕ) → IsUnsupported ts at what → IsNoFile ts → ⊥
  pub unsupported_before_depth : (ts : List lexed.Token) (at : ℕ) (what : List ℕ) → IsUnsupported ts at what → IsTooDeep ts → ⊥
  pub no_file_is_not_deep : (ts : List lexed.Token) → IsNoFile ts → IsTooDeep ts → ⊥

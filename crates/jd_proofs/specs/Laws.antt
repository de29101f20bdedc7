-- The laws of outcomes.
use Rattle.std.specs.Prelude.{◌≡◌, ℕ, List}
use Rattle.jd_bracketed.specs.Tokens.{tokens_of}
use Rattle.jd_proofs.specs.Outcomes.{Outcome, IsOutcome}

-- a text has an outcome, and no two
pub record OneOutcome : Type 0 where
  pub some : (names : List (List ℕ)) (bytes : List ℕ) → (o : Outcome) × IsOutcome names (tokens_of bytes) o
  pub one : (names : List (List ℕ)) (bytes : List ℕ) (o other : Outcome) → IsOutcome names (tokens_of bytes) o → IsOutcome names (tokens_of bytes) other → o ≡ other

-- Nodes for which nothing has to be taken off a fold's stack but parts that are nothing, as of levels of expressions without an
-- operator of theirs.
use Rattle.std.specs.Prelude.{◌≡◌, ℕ, suc, List}
use Rattle.jd_java_tokens.specs.Contents.{PlainLexeme}
use Rattle.jd_java_attributes.specs.declared.form.Form.{Form}
use Rattle.jd_java_attributes.specs.declared.rows.Rule.{Rule}
use Rattle.jd_java_attributes.specs.Folding.{IsSettled, alone}
use Rattle.jd_java_attributes.specs.Rules.{made, with_high}

-- a production with so many names behind the first, whose nodes have the form of the first part where that is settled and nothing
-- stands behind it
pub record IsLevel (row : ℕ × ℕ × Rule) (n : ℕ) : Type 0 where
  pub names : row.1 ≡ suc n
  pub keeps : (f : Form) → IsSettled f → (ts : List PlainLexeme) → with_high ts (made row.2 row.0 ts (alone f)) ≡ f

-- That large clauses make large sequents.
use Rattle.std.specs.Prelude.{ℕ, List}
use Rattle.jd_syntax.specs.JavaTrees.{JavaUnit}
use Rattle.jd_model.specs.Programs.{Body, Program}
use Rattle.jd_sequent.specs.Limits.{IsWithinLimits}
use Rattle.jd_jml_meaning.specs.ContractFormulas.{contract_of}
use Rattle.jd_jml_meaning.specs.JmlCases.{JmlCase}
use Rattle.jd_case_rows.specs.Rows.{spelled_for}
use Rattle.jd_case_clauses.specs.Whole.{IsTooLarge}
use Rattle.jd_case_obligations.specs.Listed.{case_sequent}

-- a formula may have so many nodes
abbrev pub node_limit : ℕ
node_limit = 100000

abbrev pub LargeClausesMakeLargeSequents : Type 0
LargeClausesMakeLargeSequents =
    (units : List JavaUnit) (p : Program) (fields : ℕ → List ℕ) (c : JmlCase) (b : Body)
    → IsTooLarge node_limit (contract_of p (spelled_for b c.contract)) → IsWithinLimits (case_sequent units p fields c b) → ⊥

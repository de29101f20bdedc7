-- The contract of a case that is written at a declaration.
use Rattle.std.specs.Prelude.{ℕ}
use Rattle.jd_syntax.specs.JavaTrees.{JavaMethod}
use Rattle.jd_bodies.specs.Declarations.{Declarations}
use Rattle.jd_model.specs.Cases.{Contract}
use Rattle.jd_model.specs.Programs.{Body, Program}
use Rattle.jd_case_rows.specs.Rows.{spelled_for}
use Rattle.jd_jml_meaning.specs.ContractFormulas.{contract_of}
use Rattle.jd_jml_written.specs.Marked.{PlainCase}
use Rattle.jd_specifications.specs.WrittenCases.{contract}

-- as formulas, in the names of this body
abbrev pub contract_for : Program → Body → Declarations → ℕ → JavaMethod → PlainCase → Contract
contract_for p b d class m c = contract_of p (spelled_for b (contract d class m c.clauses))

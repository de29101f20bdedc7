-- What holds of the locations that a case may assign.
use Rattle.std.specs.Prelude.{ℕ, List}
use Rattle.jd_syntax.specs.JavaTrees.{JavaMethod}
use Rattle.jd_syntax.specs.SpecTrees.{PlainClause}
use Rattle.jd_term.specs.Shifts.{LocFits}
use Rattle.jd_bodies.specs.Declarations.{Declarations}
use Rattle.jd_model.specs.Programs.{Body, Program}
use Rattle.jd_jml_meaning.specs.ContractFormulas.{contract_of}
use Rattle.jd_specifications.specs.WrittenCases.{contract}
use Rattle.jd_case_rows.specs.Rows.{spelled_for}

-- they can be shifted under the two binders of a frame's condition
abbrev pub FramesFit : Type 0
FramesFit = (d : Declarations) (p : Program) (class : ℕ) (t : JavaMethod) (cs : List PlainClause) (b : Body) → LocFits 0 2 (contract_of p (spelled_for b (contract d class t cs))).assignable

-- A class's invariants as formulas of `@heap` and `#r_this`.
use Rattle.std.specs.Prelude.{ℕ, pos, List, map}
use Rattle.jd_syntax.specs.CodeNames.{heap_name}
use Rattle.jd_term.specs.Terms as terms
use Rattle.jd_term.specs.Formulas.{PlainFormula}
use Rattle.jd_model.specs.SpecialNames.{receiver}
use Rattle.jd_model.specs.Programs.{Program}
use Rattle.jd_model.specs.Truth.{Setting}
use Rattle.jd_jml_meaning.specs.Resolved.{JmlExpr}
use Rattle.jd_jml_meaning.specs.Meaning.{Now}
use Rattle.jd_jml_meaning.specs.Translation.{Spelling, formula}

abbrev pub invariant_spelling : Spelling
invariant_spelling = record {
  heap = λ t. terms.ProgramVariable heap_name;
  argument = λ t k. terms.Number (pos 0);
  this = terms.Constant receiver;
  result = terms.Number (pos 0);
  thrown = terms.NullTerm;
}

abbrev pub invariant_formulas : Program → List JmlExpr → List PlainFormula
invariant_formulas p es = map (formula p invariant_spelling Now) es

-- a program with the invariants that its classes declare themselves
abbrev pub setting_of : Program → (ℕ → List JmlExpr) → Setting
setting_of p own = record { program = p; invariants = λ c. invariant_formulas p (own c) }

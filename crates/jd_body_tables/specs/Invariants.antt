-- The rows of invariants, of what is listed of each class.
use Rattle.std.specs.Prelude.{ℕ, suc, List, [], ◌∷◌, flat_map, map}
use Rattle.jd_syntax.specs.SpecTrees.{PlainSpec}
use Rattle.jd_term.specs.Formulas.{PlainFormula}
use Rattle.jd_bodies.specs.Declarations.{Declarations}
use Rattle.jd_bodies.specs.declared.value.ValueType.TheVariants.{Missing}
use Rattle.jd_model.specs.ContractForms.{PlainInvariant}
use Rattle.jd_model.specs.Programs.{Program}
use Rattle.jd_jml_meaning.specs.InvariantFormulas.{invariant_spelling}
use Rattle.jd_jml_meaning.specs.Meaning.{Now}
use Rattle.jd_jml_formulas.specs.Meant.{formula_meant}
use Rattle.jd_jml_formulas.specs.declared.whole.Unmade.{Unmade}
use Rattle.jd_case_clauses.specs.Said.{TellsOfOne}

module _ (p : Program) (d : Declarations) where
  -- what an invariant of the class stands for
  abbrev pub invariant_meant : ℕ → PlainSpec → PlainFormula
  invariant_meant class e = formula_meant p d class Missing invariant_spelling Now [] e

  abbrev pub formulas_meant : ℕ → List PlainSpec → List PlainFormula
  formulas_meant class es = map (invariant_meant class) es

  abbrev pub row_meant : ℕ → List PlainSpec → PlainInvariant
  row_meant class es = record { class = class; formulas = formulas_meant class es }

  -- of classes that are numbered from this number on
  abbrev pub rows_from : ℕ → List (List PlainSpec) → List PlainInvariant
  rows_from class [] = []
  rows_from class (es ∷ ess) = row_meant class es ∷ rows_from (suc class) ess

abbrev pub all_formulas : List PlainInvariant → List PlainFormula
all_formulas rows = flat_map (λ (r : PlainInvariant). r.formulas) rows

-- where the cause is that a formula is too large, one of the invariants' is
abbrev pub TellsOfInvariants : ℕ → List PlainInvariant → Unmade → Type 0
TellsOfInvariants limit rows u = TellsOfOne limit (all_formulas rows) u

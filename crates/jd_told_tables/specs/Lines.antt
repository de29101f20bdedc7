-- A class and those above it, in the form of the code.
use Rattle.std.specs.Prelude.{List, None, Option, Some, [], ◌++◌, ◌∷◌, suc, zero, ℕ}
use Rattle.jd_ancestry.specs.Walks.{parent_of}
use Rattle.jd_model.specs.Renamings.{rename_all}
use Rattle.jd_term.specs.Formulas.{PlainFormula}
use Rattle.jd_term.specs.Renamings.{Renaming}

-- what is above, where there is a class
abbrev pub up_from : (ℕ → List ℕ) → Option ℕ → List ℕ
up_from next None = []
up_from next (Some c) = next c

-- so many classes from this one up
abbrev pub line_up : List (Option ℕ) → ℕ → ℕ → List ℕ
line_up parents zero c = []
line_up parents (suc n) c = c ∷ up_from (line_up parents n) (parent_of parents c)

-- what these classes have of invariants with names replaced, the last class first
abbrev pub renamed_along : Renaming → (ℕ → List PlainFormula) → List ℕ → List PlainFormula
renamed_along r own [] = []
renamed_along r own (c ∷ cs) = renamed_along r own cs ++ rename_all r (own c)

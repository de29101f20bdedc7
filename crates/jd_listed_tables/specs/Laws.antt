-- What holds of the lists.
use Rattle.std.specs.Prelude.{◌≡◌, ℕ, List}
use Rattle.jd_syntax.specs.JavaTrees.{JavaUnit}
use Rattle.jd_bodies.specs.Declarations.{Declarations}
use Rattle.jd_model.specs.Programs.{Program}
use Rattle.jd_programs.specs.Cases.{all_cases}
use Rattle.jd_listed_tables.specs.Listed.{rows_of}

-- the rows are the same, whatever families the methods have
abbrev pub FamiliesPlayNoPart : Type 0
FamiliesPlayNoPart =
    (units : List JavaUnit) (lineage : ℕ → List ℕ) (d : Declarations) (p : Program) (fields : ℕ → List ℕ) (f g : ℕ → ℕ)
    → rows_of p fields (all_cases units lineage d f) ≡ rows_of p fields (all_cases units lineage d g)

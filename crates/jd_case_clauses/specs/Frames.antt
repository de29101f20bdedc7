-- The measure and the locations that clauses say.
use Rattle.std.specs.Prelude.{ℕ, Bool, true, false, cond, List, [], flat_map, Option, Some, None}
use Rattle.std.specs.List.{list_any}
use Rattle.jd_term.specs.Terms.{PlainLoc}
use Rattle.jd_bodies.specs.Declarations.{Declarations}
use Rattle.jd_bodies.specs.declared.value.ValueType.{ValueType}
use Rattle.jd_model.specs.Programs.{Program}
use Rattle.jd_jml_formulas.specs.Meant.{locations_meant}
use Rattle.jd_jml_meaning.specs.Meaning.{Before}
use Rattle.jd_jml_meaning.specs.Translation.{Spelling, locations}
use Rattle.jd_specifications.specs.Resolution.{Entry}
use Rattle.jd_specifications.specs.WrittenCases.{assignable_else}
use Rattle.jd_syntax.specs.SpecTrees.{PlainSpec, PlainLocation, PlainClause, Assignable, MeasuredBy}

abbrev pub measured_in : PlainClause → Option PlainSpec
measured_in (MeasuredBy at e) = Some e
measured_in c = None

abbrev pub is_assignable : PlainClause → Bool
is_assignable (Assignable at ls) = true
is_assignable c = false

abbrev pub assignable_in : PlainClause → List PlainLocation
assignable_in (Assignable at ls) = ls
assignable_in c = []

-- those of all clauses are one list
abbrev pub all_assignable : List PlainClause → List PlainLocation
all_assignable cs = flat_map assignable_in cs

abbrev pub says_assignable : List PlainClause → Bool
says_assignable cs = list_any is_assignable cs

-- what may be assigned, as a location set at the entry
abbrev pub assignable_term : Program → Declarations → ℕ → ValueType → Spelling → List Entry → Bool → Bool → List PlainClause → PlainLoc
assignable_term p d class r sp es pure constructor cs =
    cond (says_assignable cs) (locations_meant p d class r sp Before es (all_assignable cs)) (locations p sp Before (assignable_else d pure constructor))

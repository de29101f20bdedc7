-- What rows are made by: a program, and what is listed of its methods.
use Rattle.std.specs.Prelude.{◌≡◌, ◌<◌, ℕ, List, length, map, Some, None}
use Rattle.std.specs.List.{slice_get}
use Rattle.jd_syntax.specs.JavaTrees.{JavaUnit}
use Rattle.jd_jclasses.specs.Classes.{parents}
use Rattle.jd_bodies.specs.Bodies.{PlainBody}
use Rattle.jd_bodies.specs.Declarations.{Declarations}
use Rattle.jd_model.specs.Programs.{Body, Program, field_sort}
use Rattle.jd_jml_cases.specs.Cases.{lineage, method_cases}
use Rattle.jd_jml_known.specs.Members.{FieldsHaveSorts}
use Rattle.jd_jmlcheck.specs.Specified.{PlainMethodSpec}
use Rattle.jd_programs.specs.Programs.{variable_name}
use Rattle.jd_case_tables.specs.Fielded.{all_sorted}
use Rattle.jd_case_tables.specs.Placed.{MarksStand, Place, among_parameters, cases_in, place_at, variables_in}

-- the program has these fields, and what is thrown is of this class
pub record IsKnown (units : List JavaUnit) (d : Declarations) (p : Program) (fields : ℕ → List ℕ) (throwable : ℕ) : Type 0 where
  pub sorts : FieldsHaveSorts d p
  pub thrown : p.throwable ≡ throwable
  pub listed : (m : ℕ) (w : Place) → place_at units m ≡ Some w → all_sorted units d (lineage units w.0) ≡ map (λ f. (f, field_sort p f)) (fields w.0)
  -- a declaration's class is one of the program's
  pub within : (m : ℕ) (w : Place) → place_at units m ≡ Some w → w.0 < length (parents units)

-- these are the cases and the bodies of its methods
pub record AreListed (units : List JavaUnit) (p : Program) (specs : List PlainMethodSpec) (bodies : List PlainBody) : Type 0 where
  pub cases : (m : ℕ) → cases_in (slice_get specs m) ≡ method_cases units m
  pub marks : (m : ℕ) → MarksStand units (method_cases units m)
  pub runs : (m : ℕ) (w : Place) → place_at units m ≡ Some w
      → (b : Body) × (p.body m ≡ Some b) × (b.parameters ≡ map variable_name (among_parameters w.1 (variables_in (slice_get bodies m))))
  pub no_body : (m : ℕ) → place_at units m ≡ None → p.body m ≡ None

-- Which constructors and methods a class runs, and their cases.
use Rattle.std.specs.Prelude.{ℕ, List, ◌++◌, flat_map, length, map}
use Rattle.std.specs.List.{range_with_len}
use Rattle.jd_syntax.specs.JavaTrees.{JavaUnit}
use Rattle.jd_jclasses.specs.Classes.{parents}
use Rattle.jd_bodies.specs.Declarations.{Declarations}
use Rattle.jd_jml_cases.specs.Cases.{lineage, method_cases}
use Rattle.jd_jml_cases.specs.Laws.{contract_of_case}
use Rattle.jd_jml_meaning.specs.JmlCases.{JmlCase}
use Rattle.jd_jml_meaning.specs.JmlContracts.{JmlContract}
use Rattle.jd_programs.specs.Cases.{numbered}
use Rattle.jd_programs.specs.Members.{constructors_run, methods_seen}
use Rattle.jd_case_tables.specs.declared.runs.Run.{Run}

-- the class and the method or constructor
abbrev pub run_view : Run → ℕ × ℕ
run_view r = (r.class.0, r.method.0)

abbrev pub runs_with : ℕ → List ℕ → List (ℕ × ℕ)
runs_with class ms = map (λ m. (class, m)) ms

module _ (units : List JavaUnit) (d : Declarations) where
  abbrev pub class_runs : ℕ → List (ℕ × ℕ)
  class_runs c = runs_with c (constructors_run units (lineage units) c) ++ runs_with c (methods_seen units (lineage units) d c)

  -- of each class those that run for it
  abbrev pub all_runs : List (ℕ × ℕ)
  all_runs = flat_map class_runs (range_with_len 0 (length (parents units)))

  abbrev pub contracts_at : ℕ → List JmlContract
  contracts_at m = flat_map (contract_of_case units d) (method_cases units m)

  -- no family is a part of a row
  abbrev pub cases_of_run : ℕ × ℕ → List JmlCase
  cases_of_run r = numbered units (lineage units) d (λ m. m) 1 r.0 r.1 (contracts_at r.1)

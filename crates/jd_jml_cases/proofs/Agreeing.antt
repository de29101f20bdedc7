-- Cases stand for contracts.
use Rattle.std.proofs.Common.{◌≡◌, ℕ, Bool, true, false, ◌||◌, cond, List, [], ◌∷◌, ◌++◌, map, Option, Some, None, refl, sym, ap, ap₂, ◌∙◌, slice_get, flat_map}
use Rattle.std.proofs.lemmas.Grind.{flat_map-append}
use Rattle.jd_syntax.specs.JavaTrees.{JavaUnit}
use Rattle.jd_syntax.specs.SpecTrees.{PlainClause}
use Rattle.jd_jclasses.specs.Members.{Declared, Kind, FieldOf, ConstantOf, RoutineOf, is_constructor, is_static}
use Rattle.jd_jclasses.specs.Methods.{routines}
use Rattle.jd_bodies.specs.Declarations.{Declarations}
use Rattle.jd_jml_meaning.specs.JmlContracts.{JmlContract}
use Rattle.jd_specifications.specs.WrittenCases as trees
use Rattle.jd_specifications.specs.WrittenCases.{contract}
use Rattle.jd_programs.specs.Cases as programs
use Rattle.jd_programs.specs.Members.{declared_as, declared_static, name_of}
use Rattle.jd_jml_written.specs.Marked.{PlainMarks, case_of, marks_of}
use Rattle.jd_jml_cases.specs.Cases.{cases_of_declared, cases_of_kind, cases_of_routine, inherited, lineage, written_at}
use Rattle.jd_jml_cases.specs.Laws.{CasesAreContracts, WrittenAreContracts, contract_of_case, contract_of_declared, contract_of_kind}

module _ (units : List JavaUnit) (d : Declarations) where
  each : (m : ℕ) (ms : PlainMarks) (f : List PlainClause → JmlContract) → ((cs : List PlainClause) → contract_of_declared d (slice_get (routines units) m) cs ≡ f cs ∷ []) → (css : List (List PlainClause)) → map f css ≡ flat_map (contract_of_case units d) (map (case_of m ms) css)
  each m ms f one [] = refl
  each m ms f one (cs ∷ css) = ap₂ ◌++◌ (sym (one cs)) (each m ms f one css)

  of_kind : (m : ℕ) (r : Declared) (k : Kind) → slice_get (routines units) m ≡ Some r → r.kind ≡ k → programs.contracts_of_kind d r.class k ≡ flat_map (contract_of_case units d) (cases_of_kind m k)
  of_kind m r (FieldOf t) there is = refl
  of_kind m r (ConstantOf n) there is = refl
  of_kind m r (RoutineOf t) there is =
      each m (marks_of t) (contract d r.class t)
      (λ cs. ap (λ (o : Option Declared). contract_of_declared d o cs) there ∙ ap (λ (k : Kind). contract_of_kind d r.class k cs) is)
      (trees.cases_of t.specs)

  of_declared : (m : ℕ) (o : Option Declared) → slice_get (routines units) m ≡ o → programs.contracts_of_declared d o ≡ flat_map (contract_of_case units d) (cases_of_declared m o)
  of_declared m None there = refl
  of_declared m (Some r) there = of_kind m r r.kind there refl

  written : (m : ℕ) → programs.written_at units (lineage units) d m ≡ flat_map (contract_of_case units d) (written_at units m)
  written m = of_declared m (slice_get (routines units) m) refl

  all : (ms : List ℕ) → flat_map (programs.written_at units (lineage units) d) ms ≡ flat_map (contract_of_case units d) (flat_map (written_at units) ms)
  all [] = refl
  all (m ∷ ms) = ap₂ ◌++◌ (written m) (all ms) ∙ sym (flat_map-append (contract_of_case units d) (written_at units m) (flat_map (written_at units) ms))

  abbrev theirs : ℕ → ℕ → Bool → List ℕ → List JmlContract
  theirs m class static name = cond static (programs.written_at units (lineage units) d m) (flat_map (programs.written_at units (lineage units) d) (flat_map (declared_as units name) (lineage units class)))

  by_static : (m class : ℕ) (name : List ℕ) (s b : Bool) → b ≡ false → theirs m class s name ≡ flat_map (contract_of_case units d) (cond (s || b) (written_at units m) (inherited units name class))
  by_static m class name true b is = written m
  by_static m class name false b is =
      all (flat_map (declared_as units name) (lineage units class))
      ∙ ap (λ (c : Bool). flat_map (contract_of_case units d) (cond c (written_at units m) (inherited units name class))) (sym is)

pub written_are_contracts : WrittenAreContracts
written_are_contracts units d m = written units d m

pub cases_are_contracts : CasesAreContracts
cases_are_contracts units d m r there not_built =
    ap (λ (o : Option Declared). theirs units d m r.class (declared_static o) (name_of o)) there
    ∙ by_static units d m r.class r.name.name (is_static r.kind) (is_constructor r.kind) not_built
    ∙ ap (λ (o : Option Declared). flat_map (contract_of_case units d) (cases_of_routine units m o)) (sym there)

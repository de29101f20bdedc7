-- Each case of a program whose obligations are closed is kept.
use Rattle.std.proofs.Common.{◌≡◌, ℕ, Bool, true, false, cond, List, [], ◌∷◌, map, flat_map, Option, Some, None, option_map, refl, sym, ap, subst, ◌∙◌}
use Rattle.std.specs.List.{slice_get}
use Rattle.jd_syntax.specs.JavaTrees.{JavaMethod, JavaUnit}
use Rattle.jd_jclasses.specs.Members.{Declared, Kind, FieldOf, ConstantOf, RoutineOf}
use Rattle.jd_jclasses.specs.Methods.{routines}
use Rattle.jd_model.specs.Cases.{Case, Parameter}
use Rattle.jd_model.specs.ContractForms.{PlainContracts}
use Rattle.jd_model.specs.EntryExit.{constants_of}
use Rattle.jd_model.specs.Occurrences.{AllApart}
use Rattle.jd_model.specs.Sequents.{PlainSequent}
use Rattle.jd_model.specs.SpecialNames.{entry_heap, receiver}
use Rattle.jd_model.specs.Tables.{TablesStandFor}
use Rattle.jd_sequent.specs.TaskMeaning.{StepIsSoundIn}
use Rattle.jd_oblig.specs.ClosedTasks.{EveryClosedCaseIsKept}
use Rattle.jd_oblig.specs.KeptByObligations.{IsMadeOfRow}
use Rattle.jd_bodies.specs.Declarations.{Declarations}
use Rattle.jd_bodies.specs.Refused.{first_fault}
use Rattle.jd_resolved_bodies.specs.Laws.{BodiesAreResolved, ConstantsFit}
use Rattle.jd_jml_meaning.specs.JmlContracts.{JmlContract}
use Rattle.jd_jml_meaning.specs.JmlCases.{JmlCase, JmlKept, JmlProgram, case_of, specified}
use Rattle.jd_jml_meaning.specs.Laws.{CasesAreKeptAlike, HasOwnConstants}
use Rattle.jd_specifications.specs.WrittenCases.{cases_of, contract, parameter}
use Rattle.jd_programs.specs.Cases.{all_cases, contracts_of_declared, contracts_of_kind, inherited, written_at}
use Rattle.jd_programs.specs.Members.{declared_as, routine_name, static_routine}
use Rattle.jd_programs.specs.Programs.{IsProgram}
use Rattle.jd_declared.proofs.Lists.{In, at_place, in_map}
use Rattle.jd_program_laws.specs.Laws.{AreLexicalMethods, HaveParameterNames}
use Rattle.jd_program_laws.proofs.Bodies.{accepted, all_resolved}
use Rattle.jd_program_laws.proofs.Cases.{Origin, comes}
use Rattle.jd_program_laws.proofs.Cases.Origin.{of_constructor, of_method}
use Rattle.jd_program_laws.proofs.Constants as constants_apart
use Rattle.jd_program_laws.proofs.Families.{reach}
use Rattle.jd_program_laws.proofs.Lists.{from_flat}

module _ (units : List JavaUnit) (j : JmlProgram) (is : IsProgram units j) where
  abbrev lineage : ℕ → List ℕ
  lineage = j.program.superclasses

  abbrev d : Declarations
  d = is.declarations

  -- the method at which a contract is written
  record Written (x : JmlContract) : Type 0 where
    m : ℕ
    it : Declared
    tree : JavaMethod
    there : slice_get (routines units) m ≡ Some it
    kind : it.kind ≡ RoutineOf tree
    parameters_ : x.parameters ≡ map (parameter d) tree.parameters

  by_kind : (m : ℕ) (r : Declared) (k : Kind) (x : JmlContract) → slice_get (routines units) m ≡ Some r → r.kind ≡ k → In x (contracts_of_kind d r.class k) → Written x
  by_kind m r (FieldOf t) x there kind h = absurd h
  by_kind m r (ConstantOf n) x there kind h = absurd h
  by_kind m r (RoutineOf t) x there kind h =
      let c = in_map (contract d r.class t) (cases_of t.specs) x h in
      record { m = m; it = r; tree = t; there = there; kind = kind; parameters_ = ap (λ (y : JmlContract). y.parameters) (sym c.2) }

  by_routine : (m : ℕ) (o : Option Declared) (x : JmlContract) → slice_get (routines units) m ≡ o → In x (contracts_of_declared d o) → Written x
  by_routine m None x there h = absurd h
  by_routine m (Some r) x there h = by_kind m r r.kind x there refl h

  by_static : (c m : ℕ) (x : JmlContract) (b : Bool) → In x (cond b (written_at units lineage d m) (inherited units lineage d c m)) → Written x
  by_static c m x true h = by_routine m (slice_get (routines units) m) x refl h
  by_static c m x false h =
      let r = from_flat (written_at units lineage d) (flat_map (declared_as units (routine_name units m)) (lineage c)) x h in
      by_routine r.0 (slice_get (routines units) r.0) x refl r.2

  by_origin : (c m : ℕ) (x : JmlContract) → Origin units lineage d is.family c m x → Written x
  by_origin c m x (of_constructor run has) = by_routine m (slice_get (routines units) m) x refl has
  by_origin c m x (of_method among has) = by_static c m x (static_routine units m) has

  module _ (named : HaveParameterNames units) (none : first_fault d units ≡ None) where
    pub own_constants : (c : JmlCase) → In c (all_cases units lineage d is.family) → HasOwnConstants c.contract
    own_constants c h =
        let from = comes units lineage d is.family c h in
        let w = by_origin from.c from.m from.x from.origin in
        let a = accepted d units none w.m w.it w.tree w.there w.kind in
        subst (λ (ps : List Parameter). AllApart (entry_heap ∷ receiver ∷ constants_of ps)) (sym (ap (λ (x : JmlContract). x.parameters) from.is.contract ∙ w.parameters_))
        (constants_apart.of_method d w.it.class w.tree a.0 (named w.m w.it w.tree w.there w.kind) a.1)

pub kept : BodiesAreResolved → CasesAreKeptAlike → EveryClosedCaseIsKept
    → (units : List JavaUnit) → AreLexicalMethods units → HaveParameterNames units → (j : JmlProgram) (is : IsProgram units j) → ConstantsFit is.declarations → first_fault is.declarations units ≡ None
    → (t : PlainContracts) → TablesStandFor t (specified j) → (obligation : ℕ → PlainSequent)
    → ((κ : ℕ) (c : Case) → (specified j).case κ ≡ Some c → IsMadeOfRow t (specified j) κ c (obligation κ))
    → ((κ : ℕ) (c : Case) → (specified j).case κ ≡ Some c → StepIsSoundIn (specified j) c (obligation κ) [])
    → (κ : ℕ) (c : JmlCase) → j.case κ ≡ Some c → JmlKept j c
kept bodies alike closed units lexical named j is constants none t tables obligation made steps κ c e =
    (alike j c (own_constants units j is named none c (at_place (all_cases units j.program.superclasses is.declarations is.family) κ c (sym (is.cases κ) ∙ e)))).0
    (closed (specified j) (all_resolved bodies units lexical j is constants none) (reach units j is) t tables obligation made steps κ (case_of j.program c) (ap (option_map (case_of j.program)) e))

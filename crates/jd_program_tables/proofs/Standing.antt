-- Tables of rows that are made of a program's cases stand for it.
use Rattle.std.proofs.Common.{◌≡◌, inl, inr, ℕ, Bool, true, false, cond, List, [], ◌∷◌, map, flat_map, Option, Some, None, option_map, refl, sym, ap, subst, ◌∙◌}
use Rattle.std.specs.List.{slice_get}
use Rattle.std.specs.Option.{option_and_then}
use Rattle.std.proofs.lemmas.Option.{same_Some, none-some}
use Rattle.jd_syntax.specs.JavaTrees.{JavaMethod, JavaUnit}
use Rattle.jd_jclasses.specs.Classes.{IsAncestor, IsSubclass}
use Rattle.jd_jclasses.specs.Laws.{OneMethod}
use Rattle.jd_jclasses.specs.Members.{Declared, Kind, FieldOf, ConstantOf, RoutineOf, parameter_types}
use Rattle.jd_jclasses.specs.Methods.{IsSeen, routines}
use Rattle.jd_jclasses.specs.Refusals.{AreClasses}
use Rattle.jd_jseen.proofs.Routines.{routines_are_members}
use Rattle.jd_model.specs.ContractForms.{PlainCase, PlainContracts}
use Rattle.jd_model.specs.Programs.{Body}
use Rattle.jd_model.specs.EntryExit.{constants_of}
use Rattle.jd_model.specs.Occurrences.{AllApart}
use Rattle.jd_model.specs.SpecialNames.{entry_heap, entry_measure, receiver}
use Rattle.jd_model.specs.Tables.{CaseAt, CaseStandsFor, SortsOf, TablesStandFor, constants_of_parameters}
use Rattle.jd_bodies.specs.Declarations.{Declarations}
use Rattle.jd_bodies.specs.Refused as bodies
use Rattle.jd_specifications.specs.Refused as jml
use Rattle.jd_specifications.specs.WrittenCases.{cases_of, contract, contracts, parameter}
use Rattle.jd_jml_meaning.specs.JmlContracts.{JmlContract}
use Rattle.jd_jml_meaning.specs.JmlCases.{JmlCase, JmlProgram, case_of, specified}
use Rattle.jd_case_rows.specs.Laws.{AreFieldLists, AreTyped, FitsBody, RowsStand}
use Rattle.jd_case_rows.specs.Speaking.{ContractSpeaks}
use Rattle.jd_spoken.specs.Laws.{AllContractsSpeak, ContractsSpeak}
use Rattle.jd_programs.specs.Cases.{all_cases, contracts_of_declared, contracts_of_kind, inherited, written_at}
use Rattle.jd_programs.specs.Members.{declared_as, name_of, own, routine_name, static_routine}
use Rattle.jd_programs.specs.Programs.{IsProgram, body_of_declared, body_of_kind, body_with}
use Rattle.jd_declared.proofs.Lists.{In, at_place, in_filter_map, in_map}
use Rattle.jd_program_laws.specs.Laws.{HaveParameterNames}
use Rattle.jd_program_laws.proofs.Bodies as accepted_bodies
use Rattle.jd_program_laws.proofs.Cases.{Comes, Origin, comes}
use Rattle.jd_program_laws.proofs.Cases.Origin.{of_constructor, of_method}
use Rattle.jd_program_laws.proofs.Constants as constants_apart
use Rattle.jd_program_laws.proofs.Families.{seen_there, sees}
use Rattle.jd_program_laws.proofs.Kept.{own_constants}
use Rattle.jd_program_laws.proofs.Lineages.{above_it}
use Rattle.jd_program_laws.proofs.Lists.{from_flat}
use Rattle.jd_program_laws.proofs.Members.{OwnMethod, declared_there, one_in_class, own_constructor}
use Rattle.jd_program_tables.specs.Made.{AreMadeOf, RowAt}
use Rattle.jd_program_tables.proofs.Accepted.{accepted}
use Rattle.jd_program_tables.proofs.Parameters.{parameters_apart, parameters_sorted, parameters_typed}
use Rattle.jd_program_tables.proofs.Types.{not_apart}

-- one of contracts that all speak of what they may
one_speaks : (x : JmlContract) (cs : List JmlContract) → AllContractsSpeak cs → In x cs → ContractSpeaks x
one_speaks x [] h k = absurd k
one_speaks x (c ∷ cs) h (inl same) = subst ContractSpeaks (sym same) h.0
one_speaks x (c ∷ cs) h (inr behind) = one_speaks x cs h.1 behind

module _ (methods : OneMethod) (units : List JavaUnit) (are : AreClasses units) (j : JmlProgram) (is : IsProgram units j) where
  abbrev lineage : ℕ → List ℕ
  lineage = j.program.superclasses

  abbrev d : Declarations
  d = is.declarations

  -- a method or constructor at which a contract is written
  record Written (x : JmlContract) : Type 0 where
    m : ℕ
    it : Declared
    tree : JavaMethod
    there : slice_get (routines units) m ≡ Some it
    kind : it.kind ≡ RoutineOf tree
    has : In x (contracts d it.class tree)

  by_kind : (m : ℕ) (r : Declared) (k : Kind) (x : JmlContract) → slice_get (routines units) m ≡ Some r → r.kind ≡ k → In x (contracts_of_kind d r.class k) → (w : Written x) × (w.it ≡ r)
  by_kind m r (FieldOf t) x there kind h = absurd h
  by_kind m r (ConstantOf n) x there kind h = absurd h
  by_kind m r (RoutineOf t) x there kind h = (record { m = m; it = r; tree = t; there = there; kind = kind; has = h }, refl)

  written_there : (m : ℕ) (o : Option Declared) (r : Declared) (x : JmlContract) → slice_get (routines units) m ≡ o → o ≡ Some r → In x (contracts_of_declared d o) → (w : Written x) × (w.it ≡ r)
  written_there m None r x there e h = absurd h
  written_there m (Some q) r x there e h =
      let w = by_kind m q q.kind x there refl h in (w.0, w.1 ∙ same_Some q r e)

  -- the method that runs, and the one at which the contract is written, with the same types of parameters
  record Runs (m : ℕ) (x : JmlContract) : Type 0 where
    it : Declared
    there : slice_get (routines units) m ≡ Some it
    written : Written x
    types : parameter_types it.kind ≡ parameter_types written.it.kind

  same_types : (a b m n : ℕ) (o : OwnMethod units a m) (p : OwnMethod units b n) → routine_name units n ≡ routine_name units m → IsSubclass units a b → parameter_types o.it.kind ≡ parameter_types p.it.kind
  same_types a b m n o p e (inl same) =
      let q : OwnMethod units a n = record { it = p.it; there = p.there; method = p.method; class = p.class ∙ sym same } in
      let one = one_in_class units methods are a m n o q e in
      ap (λ (r : Declared). parameter_types r.kind) (same_Some o.it p.it (sym o.there ∙ ap (slice_get (routines units)) one ∙ p.there))
  same_types a b m n o p e (inr above) =
      let one = routines_are_members units m o.it o.there in
      let other = routines_are_members units n p.it p.there in
      sym (not_apart (parameter_types p.it.kind) (parameter_types o.it.kind) (λ apart. are.members.overloads one.0 (inr (record {
        place = other.0;
        other = p.it;
        one = o.it;
        other_there = other.1;
        there = one.1;
        holds = (
          subst (λ x. IsAncestor units x o.it.class) (sym p.class) (subst (IsAncestor units b) (sym o.class) above),
          (p.method, o.method, ap name_of (sym p.there) ∙ e ∙ ap name_of o.there),
          apart,
        );
      }))))

  at_itself : (m : ℕ) (r : Declared) (x : JmlContract) → slice_get (routines units) m ≡ Some r → In x (written_at units lineage d m) → Runs m x
  at_itself m r x there h =
      let w = written_there m (slice_get (routines units) m) r x refl there h in
      record { it = r; there = there; written = w.0; types = ap (λ (q : Declared). parameter_types q.kind) (sym w.1) }

  above : (c m : ℕ) (name : List ℕ) (x : JmlContract) (s : IsSeen units c name m) → In x (inherited units lineage d c m) → Runs m x
  above c m name x s h =
      let r = from_flat (written_at units lineage d) (flat_map (declared_as units (routine_name units m)) (lineage c)) x h in
      let q = from_flat (declared_as units (routine_name units m)) (lineage c) r.0 r.1 in
      let o = declared_there units q.0 m r.0 q.2 in
      let named : routine_name units m ≡ name = ap name_of s.declared.there ∙ s.declared.holds.2 in
      let up = s.nearest q.0 r.0 (above_it units j.program is.classes c q.0 q.1) (record { routine = o.0.it; there = o.0.there; holds = (o.0.method, o.0.class, sym (ap name_of o.0.there) ∙ o.1 ∙ named) }) in
      let w = written_there r.0 (slice_get (routines units) r.0) o.0.it x refl o.0.there r.2 in
      let its : OwnMethod units s.owner m = record { it = s.declared.routine; there = s.declared.there; method = s.declared.holds.0; class = s.declared.holds.1 } in
      record {
        it = s.declared.routine;
        there = s.declared.there;
        written = w.0;
        types = same_types s.owner q.0 m r.0 its o.0 o.1 up ∙ ap (λ (k : Declared). parameter_types k.kind) (sym w.1);
      }

  by_static : (c m : ℕ) (name : List ℕ) (x : JmlContract) (s : IsSeen units c name m) (b : Bool) → In x (cond b (written_at units lineage d m) (inherited units lineage d c m)) → Runs m x
  by_static c m name x s true h = at_itself m s.declared.routine x s.declared.there h
  by_static c m name x s false h = above c m name x s h

  runs : (c : JmlCase) (k : Comes units lineage d is.family c) → Runs k.m k.x
  runs c k = by k.origin
    where
      by : Origin units lineage d is.family k.c k.m k.x → Runs k.m k.x
      by (of_constructor run has) =
          let r = in_filter_map (λ a. (own units a).constructor) (lineage k.c) k.m run in
          let o = own_constructor units r.from k.m r.gives in
          at_itself k.m o.it k.x o.there has
      by (of_method among has) =
          let n = seen_there units j is k.c k.m among in
          by_static k.c k.m (routine_name units n.named) k.x (sees units j is k.c k.is_class k.m n) (static_routine units k.m) has

  -- ---- the body that runs

  body_is : (r : Declared) (m : ℕ) (b : Body) → slice_get (routines units) m ≡ Some r → j.program.body m ≡ Some b → (t : JavaMethod) × (r.kind ≡ RoutineOf t) × (b ≡ body_with d r.class t)
  body_is r m b there e = by r.kind refl (sym (is.bodies m ∙ ap (option_and_then (body_of_declared d)) there) ∙ e)
    where
      by : (k : Kind) → r.kind ≡ k → body_of_kind d r.class r.kind ≡ Some b → (t : JavaMethod) × (r.kind ≡ RoutineOf t) × (b ≡ body_with d r.class t)
      by (FieldOf t) kind f = absurd (none-some b (sym (ap (body_of_kind d r.class) kind) ∙ f))
      by (ConstantOf n) kind f = absurd (none-some b (sym (ap (body_of_kind d r.class) kind) ∙ f))
      by (RoutineOf t) kind f = (t, kind, sym (same_Some (body_with d r.class t) b (sym (ap (body_of_kind d r.class) kind) ∙ f)))

  module _ (named : HaveParameterNames units) (none : bodies.first_fault d units ≡ None) (none_jml : jml.first_fault d units ≡ None) (speak : ContractsSpeak) where
    in_cases : (κ : ℕ) (c : JmlCase) → j.case κ ≡ Some c → In c (all_cases units lineage d is.family)
    in_cases κ c e = at_place (all_cases units lineage d is.family) κ c (sym (is.cases κ) ∙ e)

    speaks : (x : JmlContract) → Written x → ContractSpeaks x
    speaks x w =
        let a = accepted d units none_jml w.m w.it w.tree w.there w.kind in
        one_speaks x (contracts d w.it.class w.tree) (speak d w.it.class w.tree a.0 a.1) w.has

    parameters_of : (x : JmlContract) (w : Written x) → x.parameters ≡ map (parameter d) w.tree.parameters
    parameters_of x w = let c = in_map (contract d w.it.class w.tree) (cases_of w.tree.specs) x w.has in ap (λ (y : JmlContract). y.parameters) (sym c.2)

    own_apart : (m : ℕ) (r : Declared) (t : JavaMethod) → slice_get (routines units) m ≡ Some r → r.kind ≡ RoutineOf t → AllApart (entry_heap ∷ receiver ∷ constants_of (map (parameter d) t.parameters))
    own_apart m r t there kind =
        let a = accepted_bodies.accepted d units none m r t there kind in
        constants_apart.of_method d r.class t a.0 (named m r t there kind) a.1

    fits : (c : JmlCase) (b : Body) (m : ℕ) (x : JmlContract) → c.contract ≡ x → Runs m x → j.program.body m ≡ Some b → FitsBody c b
    fits c b m x of_contract r e =
        let its = body_is r.it m b r.there e in
        let w = r.written in
        let types : parameter_types (RoutineOf its.0) ≡ parameter_types (RoutineOf w.tree) = sym (ap parameter_types its.1) ∙ r.types ∙ ap parameter_types w.kind in
        let ps : c.contract.parameters ≡ map (parameter d) w.tree.parameters = ap (λ (y : JmlContract). y.parameters) of_contract ∙ parameters_of x w in
        record {
          typed = subst AreTyped (sym ps) (parameters_typed d w.tree.parameters);
          sorts = subst (λ (y : Body). SortsOf y.parameters c.contract.parameters) (sym its.2) (subst (SortsOf (body_with d r.it.class its.0).parameters) (sym ps) (parameters_sorted d r.it.class its.0 w.tree.parameters types));
          apart = subst (λ (y : Body). AllApart (entry_measure ∷ entry_heap ∷ receiver ∷ constants_of_parameters y.parameters)) (sym its.2) (parameters_apart d r.it.class its.0 (own_apart m r.it its.0 r.there its.1));
        }

    module _ (rows : RowsStand) (fields : ℕ → List ℕ) (listed : AreFieldLists j.program fields) where
      case_stands : (κ : ℕ) (f : Option PlainCase) (c : Option JmlCase) → j.case κ ≡ c → RowAt j fields f c → CaseAt (specified j) f (option_map (case_of j.program) c)
      case_stands κ None None e row = tt
      case_stands κ None (Some c) e row = absurd row
      case_stands κ (Some f) None e row = absurd row
      case_stands κ (Some f) (Some c) e row =
          let b = row.0 in
          let from = comes units lineage d is.family c (in_cases κ c e) in
          let r = runs c from in
          let body : j.program.body from.m ≡ Some b = ap j.program.body (sym from.is.body) ∙ row.1 in
          let spoken : ContractSpeaks c.contract = subst ContractSpeaks (sym from.is.contract) (speaks from.x r.written) in
          (b, row.1, subst (λ (q : PlainCase). CaseStandsFor (specified j) (case_of j.program c) b q) (sym row.2) (rows j fields listed c b (own_constants units j is named none c (in_cases κ c e)) spoken (fits c b from.m from.x from.is.contract r body)))

      pub stand : (t : PlainContracts) → AreMadeOf j fields t → TablesStandFor t (specified j)
      stand t made = record {
        cases = λ κ. case_stands κ (slice_get t.cases κ) (j.case κ) refl (made.cases κ);
        invariants = made.invariants;
        bodies = made.bodies;
      }

pub tables_stand : RowsStand → OneMethod → ContractsSpeak
    → (units : List JavaUnit) → AreClasses units → HaveParameterNames units → (j : JmlProgram) (is : IsProgram units j)
    → bodies.first_fault is.declarations units ≡ None → jml.first_fault is.declarations units ≡ None
    → (fields : ℕ → List ℕ) → AreFieldLists j.program fields → (t : PlainContracts) → AreMadeOf j fields t → TablesStandFor t (specified j)
tables_stand rows methods speak units are named j is none none_jml fields listed t made = stand methods units are j is named none none_jml speak rows fields listed t made

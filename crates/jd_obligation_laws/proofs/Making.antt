-- The obligation of a case is made of its row.
use Rattle.std.proofs.Common.{◌≡◌, ◌≢◌, inl, inr, ℕ, suc, Bool, true, false, cond, List, [], ◌∷◌, ◌++◌, map, flat_map, Option, Some, None, option_map, refl, sym, ap, subst, ◌∙◌}
use Rattle.std.specs.List.{slice_get}
use Rattle.std.specs.Option.{option_and_then}
use Rattle.std.proofs.lemmas.Option.{same_Some, none-some}
use Rattle.jd_base.specs.declared.sort.Sort.TheVariants.{Int as IntSort}
use Rattle.jd_syntax.specs.CodeNames.{heap_name}
use Rattle.jd_syntax.specs.JavaTypes.{PlainType}
use Rattle.jd_syntax.specs.JavaTrees.{JavaMethod, JavaParameter, JavaResult, Void, Gives, OfConstructor, JavaUnit}
use Rattle.jd_syntax.specs.Names.{Name}
use Rattle.jd_syntax.specs.SpecTrees.{PlainClause}
use Rattle.jd_term.specs.Terms.{ProgramVariable, sort_of_term}
use Rattle.jd_jclasses.specs.Classes.{IsAncestor, IsSubclass}
use Rattle.jd_jclasses.specs.Laws.{OneMethod}
use Rattle.jd_jclasses.specs.Members.{Declared, Kind, FieldOf, ConstantOf, RoutineOf, parameter_types, result_of, result_type}
use Rattle.jd_jclasses.specs.Methods.{IsSeen, routines}
use Rattle.jd_jclasses.specs.Refusals.{AreClasses}
use Rattle.jd_jseen.proofs.Routines.{routines_are_members}
use Rattle.jd_model.specs.Cases.{Parameter, Role, Static, Ordinary, Helper, ConstructorOf}
use Rattle.jd_model.specs.ContractForms.{PlainCase, PlainContracts}
use Rattle.jd_model.specs.Programs.{Body, type_sort}
use Rattle.jd_model.specs.Tables.{HasResult, SortsOf, constants_of_parameters}
use Rattle.jd_oblig.specs.CaseObligations as obligations
use Rattle.jd_oblig.specs.KeptByObligations.{IsMadeOfRow, sort_of_result}
use Rattle.jd_bodies.specs.Declarations.{Declarations, type_by}
use Rattle.jd_bodies.specs.Refused as bodies
use Rattle.jd_bodies.specs.Variables.{sort_of}
use Rattle.jd_bodies.specs.declared.value.ValueType.{ValueType}
use Rattle.jd_bodies.specs.declared.value.ValueType.TheVariants as types
use Rattle.jd_specifications.specs.Refused as jml
use Rattle.jd_specifications.specs.WrittenCases.{cases_of, contract, contracts, has_mark, is_nullable, model_type, parameter, result, type_written}
use Rattle.jd_jml_meaning.specs.ContractFormulas.{constant_at, contract_of, contract_spelling}
use Rattle.jd_jml_meaning.specs.JmlContracts.{JmlContract}
use Rattle.jd_jml_meaning.specs.JmlCases.{JmlCase, JmlProgram, case_of, specified}
use Rattle.jd_field_sorts.specs.Laws.{FieldsOfProgramsHaveSorts}
use Rattle.jd_case_rows.specs.Rows as rows
use Rattle.jd_case_rows.specs.Rows.{respelled, row_of, spelled_for}
use Rattle.jd_programs.specs.Cases.{all_cases, contracts_of_declared, contracts_of_kind, inherited, written_at}
use Rattle.jd_programs.specs.Members.{declared_as, name_of, own, routine_name, static_routine}
use Rattle.jd_programs.specs.Programs.{IsProgram, body_of_declared, body_of_kind, body_with, result_sort}
use Rattle.jd_declared.proofs.Lists.{In, at_place, in_filter_map, in_map}
use Rattle.jd_program_laws.proofs.Bodies as accepted_bodies
use Rattle.jd_program_laws.proofs.Cases.{Comes, Origin, comes}
use Rattle.jd_program_laws.proofs.Cases.Origin.{of_constructor, of_method}
use Rattle.jd_program_laws.proofs.Families.{seen_there, sees}
use Rattle.jd_program_laws.proofs.Lineages.{above_it}
use Rattle.jd_program_laws.proofs.Lists.{from_flat}
use Rattle.jd_program_laws.proofs.Members.{OwnMethod, declared_there, one_in_class, own_constructor}
use Rattle.jd_program_tables.specs.Made.{AreMadeOf, RowAt}
use Rattle.jd_program_tables.proofs.Accepted.{accepted}
use Rattle.jd_program_tables.proofs.Parameters.{parameters_sorted}
use Rattle.jd_program_tables.proofs.Types.{not_apart}
use Rattle.jd_case_obligations.specs.Listed.{case_sequent, keeps_invariant, parts_of}
use Rattle.jd_obligation_laws.proofs.KnownTypes.{AllKnown, fields_known, method_known}
use Rattle.jd_obligation_laws.proofs.Judging.{Placed, measured}

-- ---- results

abbrev listed : Option PlainType → List PlainType
listed None = []
listed (Some t) = t ∷ []

same_listed : (a b : Option PlainType) → listed a ≡ listed b → a ≡ b
same_listed None None e = refl
same_listed None (Some b) e = absurd cc
same_listed (Some a) None e = absurd cc
same_listed (Some a) (Some b) e = let same : a ≡ b = cc in ap Some same

-- results that are not apart are the same
same_result : (a b : Option PlainType) → ((a ≢ b) → ⊥) → a ≡ b
same_result a b h = same_listed a b (not_apart (listed a) (listed b) (λ apart. h (λ e. apart (ap listed e))))

module _ (d : Declarations) where
  model_sort : (t : ValueType) → type_sort (model_type d t) ≡ sort_of t
  model_sort types.Int = refl
  model_sort types.Boolean = refl
  model_sort types.Null = refl
  model_sort types.IntArray = refl
  model_sort (types.Class c) = refl
  model_sort types.Missing = refl

  -- a body of the same result type has the result that the declaration says
  has_result : (r s : JavaResult) (nullable : Bool) → result_type r ≡ result_type s → HasResult (option_map sort_of_result (result d s nullable)) (result_sort d r)
  has_result r Void nullable e = tt
  has_result r OfConstructor nullable e = tt
  has_result Void (Gives w) nullable e = absurd (none-some w.written e)
  has_result OfConstructor (Gives w) nullable e = absurd (none-some w.written e)
  has_result (Gives v) (Gives w) nullable e = model_sort (type_written d w) ∙ ap (λ t. sort_of (type_by d.class_named t)) (sym (same_Some v.written w.written e))

  -- ---- the parameters' constants

  abbrev Sorted : List Parameter → List JavaParameter → Type 0
  Sorted [] [] = Unit {0}
  Sorted (z ∷ zs) (q ∷ qs) = (z.constant.sort ≡ sort_of (type_written d q.ty)) × Sorted zs qs
  Sorted zs qs = ⊥

  respelled_sorted : (xs : List Name) (qs : List JavaParameter) → SortsOf xs (map (parameter d) qs) → Sorted (respelled (constants_of_parameters xs) (map (parameter d) qs)) qs
  respelled_sorted [] [] h = tt
  respelled_sorted [] (q ∷ qs) h = absurd h
  respelled_sorted (x ∷ xs) [] h = absurd h
  respelled_sorted (x ∷ xs) (q ∷ qs) h = (h.0 ∙ model_sort (type_written d q.ty), respelled_sorted xs qs h.1)

  shifted : (z : Parameter) (zs : List Parameter) (n : ℕ) (qs : List JavaParameter) → Placed d (constant_at zs) n qs → Placed d (constant_at (z ∷ zs)) (suc n) qs
  shifted z zs n [] h = tt
  shifted z zs n (q ∷ qs) h = (h.0, shifted z zs (suc n) qs h.1)

  placed : (zs : List Parameter) (qs : List JavaParameter) → Sorted zs qs → AllKnown d qs → Placed d (constant_at zs) 0 qs
  placed [] [] s k = tt
  placed [] (q ∷ qs) s k = absurd s
  placed (z ∷ zs) [] s k = absurd s
  placed (z ∷ zs) (q ∷ qs) s k = ((k.0, s.0), shifted z zs 0 qs (placed zs qs s.1 k.1))

-- ---- exits

exits_alike : (r : Role) → rows.invariant_members r (ProgramVariable heap_name) ≡ obligations.invariant_members (keeps_invariant r)
exits_alike Static = refl
exits_alike Ordinary = refl
exits_alike Helper = refl
exits_alike (ConstructorOf a) = refl

module _ (methods : OneMethod) (units : List JavaUnit) (are : AreClasses units) (j : JmlProgram) (is : IsProgram units j) where
  abbrev lineage : ℕ → List ℕ
  lineage = j.program.superclasses

  abbrev d : Declarations
  d = is.declarations

  -- ---- the method at which a contract is written, and the one that runs

  record Written (x : JmlContract) : Type 0 where
    m : ℕ
    it : Declared
    tree : JavaMethod
    there : slice_get (routines units) m ≡ Some it
    kind : it.kind ≡ RoutineOf tree
    has : In x (contracts d it.class tree)

  by_kind : (m : ℕ) (r : Declared) (k : Kind) (x : JmlContract) → slice_get (routines units) m ≡ Some r → r.kind ≡ k → In x (contracts_of_kind d r.class k) → (w : Written x) × (w.it ≡ r)
  by_kind m r (FieldOf t) x there kind h = absurd h
  by_kind m r (ConstantOf n) x there kind h = absurd h
  by_kind m r (RoutineOf t) x there kind h = (record { m = m; it = r; tree = t; there = there; kind = kind; has = h }, refl)

  written_there : (m : ℕ) (o : Option Declared) (r : Declared) (x : JmlContract) → slice_get (routines units) m ≡ o → o ≡ Some r → In x (contracts_of_declared d o) → (w : Written x) × (w.it ≡ r)
  written_there m None r x there e h = absurd h
  written_there m (Some q) r x there e h =
      let w = by_kind m q q.kind x there refl h in (w.0, w.1 ∙ same_Some q r e)

  -- both take and give the same types
  record Alike (a b : Declared) : Type 0 where
    types_ : parameter_types a.kind ≡ parameter_types b.kind
    results : result_of a.kind ≡ result_of b.kind

  record Runs (m : ℕ) (x : JmlContract) : Type 0 where
    it : Declared
    there : slice_get (routines units) m ≡ Some it
    written : Written x
    alike : Alike it written.it

  itself : (a b : Declared) → a ≡ b → Alike a b
  itself a b e = record { types_ = ap (λ (r : Declared). parameter_types r.kind) e; results = ap (λ (r : Declared). result_of r.kind) e }

  same_types : (a b m n : ℕ) (o : OwnMethod units a m) (p : OwnMethod units b n) → routine_name units n ≡ routine_name units m → IsSubclass units a b → Alike o.it p.it
  same_types a b m n o p e (inl same) =
      let q : OwnMethod units a n = record { it = p.it; there = p.there; method = p.method; class = p.class ∙ sym same } in
      let one = one_in_class units methods are a m n o q e in
      itself o.it p.it (same_Some o.it p.it (sym o.there ∙ ap (slice_get (routines units)) one ∙ p.there))
  same_types a b m n o p e (inr above) =
      let one = routines_are_members units m o.it o.there in
      let other = routines_are_members units n p.it p.there in
      let higher = subst (λ x. IsAncestor units x o.it.class) (sym p.class) (subst (IsAncestor units b) (sym o.class) above) in
      let named = ap name_of (sym p.there) ∙ e ∙ ap name_of o.there in
      record {
        types_ = sym (not_apart (parameter_types p.it.kind) (parameter_types o.it.kind) (λ apart. are.members.overloads one.0 (inr (record {
          place = other.0;
          other = p.it;
          one = o.it;
          other_there = other.1;
          there = one.1;
          holds = (higher, (p.method, o.method, named), apart);
        }))));
        results = sym (same_result (result_of p.it.kind) (result_of o.it.kind) (λ apart. are.members.overrides one.0 (record {
          place = other.0;
          other = p.it;
          one = o.it;
          other_there = other.1;
          there = one.1;
          holds = (higher, (p.method, o.method, named), inl apart);
        })));
      }

  at_itself : (m : ℕ) (r : Declared) (x : JmlContract) → slice_get (routines units) m ≡ Some r → In x (written_at units lineage d m) → Runs m x
  at_itself m r x there h =
      let w = written_there m (slice_get (routines units) m) r x refl there h in
      record { it = r; there = there; written = w.0; alike = itself r w.0.it (sym w.1) }

  above : (c m : ℕ) (name : List ℕ) (x : JmlContract) (s : IsSeen units c name m) → In x (inherited units lineage d c m) → Runs m x
  above c m name x s h =
      let r = from_flat (written_at units lineage d) (flat_map (declared_as units (routine_name units m)) (lineage c)) x h in
      let q = from_flat (declared_as units (routine_name units m)) (lineage c) r.0 r.1 in
      let o = declared_there units q.0 m r.0 q.2 in
      let named : routine_name units m ≡ name = ap name_of s.declared.there ∙ s.declared.holds.2 in
      let up = s.nearest q.0 r.0 (above_it units j.program is.classes c q.0 q.1) (record { routine = o.0.it; there = o.0.there; holds = (o.0.method, o.0.class, sym (ap name_of o.0.there) ∙ o.1 ∙ named) }) in
      let w = written_there r.0 (slice_get (routines units) r.0) o.0.it x refl o.0.there r.2 in
      let its : OwnMethod units s.owner m = record { it = s.declared.routine; there = s.declared.there; method = s.declared.holds.0; class = s.declared.holds.1 } in
      record {
        it = s.declared.routine;
        there = s.declared.there;
        written = w.0;
        alike = subst (Alike s.declared.routine) {y = w.0.it} (sym {a = w.0.it} w.1) (same_types s.owner q.0 m r.0 its o.0 o.1 up);
      }

  by_static : (c m : ℕ) (name : List ℕ) (x : JmlContract) (s : IsSeen units c name m) (b : Bool) → In x (cond b (written_at units lineage d m) (inherited units lineage d c m)) → Runs m x
  by_static c m name x s true h = at_itself m s.declared.routine x s.declared.there h
  by_static c m name x s false h = above c m name x s h

  runs : (c : JmlCase) (k : Comes units lineage d is.family c) → Runs k.m k.x
  runs c k = by k.origin
    where
      by : Origin units lineage d is.family k.c k.m k.x → Runs k.m k.x
      by (of_constructor run has) =
          let r = in_filter_map (λ a. (own units a).constructor) (lineage k.c) k.m run in
          let o = own_constructor units r.from k.m r.gives in
          at_itself k.m o.it k.x o.there has
      by (of_method among has) =
          let n = seen_there units j is k.c k.m among in
          by_static k.c k.m (routine_name units n.named) k.x (sees units j is k.c k.is_class k.m n) (static_routine units k.m) has

  -- ---- the body that runs

  body_is : (r : Declared) (m : ℕ) (b : Body) → slice_get (routines units) m ≡ Some r → j.program.body m ≡ Some b → (t : JavaMethod) × (r.kind ≡ RoutineOf t) × (b ≡ body_with d r.class t)
  body_is r m b there e = by r.kind refl (sym (is.bodies m ∙ ap (option_and_then (body_of_declared d)) there) ∙ e)
    where
      by : (k : Kind) → r.kind ≡ k → body_of_kind d r.class r.kind ≡ Some b → (t : JavaMethod) × (r.kind ≡ RoutineOf t) × (b ≡ body_with d r.class t)
      by (FieldOf t) kind f = absurd (none-some b (sym (ap (body_of_kind d r.class) kind) ∙ f))
      by (ConstantOf n) kind f = absurd (none-some b (sym (ap (body_of_kind d r.class) kind) ∙ f))
      by (RoutineOf t) kind f = (t, kind, sym (same_Some (body_with d r.class t) b (sym (ap (body_of_kind d r.class) kind) ∙ f)))

  module _ (sorts : FieldsOfProgramsHaveSorts) (none : bodies.first_fault d units ≡ None) (none_jml : jml.first_fault d units ≡ None) where
    -- what is known of a contract and the body that runs
    record Fits (x : JmlContract) (b : Body) : Type 0 where
      outcome : HasResult (option_map sort_of_result x.result) b.result
      measure : sort_of_term (contract_of j.program (spelled_for b x)).measure ≡ IntSort

    of_contract : (tree : JavaMethod) (cs : List PlainClause) (r : Declared) (t : JavaMethod) (w : ℕ) (it : Declared) → slice_get (routines units) w ≡ Some it → it.kind ≡ RoutineOf tree → In cs (cases_of tree.specs)
        → parameter_types (RoutineOf t) ≡ parameter_types (RoutineOf tree) → result_of (RoutineOf t) ≡ result_of (RoutineOf tree) → Fits (contract d it.class tree cs) (body_with d r.class t)
    of_contract tree cs r t w it there kind among takes gives =
        let b = body_with d r.class t in
        let zs = respelled (constants_of_parameters b.parameters) (map (parameter d) tree.parameters) in
        let bodies_ok = accepted_bodies.accepted d units none w it tree there kind in
        let jml_ok = accepted d units none_jml w it tree there kind in
        let known = method_known d it.class tree bodies_ok.0 bodies_ok.1 in
        let sorted = respelled_sorted d b.parameters tree.parameters (parameters_sorted d r.class t tree.parameters takes) in
        record {
          outcome = has_result d t.result tree.result (has_mark is_nullable tree.specs) gives;
          measure =
              measured d j.program (contract_spelling zs (result d tree.result (has_mark is_nullable tree.specs))) (sorts units j is) (fields_known d units is.are_declarations none) (constant_at zs) (λ w k. refl) it.class tree refl
              (placed d zs tree.parameters sorted known) jml_ok.0 jml_ok.1 cs among;
        }

    fits : (x : JmlContract) (b : Body) (m : ℕ) → Runs m x → j.program.body m ≡ Some b → Fits x b
    fits x b m r e =
        let its = body_is r.it m b r.there e in
        let w = r.written in
        let c = in_map (contract d w.it.class w.tree) (cases_of w.tree.specs) x w.has in
        let takes : parameter_types (RoutineOf its.0) ≡ parameter_types (RoutineOf w.tree) = sym (ap parameter_types its.1) ∙ r.alike.types_ ∙ ap parameter_types w.kind in
        let gives : result_of (RoutineOf its.0) ≡ result_of (RoutineOf w.tree) = sym (ap result_of its.1) ∙ r.alike.results ∙ ap result_of w.kind in
        subst (λ y. Fits y b) c.2 (subst (Fits (contract d w.it.class w.tree c.0)) (sym its.2) (of_contract w.tree c.0 r.it its.0 w.m w.it w.there w.kind c.1 takes gives))

    in_cases : (κ : ℕ) (c : JmlCase) → j.case κ ≡ Some c → In c (all_cases units lineage d is.family)
    in_cases κ c e = at_place (all_cases units lineage d is.family) κ c (sym (is.cases κ) ∙ e)

    module _ (fields : ℕ → List ℕ) where
      row_found : (f : Option PlainCase) (c : JmlCase) (b : Body) → RowAt j fields f (Some c) → j.program.body c.body ≡ Some b → f ≡ Some (row_of j.program fields c b)
      row_found None c b row e = absurd row
      row_found (Some f) c b row e = ap Some (row.2 ∙ ap (row_of j.program fields c) (same_Some row.0 b (sym row.1 ∙ e)))

      pub made : (t : PlainContracts) → AreMadeOf j fields t → (κ : ℕ) (c : JmlCase) → j.case κ ≡ Some c → (b : Body) → j.program.body c.body ≡ Some b → IsMadeOfRow t (specified j) κ (case_of j.program c) (case_sequent units j.program fields c b)
      made t tables κ c e b body =
          let from = comes units lineage d is.family c (in_cases κ c e) in
          let r = runs c from in
          let here : j.program.body from.m ≡ Some b = ap j.program.body (sym from.is.body) ∙ body in
          let fit_ = subst (λ x. Fits x b) (sym from.is.contract) (fits from.x b from.m r here) in
          let k = contract_of j.program (spelled_for b c.contract) in
          let row = row_of j.program fields c b in
          let its : (o : Body) → j.program.body c.body ≡ Some o → b ≡ o = λ o h. same_Some b o (sym body ∙ h) in
          record {
            row = row;
            parts = parts_of j.program k;
            found = row_found (slice_get t.cases κ) c b (subst (RowAt j fields (slice_get t.cases κ)) e (tables.cases κ)) body;
            sequent = λ o h. ap (λ x. obligations.obligation_sequent row x (parts_of j.program k)) (its o h);
            normal = ap (λ l. rows.normal_members k ++ l) (exits_alike k.role);
            exceptional = ap (λ l. rows.exceptional_members j.program k ++ l) (exits_alike k.role);
            result = refl;
            result_of_body = λ o h. subst (λ x. HasResult (option_map sort_of_result c.contract.result) x.result) (its o h) fit_.outcome;
            measure = fit_.measure;
          }

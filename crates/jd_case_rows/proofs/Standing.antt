-- The row of a case stands for it.
use Rattle.std.proofs.Common.{◌≡◌, ◌↔◌, ℕ, zero, suc, Bool, true, false, List, [], ◌∷◌, ◌++◌, map, Option, Some, None, refl, sym, ap, subst, ◌∙◌, true≢false}
use Rattle.jd_syntax.specs.CodeNames.{heap_name}
use Rattle.jd_syntax.specs.Names.{Name}
use Rattle.jd_term.specs.Terms.{PlainTerm, ProgramVariable, Constant}
use Rattle.jd_term.specs.Formulas.{PlainFormula, WellFormed}
use Rattle.jd_heap.specs.References.{Reference, Location}
use Rattle.jd_heap.specs.Heaps.{Heap}
use Rattle.jd_heap.specs.Values.{Value, RefValue, HeapValue, as_ref, as_heap, at_sort}
use Rattle.jd_model.specs.SpecialNames.{entry_heap, receiver, thrown_variable, result_variable}
use Rattle.jd_model.specs.States.{State, read, heap_of}
use Rattle.jd_model.specs.Programs.{Program, Body, type_sort}
use Rattle.jd_model.specs.TermValues.{value, within}
use Rattle.jd_model.specs.Truth.{Setting, InvTruth}
use Rattle.jd_model.specs.Validity.{AllTrue}
use Rattle.jd_model.specs.Renamings.{AllFirstOrder}
use Rattle.jd_model.specs.Cases.{DeclaredType, Parameter, Role, Static, Ordinary, Helper, ConstructorOf, Behaviour, AnyEnd, NormalOnly, ExceptionalOnly, Contract}
use Rattle.jd_model.specs.EntryExit.{Moment, AreOf, EntryAs, RoleFields, ResultOf, MayEnd, entry_moment, normal_moment, thrown_moment, interpretation_of, state_of, assignable_at, measure_at}
use Rattle.jd_model.specs.Tables.{CaseStandsFor, SortsOf, loosened, members, constants_of_parameters, parameter_constant, receiver_in, result_in}
use Rattle.jd_model.proofs.Writes.{read_back}
use Rattle.jd_jml_meaning.specs.Resolved.{JmlExpr}
use Rattle.jd_jml_meaning.specs.Meaning.{When, Now, Before, World}
use Rattle.jd_jml_meaning.specs.Translation.{Spelling, formula}
use Rattle.jd_jml_meaning.specs.Standing.{Stands}
use Rattle.jd_jml_meaning.specs.InvariantFormulas.{setting_of}
use Rattle.jd_jml_meaning.specs.JmlContracts.{JmlContract, JmlEntry, JmlNormalEnd, JmlExceptionalEnd, ClausesHold, SignalsHold, ReceiverInvariant, InvariantAtEnd, InvariantHolds, argument_at, result_at, world_of}
use Rattle.jd_jml_meaning.specs.ContractFormulas.{constant_at, result_term, contract_spelling, contract_of}
use Rattle.jd_jml_meaning.specs.JmlCases.{JmlCase, JmlProgram, case_of, specified}
use Rattle.jd_jml_meaning.specs.Laws.{ContractMeans, HasOwnConstants}
use Rattle.jd_jml_meaning.proofs.Spelled.{iff_same, and_iff, imp_iff, iff_then, spelled, holds}
use Rattle.jd_jml_meaning.proofs.Located.{located_all}
use Rattle.jd_jml_meaning.proofs.InvariantsHold.{invariants_mean}
use Rattle.jd_jml_meaning.proofs.ContractWorlds.{contract_stands, result_sort}
use Rattle.jd_jml_meaning.proofs.ContractsMean.{contract_means}
use Rattle.jd_case_rows.specs.Laws.{AreFieldLists, AreTyped, FitsBody}
use Rattle.jd_case_rows.specs.Rows.{row_of, respelled, spelled_for, receiver_members, invariant_members, field_members, parameter_members, entry_members, result_members, established_members, unless_normal, normal_members, signalled_members, only_member, unless_exceptional, exceptional_members}
use Rattle.jd_case_rows.specs.Speaking.{Allowed, AllSpeak, SignalsSpeak, ContractSpeaks, has_receiver, at_entry, of_result, of_thrown}
use Rattle.jd_case_rows.proofs.Alike.{Agree, meant_alike, holds_alike, all_alike}
use Rattle.jd_case_rows.proofs.Typed.{joined_iff, alone, typed_iff, created_iff, parameters_iff, receiver_iff, fields_iff, thrown_iff, only_iff}
use Rattle.jd_case_rows.proofs.Tight as tight

-- two tests of one thing
one_test : {A B : Type 0} (a b : Bool) → (a ≡ true) ↔ A → (b ≡ true) ↔ B → A ↔ B → a ≡ b
one_test true true h g k = refl
one_test true false h g k = sym (g.1 (k.0 (h.0 refl)))
one_test false true h g k = h.1 (k.1 (g.0 refl))
one_test false false h g k = refl

-- a parameter's constant has the value of its argument
read_constants : (i s : State) (b : List Value) (xs : List Name) (ps : List Parameter) → SortsOf xs ps → AreTyped ps → (k : ℕ) → value i s b (constant_at (respelled (constants_of_parameters xs) ps) k) ≡ argument_at ps (map (read i) (constants_of_parameters xs)) k
read_constants i s b [] [] e t k = refl
read_constants i s b [] (p ∷ ps) e t k = absurd e
read_constants i s b (x ∷ xs) [] e t k = absurd e
read_constants i s b (x ∷ xs) (p ∷ ps) e t zero = sym (ap (λ k. at_sort k (read i (parameter_constant x))) (t.0 ∙ sym e.0) ∙ read_back i (parameter_constant x))
read_constants i s b (x ∷ xs) (p ∷ ps) e t (suc k) = read_constants i s b xs ps e.1 t.1 k

module _ (j : JmlProgram) (fields : ℕ → List ℕ) (listed : AreFieldLists j.program fields) (κ : JmlCase) (b : Body) (own : HasOwnConstants κ.contract) (speaks : ContractSpeaks κ.contract) (fits : FitsBody κ b) where
  abbrev p : Program
  p = j.program

  abbrev g : Setting
  g = setting_of j.program j.own

  abbrev c : JmlContract
  c = κ.contract

  abbrev constants : List Name
  constants = constants_of_parameters b.parameters

  -- the contract's formulas in the names of the body
  abbrev sp : Spelling
  sp = contract_spelling (respelled constants c.parameters) c.result

  abbrev k : Contract
  k = contract_of p (spelled_for b c)

  means : ContractMeans p j.own c
  means = contract_means p j.own c own

  -- ---- the members of the entry

  abbrev rest : List PlainFormula
  rest = parameter_members k.parameters ++ (k.requires_ ++ (invariant_members k.role (Constant entry_heap) ++ field_members p fields k.role))

  members_are : (exactly : Bool) → members exactly (entry_members p fields κ.class k) ≡ WellFormed (Constant entry_heap) ∷ (members exactly (receiver_members c.role κ.class) ++ rest)
  members_are true = refl
  members_are false = ap (λ l. WellFormed (Constant entry_heap) ∷ l) (tight.joined_as (receiver_members c.role κ.class) rest tight_rest)
    where
      tight_rest : map loosened rest ≡ rest
      tight_rest =
          tight.tight_joined (parameter_members k.parameters) (k.requires_ ++ (invariant_members k.role (Constant entry_heap) ++ field_members p fields k.role)) (tight.tight_parameters k.parameters)
          (tight.tight_joined k.requires_ (invariant_members k.role (Constant entry_heap) ++ field_members p fields k.role) (tight.tight_clauses p sp Before c.requires_)
          (tight.tight_joined (invariant_members k.role (Constant entry_heap)) (field_members p fields k.role) (tight.tight_invariant c.role (Constant entry_heap)) (tight.tight_fields p fields c.role)))

  -- ---- what the names of an interpretation and a state stand for

  module _ (d : ℕ) (i s : State) where
    abbrev before : Heap
    before = as_heap (read i entry_heap)

    abbrev arguments : List Value
    arguments = map (read i) constants

    abbrev this : Reference
    this = receiver_in c.role i

    abbrev world : World
    world = record {
      heap = elim [ Now ↦ heap_of s | Before ↦ before ];
      argument = λ t. argument_at c.parameters arguments;
      local = read s;
      this = as_ref (read i receiver);
      result = result_at c.result (result_in c.result s);
      thrown = as_ref (read s thrown_variable);
    }

    read_heap : (t : When) (l : List Value) → value i s l (sp.heap t) ≡ HeapValue (world.heap t)
    read_heap Now l = sym (read_back s heap_name)
    read_heap Before l = sym (read_back i entry_heap)

    read_result : (r : Option DeclaredType) (l : List Value) → value i s l (result_term r) ≡ result_at r (result_in r s)
    read_result None l = refl
    read_result (Some t) l = sym (ap (λ q. at_sort q (read s (result_variable (type_sort t.type)))) (sym (result_sort (type_sort t.type))) ∙ read_back s (result_variable (type_sort t.type)))

    stands : Stands sp i s world
    stands = record {
      heap = read_heap;
      argument = λ t n l. read_constants i s l b.parameters c.parameters fits.sorts fits.typed n;
      local = λ x. refl;
      this = λ l. sym (read_back i receiver);
      result = read_result c.result;
      thrown = λ l. sym (read_back s thrown_variable);
    }

    -- ---- the moments of an entry and of the two ends

    abbrev entry : Moment
    entry = entry_moment g before this arguments

    abbrev normal : Moment
    normal = normal_moment g before this arguments (heap_of s) (result_in c.result s)

    abbrev exceptional : Moment
    exceptional = thrown_moment g before this arguments (heap_of s) (as_ref (read s thrown_variable))

    this_is : (r : Role) → has_receiver r ≡ true → as_ref (read i receiver) ≡ receiver_in r i
    this_is Static e = absurd (true≢false (sym e))
    this_is Ordinary e = refl
    this_is Helper e = refl
    this_is (ConstructorOf a) e = refl

    abbrev Earlier : When → Type 0
    Earlier t = t ≡ Before

    abbrev Always : When → Type 0
    Always t = Unit {0}

    heap_before : (t : When) → t ≡ Before → world.heap t ≡ (world_of c entry).heap t
    heap_before t e = subst (λ q. world.heap q ≡ (world_of c entry).heap q) (sym e) refl

    agree_entry : Agree (at_entry c.role) Earlier world (world_of c entry)
    agree_entry = record {
      before = refl;
      heap = heap_before;
      argument = λ t n. refl;
      this = this_is c.role;
      result = λ e. absurd (true≢false (sym e));
      thrown = λ e. absurd (true≢false (sym e));
    }

    heap_normal : (t : When) → world.heap t ≡ (world_of c normal).heap t
    heap_normal Now = refl
    heap_normal Before = refl

    agree_normal : Agree (of_result c.role) Always world (world_of c normal)
    agree_normal = record {
      before = tt;
      heap = λ t now. heap_normal t;
      argument = λ t n. refl;
      this = this_is c.role;
      result = λ e. refl;
      thrown = λ e. absurd (true≢false (sym e));
    }

    heap_exceptional : (t : When) → world.heap t ≡ (world_of c exceptional).heap t
    heap_exceptional Now = refl
    heap_exceptional Before = refl

    agree_exceptional : Agree (of_thrown c.role) Always world (world_of c exceptional)
    agree_exceptional = record {
      before = tt;
      heap = λ t now. heap_exceptional t;
      argument = λ t n. refl;
      this = this_is c.role;
      result = λ e. absurd (true≢false (sym e));
      thrown = λ e. refl;
    }

    -- ---- clauses

    clauses_iff : (u : Allowed) (At : When → Type 0) (m : Moment) → Agree u At world (world_of c m) → (t : When) → At t → (es : List JmlExpr) → AllSpeak u es → AllTrue g d i s [] (map (formula p sp t) es) ↔ ClausesHold p j.own t c m es
    clauses_iff u At m a t now [] x = iff_same
    clauses_iff u At m a t now (e ∷ es) x =
        and_iff
        (iff_then (holds g sp i s world stands d (InvTruth g d) (InvariantHolds p j.own) (invariants_mean p j.own d) t [] e) (holds_alike p u At world (world_of c m) a (InvariantHolds p j.own) t now [] e x.0))
        (clauses_iff u At m a t now es x.1)

    signals_iff : (es : List (ℕ × JmlExpr)) → SignalsSpeak (of_thrown c.role) es → AllTrue g d i s [] (signalled_members (map (λ e. (e.0, formula p sp Now e.1)) es)) ↔ SignalsHold p j.own c exceptional es
    signals_iff [] x = iff_same
    signals_iff (e ∷ es) x =
        and_iff
        (imp_iff iff_same
        (iff_then (holds g sp i s world stands d (InvTruth g d) (InvariantHolds p j.own) (invariants_mean p j.own d) Now [] e.1) (holds_alike p (of_thrown c.role) Always world (world_of c exceptional) agree_exceptional (InvariantHolds p j.own) Now tt [] e.1 x.0)))
        (signals_iff es x.1)

    -- ---- invariants

    invariant_iff : (r : Role) (ht : PlainTerm) (h : Heap) → as_heap (value i s [] ht) ≡ h → AllTrue g d i s [] (invariant_members r ht) ↔ ReceiverInvariant p j.own r h (receiver_in r i)
    invariant_iff Static ht h e = iff_same
    invariant_iff Ordinary ht h e = alone (subst (λ q. InvTruth g d (as_heap (value i s [] ht)) (as_ref (read i receiver)) ↔ InvariantHolds p j.own q (as_ref (read i receiver))) e (invariants_mean p j.own d _ _))
    invariant_iff Helper ht h e = iff_same
    invariant_iff (ConstructorOf a) ht h e = iff_same

    unit_and : {A B : Type 0} → A ↔ B → (Unit {0} × A) ↔ B
    unit_and h = (λ x. h.0 x.1, λ y. (tt, h.1 y))

    at_end_iff : (r : Role) → (AllTrue g d i s [] (established_members r) × AllTrue g d i s [] (invariant_members r (ProgramVariable heap_name))) ↔ InvariantAtEnd p j.own r (heap_of s) (receiver_in r i)
    at_end_iff Static = (λ x. tt, λ y. (tt, tt))
    at_end_iff Ordinary = unit_and (invariant_iff Ordinary (ProgramVariable heap_name) (heap_of s) refl)
    at_end_iff Helper = (λ x. tt, λ y. (tt, tt))
    at_end_iff (ConstructorOf a) = (
      λ x e. (invariants_mean p j.own d (heap_of s) (as_ref (read i receiver))).0 (x.0.0 e),
      λ y. ((λ e. (invariants_mean p j.own d (heap_of s) (as_ref (read i receiver))).1 (y e), tt), tt),
    )

    -- ---- behaviour words

    normal_word : (w : Behaviour) → AllTrue g d i s [] (unless_normal w) ↔ MayEnd g w true
    normal_word AnyEnd = iff_same
    normal_word NormalOnly = (λ x. refl, λ y. tt)
    normal_word ExceptionalOnly = (λ x. absurd x.0, λ y. absurd (true≢false y))

    exceptional_word : (w : Behaviour) → AllTrue g d i s [] (unless_exceptional w) ↔ MayEnd g w false
    exceptional_word AnyEnd = iff_same
    exceptional_word NormalOnly = (λ x. absurd x.0, λ y. absurd (true≢false (sym y)))
    exceptional_word ExceptionalOnly = (λ x. refl, λ y. tt)

    -- ---- the entry

    rest_iff : AllTrue g d i s [] rest ↔ (AreOf g before c.parameters arguments × (ClausesHold p j.own Before c entry c.requires_ × (ReceiverInvariant p j.own c.role before this × RoleFields g c.role before this)))
    rest_iff =
        joined_iff g d i s (parameter_members k.parameters) (k.requires_ ++ (invariant_members k.role (Constant entry_heap) ++ field_members p fields k.role)) (parameters_iff g d i s b.parameters c.parameters fits.sorts)
        (joined_iff g d i s k.requires_ (invariant_members k.role (Constant entry_heap) ++ field_members p fields k.role) (clauses_iff (at_entry c.role) Earlier entry agree_entry Before refl c.requires_ speaks.required)
        (joined_iff g d i s (invariant_members k.role (Constant entry_heap)) (field_members p fields k.role) (invariant_iff c.role (Constant entry_heap) before refl) (fields_iff g d i s fields listed c.role)))

    jml_entry : (exactly : Bool) → AllTrue g d i s [] (WellFormed (Constant entry_heap) ∷ (members exactly (receiver_members c.role κ.class) ++ rest)) ↔ JmlEntry p j.own exactly c κ.class before this arguments
    jml_entry exactly =
        let all = joined_iff g d i s (members exactly (receiver_members c.role κ.class)) rest (receiver_iff g d i s exactly c.role κ.class) rest_iff in (
          λ x. let y = all.0 x.1 in record { well_formed = x.0; receiver = y.0; arguments = y.1.0; required = y.1.1.0; invariant = y.1.1.1.0; fields = y.1.1.1.1 },
          λ y. (y.well_formed, all.1 (y.receiver, (y.arguments, (y.required, (y.invariant, y.fields))))),
        )

    entry_iff : (exactly : Bool) → AllTrue g d i s [] (members exactly (entry_members p fields κ.class k)) ↔ EntryAs g exactly (contract_of p c) κ.class before this arguments
    entry_iff exactly =
        subst (λ l. AllTrue g d i s [] l ↔ EntryAs g exactly (contract_of p c) κ.class before this arguments) (sym (members_are exactly))
        (iff_then (jml_entry exactly) (back (means.entry exactly κ.class before this arguments)))
      where
        back : {A B : Type 0} → A ↔ B → B ↔ A
        back h = (h.1, h.0)

    -- ---- a normal end

    result_iff : (r : Option DeclaredType) → AllTrue g d i s [] (result_members r) ↔ ResultOf g (heap_of s) r (result_in r s)
    result_iff None = iff_same
    result_iff (Some t) =
        typed_iff g d i s (ProgramVariable heap_name) (ProgramVariable (result_variable (type_sort t.type))) (heap_of s) refl t (read s (result_variable (type_sort t.type))) refl
        (ap (λ q. at_sort q (read s (result_variable (type_sort t.type)))) (sym (result_sort (type_sort t.type))) ∙ read_back s (result_variable (type_sort t.type)))

    jml_normal : AllTrue g d i s [] (WellFormed (ProgramVariable heap_name) ∷ (normal_members k ++ invariant_members k.role (ProgramVariable heap_name))) ↔ JmlNormalEnd p j.own c normal
    jml_normal =
        let all =
        joined_iff g d i s (normal_members k) (invariant_members k.role (ProgramVariable heap_name))
        (joined_iff g d i s (result_members c.result) (k.ensures_ ++ (established_members k.role ++ unless_normal k.behaviour)) (result_iff c.result)
        (joined_iff g d i s k.ensures_ (established_members k.role ++ unless_normal k.behaviour) (clauses_iff (of_result c.role) Always normal agree_normal Now tt c.ensures_ speaks.ensured)
        (joined_iff g d i s (established_members k.role) (unless_normal k.behaviour) iff_same (normal_word c.behaviour))))
        iff_same in (
          λ x. let y = all.0 x.1 in record { well_formed = x.0; typed = y.0.0; ensured = y.0.1.0; invariant = (at_end_iff c.role).0 (y.0.1.1.0, y.1); allowed = y.0.1.1.1 },
          λ y. let z = (at_end_iff c.role).1 y.invariant in (y.well_formed, all.1 ((y.typed, (y.ensured, (z.0, y.allowed))), z.1)),
        )

    -- ---- an exceptional end

    thrown_is : value i s [] (ProgramVariable thrown_variable) ≡ RefValue (as_ref (read s thrown_variable))
    thrown_is = sym (read_back s thrown_variable)

    jml_exceptional : AllTrue g d i s [] (WellFormed (ProgramVariable heap_name) ∷ (exceptional_members p k ++ invariant_members k.role (ProgramVariable heap_name))) ↔ JmlExceptionalEnd p j.own c exceptional
    jml_exceptional =
        let all =
        joined_iff g d i s (signalled_members k.signals ++ (map only_member k.signals_only ++ unless_exceptional k.behaviour)) (invariant_members k.role (ProgramVariable heap_name))
        (joined_iff g d i s (signalled_members k.signals) (map only_member k.signals_only ++ unless_exceptional k.behaviour) (signals_iff c.signals speaks.signalled)
        (joined_iff g d i s (map only_member k.signals_only) (unless_exceptional k.behaviour) (only_iff g d i s c.signals_only (as_ref (read s thrown_variable)) thrown_is) (exceptional_word c.behaviour)))
        (invariant_iff c.role (ProgramVariable heap_name) (heap_of s) refl) in
        let instance = thrown_iff g d i s p.throwable (as_ref (read s thrown_variable)) thrown_is in
        let created = created_iff g d i s (ProgramVariable heap_name) (ProgramVariable thrown_variable) (heap_of s) refl (as_ref (read s thrown_variable)) thrown_is in (
          λ x. let y = all.0 x.1.1.1 in record { well_formed = x.0; thrown = instance.0 x.1.0; created = created.0 x.1.1.0; signalled = y.0.0; only = y.0.1.0; allowed = y.0.1.1; invariant = y.1 },
          λ y. (y.well_formed, (instance.1 y.thrown, (created.1 y.created, all.1 ((y.signalled, (y.only, y.allowed)), y.invariant)))),
        )

    -- ---- the frame and the measure

    frame_is : (q : Location) → within i s [] k.assignable q ≡ assignable_at g (contract_of p c) before this arguments q
    frame_is q =
        one_test _ _ (located_all g sp i s world stands Before [] c.assignable q.at q.field)
        (located_all g (contract_spelling c.parameters c.result) (interpretation_of (contract_of p c) entry) (state_of (contract_of p c) entry) (world_of c entry) (contract_stands p c own entry) Before [] c.assignable q.at q.field)
        (all_alike p (at_entry c.role) Earlier world (world_of c entry) agree_entry Before refl [] c.assignable speaks.assigned q.at q.field)

    measure_is : value i s [] k.measure ≡ measure_at g (contract_of p c) before this arguments
    measure_is =
        spelled g sp i s world stands Before [] c.measure
        ∙ meant_alike p (at_entry c.role) Earlier world (world_of c entry) agree_entry Before refl [] c.measure speaks.measured
        ∙ sym (spelled g (contract_spelling c.parameters c.result) (interpretation_of (contract_of p c) entry) (state_of (contract_of p c) entry) (world_of c entry) (contract_stands p c own entry) Before [] c.measure)

  -- ---- the form of the members

  entry_order : AllFirstOrder (map loosened (entry_members p fields κ.class k))
  entry_order = subst AllFirstOrder (sym (members_are false)) (
    tt,
    tight.order_joined (map loosened (receiver_members c.role κ.class)) _ (tight.order_receiver c.role κ.class)
        (tight.order_joined (parameter_members k.parameters) _ (tight.order_parameters k.parameters)
        (tight.order_joined k.requires_ _ (tight.order_clauses p sp Before c.requires_)
        (tight.order_joined (invariant_members k.role (Constant entry_heap)) _ (tight.order_invariant c.role (Constant entry_heap)) (tight.order_fields p fields c.role)))),
  )

  exit_order : AllFirstOrder (normal_members k ++ invariant_members k.role (ProgramVariable heap_name))
  exit_order =
      tight.order_joined (normal_members k) _
      (tight.order_joined (result_members c.result) _ (tight.order_result c.result)
      (tight.order_joined k.ensures_ _ (tight.order_clauses p sp Now c.ensures_)
      (tight.order_joined (established_members k.role) _ (tight.order_established c.role) (tight.order_unless_normal c.behaviour))))
      (tight.order_invariant c.role (ProgramVariable heap_name))

  exceptional_order : AllFirstOrder (exceptional_members p k ++ invariant_members k.role (ProgramVariable heap_name))
  exceptional_order = (
    tt,
    (
      tt,
      tight.order_joined (signalled_members k.signals ++ (map only_member k.signals_only ++ unless_exceptional k.behaviour)) _
          (tight.order_joined (signalled_members k.signals) _ (tight.order_signals p sp Now c.signals)
          (tight.order_joined (map only_member k.signals_only) _ (tight.order_only c.signals_only) (tight.order_unless_exceptional c.behaviour)))
          (tight.order_invariant c.role (ProgramVariable heap_name)),
    ),
  )

  back_iff : {A B : Type 0} → A ↔ B → B ↔ A
  back_iff h = (h.1, h.0)

  pub row_stands : CaseStandsFor (specified j) (case_of p κ) b (row_of p fields κ b)
  row_stands = record {
    method = refl;
    class = refl;
    number = refl;
    diverges = refl;
    sorts = fits.sorts;
    apart = fits.apart;
    entry_first_order = entry_order;
    exit_first_order = exit_order;
    exceptional_first_order = exceptional_order;
    entry = λ exactly d i s. entry_iff d i s exactly;
    exit = λ d i s. iff_then (jml_normal d i s) (back_iff (means.normal_end (normal d i s)));
    exceptional = λ d i s. iff_then (jml_exceptional d i s) (back_iff (means.exceptional_end (exceptional d i s)));
    frame = λ i s q. frame_is 0 i s q;
    measure = λ i s. measure_is 0 i s;
  }

-- From an obligation's validity to its case: in a box to a depth, in a diamond from the entry states of one measure.
use Rattle.std.proofs.Common.{◌≡◌, ℕ, Bool, true, false, ℤ, option_map, Option, Some, None, List, [], ◌∷◌, ◌++◌, map, refl, sym, ap, ◌∙◌, subst, true≢false, ◌+◌, arith}
use Rattle.jd_base.specs.declared.sort.Sort.{Sort}
use Rattle.jd_base.specs.declared.sort.Sort.TheVariants.{Int as IntSort}
use Rattle.jd_syntax.specs.Names.{Name}
use Rattle.jd_syntax.specs.CodeNames.{heap_name}
use Rattle.jd_syntax.specs.Codes.{PlainCode}
use Rattle.jd_term.specs.declared.formula.Modality.TheVariants.{Possibility}
use Rattle.jd_term.specs.Terms.{NullTerm, Constant, PlainLoc, NoLocations, AllLocations, Single, ObjectFields, ArrayElements, ElementRange, Union}
use Rattle.jd_term.specs.Formulas.{PlainFormula, Updated, Modal}
use Rattle.jd_heap.specs.References.{Reference, Null, Location, location, is_null}
use Rattle.jd_heap.specs.Heaps.{Heap, is_created, SameAt}
use Rattle.jd_heap.specs.Values.{Value, IntValue, RefValue, HeapValue, as_int, as_ref, as_heap, at_sort, default, IsOf}
use Rattle.jd_model.specs.Sequents.{PlainSequent}
use Rattle.jd_model.specs.SpecialNames.{entry_heap, entry_measure, receiver, thrown_variable}
use Rattle.jd_model.specs.States.{State, read, write, heap_of, with_heap, empty_state}
use Rattle.jd_model.specs.Programs.{Body}
use Rattle.jd_model.specs.Outcomes.{Outcome, Normal, Broke, Returned, Thrown, Stopped, NoLength, NotEnded, set_default, set_result, given, IsOver, Extends}
use Rattle.jd_model.specs.Runs.{with_one, with_values, exec_at}
use Rattle.jd_model.specs.TermValues.{value, within, updated}
use Rattle.jd_model.specs.Truth.{Setting, Truth, InvTruth, IfEnds}
use Rattle.jd_model.specs.Validity.{AllTrue, Valid}
use Rattle.jd_model.specs.Cases.{Role, Static, Ordinary, Helper, ConstructorOf, DeclaredType, Contract, Case, SpecifiedProgram}
use Rattle.jd_model.specs.EntryExit.{EntryAs, Receiver, NormalEnd, ExceptionalEnd, normal_moment, thrown_moment, Framed, AllHold, ResultOf, with_result, interpretation_of, NormalExit, ExceptionalExit, assignable_at, measure_at}
use Rattle.jd_model.specs.KeptCases.{start_state, Entry, Exit, run_of, measure_of}
use Rattle.jd_model.specs.Conjunctions.{frame}
use Rattle.jd_model.specs.Bodies.{AtEnd}
use Rattle.jd_model.specs.Tables.{HasResult, receiver_in, result_in, constants_of_parameters}
use Rattle.jd_model.specs.ResolvedBodies.{IsResolved, AllResolved, IsMethodEnd, MeetsNoBadLength}
use Rattle.jd_model.proofs.More.{more}
use Rattle.jd_model.proofs.Sorts.{value_sort}
use Rattle.jd_model.proofs.Stable.{stable_Truth, stable_if}
use Rattle.jd_model.proofs.FrameTruth.{frame_truth}
use Rattle.jd_model.proofs.ResolvedEnds.{resolved_bodies_end}
use Rattle.jd_model.proofs.Writes.{read_own}
use Rattle.jd_oblig.specs.CaseObligations.{modality_of, measure_members, entry_formula, receiver_pairs, parameter_pair, start_pairs, run_code, invariant_members, frame_members, exit_members, exit_formula, result_name}
use Rattle.jd_oblig.specs.KeptByObligations.{IsObligationOf, sort_of_result}
use Rattle.jd_oblig.proofs.Members.{conj_true, conj_parts, front_true, back_true, join_true}
use Rattle.jd_model.proofs.GivenNames.{reads_given}
use Rattle.jd_oblig.proofs.Starts.{sorted_by, updated_parameters, updated_receiver, same_write, start_unthrown, run_unthrown}
use Rattle.jd_oblig.proofs.Results.{around, around_over, ends_over, same_end, seen, default_result, default_heap, default_thrown, given_result, given_heap, given_thrown, caught_heap}

abbrev first : List Value → Value
first [] = RefValue Null
first (v ∷ l) = v

abbrev rest : List Value → List Value
rest [] = []
rest (v ∷ l) = l

int_value : (v : Value) → IsOf IntSort v → IntValue (as_int v) ≡ v
int_value (IntValue z) o = refl
int_value v o = absurd o

-- an end that is asked of a deeper run is asked of this one
pub exit_by : (p : SpecifiedProgram) (c : Contract) (b : Body) (h : Heap) (r : Reference) (vs : List Value) (o q : Outcome (Unit {0})) → Extends o q → Exit p c b h r vs q → Exit p c b h r vs o
exit_by p c b h r vs (Normal u t) q e x = subst (Exit p c b h r vs) (sym (e tt)) x
exit_by p c b h r vs (Returned v t) q e x = subst (Exit p c b h r vs) (sym (e tt)) x
exit_by p c b h r vs (Thrown y t) q e x = subst (Exit p c b h r vs) (sym (e tt)) x
exit_by p c b h r vs (Broke l t) q e x = subst (Exit p c b h r vs) (sym (e tt)) x
exit_by p c b h r vs (Stopped t) q e x = subst (Exit p c b h r vs) (sym (e tt)) x
exit_by p c b h r vs NoLength q e x = subst (Exit p c b h r vs) (sym (e tt)) x
exit_by p c b h r vs NotEnded q e x = tt

-- ---- a method without a result: its contract does not see the body's value

module _ (g : Setting) (h : Heap) (r : Reference) (vs : List Value) (k : Heap) (v w : Value) where
  abbrev after : State
  after = write (with_heap empty_state k) thrown_variable (RefValue Null)

  unseen_holds : (c : Contract) → c.result ≡ None → (l : List PlainFormula) → AllHold g c (normal_moment g h r vs k v) l → AllHold g c (normal_moment g h r vs k w) l
  unseen_holds c e [] x = tt
  unseen_holds c e (a ∷ l) x = (
    subst (λ s. Truth g 0 (interpretation_of c (normal_moment g h r vs k v)) s [] a) ((λ j. with_result (e j) v after) ∙ (λ j. with_result (sym e j) w after)) x.0,
    unseen_holds c e l x.1,
  )

  unseen_end : (c : Contract) → c.result ≡ None → NormalEnd g c (normal_moment g h r vs k v) → NormalEnd g c (normal_moment g h r vs k w)
  unseen_end c e x = record {
    well_formed = x.well_formed;
    typed = subst (λ a. ResultOf g k a w) (sym e) tt;
    ensured = unseen_holds c e c.ensures_ x.ensured;
    invariant = x.invariant;
    allowed = x.allowed;
  }

pub seen_end : (g : Setting) (c : Contract) (h : Heap) (r : Reference) (vs : List Value) (k : Heap) (v : Value) (a : Option DeclaredType) → c.result ≡ a → NormalEnd g c (normal_moment g h r vs k (seen a v)) → NormalEnd g c (normal_moment g h r vs k v)
seen_end g c h r vs k v None e x = unseen_end g h r vs k (RefValue Null) v c e x
seen_end g c h r vs k v (Some d) e x = x

-- ---- from an entry state

module _ (p : SpecifiedProgram) (all : AllResolved p.setting.program) (c : Case) (q : PlainSequent) (o : IsObligationOf p c q) (h : Heap) (r : Reference) (vs : List Value) (en : Entry p c h r vs) (m : ℤ) where
  abbrev g : Setting
  g = p.setting

  abbrev b : Body
  b = o.body

  abbrev constants : List Name
  constants = constants_of_parameters o.body.parameters

  abbrev all_names : List Name
  all_names = entry_measure ∷ entry_heap ∷ receiver ∷ constants

  abbrev all_values : List Value
  all_values = IntValue m ∷ HeapValue h ∷ RefValue r ∷ vs

  abbrev i : State
  i = with_values empty_state all_names all_values

  resolved : IsResolved o.body
  resolved = all c.body o.body o.runs

  i_reads : map (read i) all_names ≡ all_values
  i_reads = reads_given empty_state all_names all_values o.stands.apart (tt, (tt, (tt, sorted_by p.setting h o.body.parameters c.contract.parameters vs o.stands.sorts en.arguments)))

  i_measure : read i entry_measure ≡ IntValue m
  i_measure = ap first i_reads

  i_heap : read i entry_heap ≡ HeapValue h
  i_heap = ap (λ l. first (rest l)) i_reads

  i_this : read i receiver ≡ RefValue r
  i_this = ap (λ l. first (rest (rest l))) i_reads

  i_arguments : map (read i) constants ≡ vs
  i_arguments = ap (λ l. rest (rest (rest l))) i_reads

  receiver_is : (a : Role) → Receiver p.setting true a c.class h r → receiver_in a i ≡ r
  receiver_is Static e = sym e
  receiver_is Ordinary e = ap as_ref i_this
  receiver_is Helper e = ap as_ref i_this
  receiver_is (ConstructorOf a) e = ap as_ref i_this

  i_receiver : receiver_in c.contract.role i ≡ r
  i_receiver = receiver_is c.contract.role en.receiver

  abbrev begin : State
  begin = start_state o.body h r vs

  begin_thrown : read begin thrown_variable ≡ RefValue Null
  begin_thrown = start_unthrown o.body resolved h r vs

  -- the obligation's update makes the state in which the body starts
  update_is : updated i empty_state [] (start_pairs o.body) empty_state ≡ begin
  update_is =
      (λ e. updated i empty_state [] (receiver_pairs o.body.receiver ++ (map parameter_pair o.body.parameters ++ ((thrown_variable, NullTerm) ∷ []))) (write empty_state heap_name (i_heap e)))
      ∙ updated_receiver i empty_state o.body.receiver (map parameter_pair o.body.parameters ++ ((thrown_variable, NullTerm) ∷ [])) (with_heap empty_state h) r i_this
      ∙ updated_parameters i empty_state o.body.parameters ((thrown_variable, NullTerm) ∷ []) (with_one (with_heap empty_state h) o.body.receiver (RefValue r))
      ∙ (λ e. write (with_values (with_one (with_heap empty_state h) o.body.receiver (RefValue r)) o.body.parameters (i_arguments e)) thrown_variable (RefValue Null))
      ∙ same_write begin thrown_variable (RefValue Null) refl begin_thrown

  -- the measure of the entry state is that of the row's term
  measure_is : value i empty_state [] o.row.measure ≡ measure_at p.setting c.contract h r vs
  measure_is = o.stands.measure i empty_state ∙ (λ e. measure_at p.setting c.contract (as_heap (i_heap e)) (i_receiver e) (i_arguments e))

  measure_true : (dv : Bool) (d : ℕ) → (dv ≡ false → measure_of p c h r vs ≡ m) → AllTrue p.setting d i empty_state [] (measure_members dv o.row.measure)
  measure_true true d same = tt
  measure_true false d same = (
    i_measure ∙ (λ e. IntValue (sym (same refl) e)) ∙ (λ e. IntValue (as_int (sym measure_is e)))
        ∙ int_value (value i empty_state [] o.row.measure) (subst (λ k. IsOf k (value i empty_state [] o.row.measure)) o.measure (value_sort i empty_state [] o.row.measure)),
    tt,
  )

  entry_true : (d : ℕ) → (c.contract.diverges ≡ false → measure_of p c h r vs ≡ m) → Truth p.setting d i empty_state [] (entry_formula o.row)
  entry_true d same = conj_true p.setting d i empty_state (o.row.entry ++ measure_members o.row.diverges o.row.measure) (join_true p.setting d i empty_state o.row.entry (measure_members o.row.diverges o.row.measure)
      ((o.stands.entry true d i empty_state).1 (subst (λ (e : Heap × Reference × List Value). EntryAs p.setting true c.contract c.class e.0 e.1 e.2) (λ e. (as_heap (sym i_heap e), sym i_receiver e, sym i_arguments e)) en))
      (measure_true o.row.diverges d (λ e. same (sym o.stands.diverges ∙ e))))

  abbrev post : PlainFormula
  post = exit_formula o.row o.parts

  abbrev code : PlainCode
  code = run_code (option_map sort_of_result c.contract.result) o.body

  -- the obligation's modality where the body starts
  modality_true : (d : ℕ) → (c.contract.diverges ≡ false → measure_of p c h r vs ≡ m) → Valid p.setting d m q → Truth p.setting d i begin [] (Modal (modality_of c.contract.diverges) code post)
  modality_true d same valid = subst (λ (e : State × Bool × Option Sort). Truth p.setting d i e.0 [] (Modal (modality_of e.1) (run_code e.2 o.body) post)) (λ j. (update_is j, o.stands.diverges j, sym o.result j))
      (stable_Truth p.setting d i empty_state [] (Updated (start_pairs o.body) (Modal (modality_of o.row.diverges) (run_code o.parts.result o.body) post))
      (λ denied. subst (Valid p.setting d m) o.sequent valid i empty_state i_measure ((entry_true d same, tt), (denied, tt))))

  -- ---- from the exit's formula to the exit

  abbrev assignable : Location → Bool
  assignable = assignable_at p.setting c.contract h r vs

  frame_one : (d : ℕ) (t : State) (l : PlainLoc) (L : Location → Bool) → ((x : Location) → within i t [] l x ≡ L x) → Truth p.setting d i t [] (frame l (Constant entry_heap)) → Framed p.setting L h (heap_of t)
  frame_one d t l L same fr a e out is_made =
      let at = frame_truth p.setting d (InvTruth p.setting d) i t [] l (Constant entry_heap) fr a e (same (location a e) ∙ out) (ap (λ v. is_created (as_heap v) a) i_heap ∙ is_made) in
      subst (λ k. SameAt k (heap_of t) a e) (ap as_heap i_heap) (sym at.0, sym at.1, sym at.2)

  frame_of : (d : ℕ) (t : State) (l : PlainLoc) (L : Location → Bool) → ((x : Location) → within i t [] l x ≡ L x) → AllTrue p.setting d i t [] (frame_members l) → Framed p.setting L h (heap_of t)
  frame_of d t AllLocations L same fr = λ a e out is_made. absurd (true≢false (same (location a e) ∙ out))
  frame_of d t NoLocations L same fr = frame_one d t NoLocations L same fr.0
  frame_of d t (Single x y) L same fr = frame_one d t (Single x y) L same fr.0
  frame_of d t (ObjectFields x) L same fr = frame_one d t (ObjectFields x) L same fr.0
  frame_of d t (ArrayElements x) L same fr = frame_one d t (ArrayElements x) L same fr.0
  frame_of d t (ElementRange x y z) L same fr = frame_one d t (ElementRange x y z) L same fr.0
  frame_of d t (Union x y) L same fr = frame_one d t (Union x y) L same fr.0

  framed : (d : ℕ) (t : State) → AllTrue p.setting d i t [] (invariant_members o.parts.keeps_invariant ++ frame_members o.row.frame) → Framed p.setting assignable h (heap_of t)
  framed d t given = frame_of d t o.row.frame assignable
      (λ x. o.stands.frame i t x ∙ (λ e. assignable_at p.setting c.contract (as_heap (i_heap e)) (i_receiver e) (i_arguments e) x))
      (back_true p.setting d i t (invariant_members o.parts.keeps_invariant) (frame_members o.row.frame) given)

  normal_exit : (d : ℕ) (t : State) (k : Heap) (v : Value) → Truth p.setting d i t [] post → heap_of t ≡ k → read t thrown_variable ≡ RefValue Null → result_in c.contract.result t ≡ seen c.contract.result v → NormalExit p.setting c.contract h r vs k v
  normal_exit d t k v holds same none res =
      let parts = conj_parts p.setting d i t (exit_members o.row o.parts) holds in
      let ends = (o.stands.exit d i t).0 (parts.0, subst (AllTrue p.setting d i t []) (sym o.normal) (join_true p.setting d i t o.parts.normal (invariant_members o.parts.keeps_invariant) (conj_parts p.setting d i t o.parts.normal (parts.1.0 none)) (front_true p.setting d i t (invariant_members o.parts.keeps_invariant) (frame_members o.row.frame) parts.1.1.1))) in (
        seen_end p.setting c.contract h r vs k v c.contract.result refl (subst (λ (e : Heap × Reference × List Value × Heap × Value). NormalEnd p.setting c.contract (normal_moment p.setting e.0 e.1 e.2 e.3 e.4)) (λ e. (as_heap (i_heap e), i_receiver e, i_arguments e, same e, res e)) ends),
        subst (Framed p.setting assignable h) same (framed d t parts.1.1.1),
      )

  exceptional_exit : (d : ℕ) (t : State) (k : Heap) (x : Reference) → Truth p.setting d i t [] post → heap_of t ≡ k → read t thrown_variable ≡ RefValue x → is_null x ≡ false → ExceptionalExit p.setting c.contract h r vs k x
  exceptional_exit d t k x holds same thrown_is some =
      let parts = conj_parts p.setting d i t (exit_members o.row o.parts) holds in
      let ends = (o.stands.exceptional d i t).0 (parts.0, subst (AllTrue p.setting d i t []) (sym o.exceptional) (join_true p.setting d i t o.parts.exceptional (invariant_members o.parts.keeps_invariant) (conj_parts p.setting d i t o.parts.exceptional (parts.1.1.0 (λ null. true≢false (ap (λ v. is_null (as_ref v)) (sym null ∙ thrown_is) ∙ some)))) (front_true p.setting d i t (invariant_members o.parts.keeps_invariant) (frame_members o.row.frame) parts.1.1.1))) in (
        subst (λ (e : Heap × Reference × List Value × Heap × Reference). ExceptionalEnd p.setting c.contract (thrown_moment p.setting e.0 e.1 e.2 e.3 e.4)) (λ e. (as_heap (i_heap e), i_receiver e, i_arguments e, same e, as_ref (thrown_is e))) ends,
        subst (Framed p.setting assignable h) same (framed d t parts.1.1.1),
      )

  has_result : HasResult (option_map sort_of_result c.contract.result) o.body.result
  has_result = subst (λ k. HasResult k o.body.result) (sym o.result) o.result_of_body

  abbrev result_at : Option Name
  result_at = result_name (option_map sort_of_result c.contract.result)

  exit_of : (d : ℕ) (x : Outcome (Unit {0})) → IsMethodEnd x → MeetsNoBadLength x → AtEnd x (λ t. read t thrown_variable ≡ RefValue Null) → IfEnds (around result_at x) (λ t. Truth p.setting d i t [] post) → Exit p c.contract o.body h r vs x
  exit_of d (Normal u t) ended lengths none holds = normal_exit d (set_default result_at t) (heap_of t) (default o.body.result) holds (default_heap c.contract.result t) (default_thrown c.contract.result t ∙ none) (default_result o.body c.contract.result has_result t)
  exit_of d (Returned v t) ended lengths none holds = normal_exit d (set_result result_at v t) (heap_of t) (at_sort o.body.result (given o.body.result v)) holds (given_heap c.contract.result v t) (given_thrown c.contract.result v t ∙ none) (given_result o.body c.contract.result has_result v t)
  exit_of d (Thrown x t) ended lengths none holds = exceptional_exit d (write t thrown_variable (RefValue x)) (heap_of t) x holds (caught_heap t (RefValue x)) (read_own t thrown_variable (RefValue x) tt) ended
  exit_of d (Broke l t) ended lengths none holds = absurd ended
  exit_of d (Stopped t) ended lengths none holds = absurd ended
  exit_of d NoLength ended lengths none holds = absurd lengths
  exit_of d NotEnded ended lengths none holds = tt

  exit_at : (d e n : ℕ) → IfEnds (exec_at p.setting.program e n code begin) (λ t. Truth p.setting d i t [] post) → Exit p c.contract o.body h r vs (run_of p o.body e n h r vs)
  exit_at d e n holds = exit_of d (run_of p o.body e n h r vs)
      (resolved_bodies_end.as_methods p.setting.program all c.body o.body o.runs e n begin)
      (resolved_bodies_end.with_lengths p all c o.body o.runs h r vs en e n)
      (run_unthrown p.setting.program o.body resolved e n begin begin_thrown) holds

  -- in a box
  pub box_exit : (d n : ℕ) → c.contract.diverges ≡ true → Valid p.setting d m q → Exit p c.contract o.body h r vs (run_of p o.body d n h r vs)
  box_exit d n may valid = exit_at d d n (subst (λ z. Truth p.setting d i begin [] (Modal (modality_of z) code post)) may (modality_true d (λ must. absurd (true≢false (sym may ∙ must))) valid) n)

  -- in a diamond
  module _ (d : ℕ) (must : c.contract.diverges ≡ false) (same : measure_of p c h r vs ≡ m) (valid : Valid p.setting d m q) where
    goes : Truth p.setting d i begin [] (Modal Possibility code post)
    goes = subst (λ z. Truth p.setting d i begin [] (Modal (modality_of z) code post)) must (modality_true d (λ _. same) valid)

    pub diamond_exit : (e n : ℕ) → Exit p c.contract o.body h r vs (run_of p o.body e n h r vs)
    diamond_exit e n = exit_at d e n
        (stable_if (exec_at p.setting.program e n code begin) (λ t. Truth p.setting d i t [] post) (λ t. stable_Truth p.setting d i t [] post)
        (λ denied. goes (λ e' n' ends. denied (same_end (exec_at p.setting.program e n code begin) (exec_at p.setting.program e' n' code begin) (exec_at p.setting.program (e + e') (n + n') code begin) (λ t. Truth p.setting d i t [] post) (more p.setting.program e (e + e') n (n + n') (omega arith) (omega arith) code begin) (more p.setting.program e' (e + e') n' (n + n') (omega arith) (omega arith) code begin) ends))))

    pub diamond_ends : ¬ ((e n : ℕ) → ¬ (IsOver (run_of p o.body e n h r vs)))
    diamond_ends never = goes (λ e n ends. never e n (around_over result_at (run_of p o.body e n h r vs) (ends_over (exec_at p.setting.program e n code begin) (λ t. Truth p.setting d i t [] post) ends)))

-- A place where a contract is used: what its premises' parts say of the states before and after the call.
use Rattle.std.proofs.Common.{Bool, List, None, Option, Some, ap, false, map, refl, subst, sym, true, true≢false, ◌≡◌, ◌++◌, ◌∷◌, ◌∙◌, ℕ, []}
use Rattle.jd_base.specs.declared.sort.Sort.{Sort}
use Rattle.jd_base.specs.declared.sort.Sort.TheVariants.{Bool as BoolSort, Field as FieldSort, Heap as HeapSort, Int as IntSort, Ref as RefSort}
use Rattle.jd_call.proofs.Calls.{receiver_term, values}
use Rattle.jd_call.specs.Calls.{ConstructorTarget, StaticTarget, Target, VirtualTarget, receiver_constants, receiver_terms, terms_of}
use Rattle.jd_task_classes.specs.Methods.{IsResultSort}
use Rattle.jd_call.specs.Premises.{at_entry, at_exit, constants, exception_constant, heap_after, heap_before, result_constant, result_terms, result_variables}
use Rattle.jd_heap.specs.Heaps.{Heap, anon}
use Rattle.jd_heap.specs.References.{Location, Null, Reference}
use Rattle.jd_heap.specs.Values.{BoolValue, HeapValue, IntValue, IsOf, RefValue, Value, as_heap, as_ref}
use Rattle.jd_model.proofs.Coincidence.{Agree}
use Rattle.jd_model.proofs.Frames.{anon_frame}
use Rattle.jd_model.proofs.GivenNames.{Fit, fit_sorted, look_value, reads_given}
use Rattle.jd_model.proofs.Grows.{heap_written, same_heap}
use Rattle.jd_model.proofs.Renaming.{rename_all_true, rename_value_all, rename_within_all}
use Rattle.jd_model.proofs.SimpleExpressions.{value_of_simple}
use Rattle.jd_model.proofs.States.{read_of}
use Rattle.jd_model.proofs.Writes.{flip_apart, read_own, read_there}
use Rattle.jd_model.specs.Bodies.{Grows}
use Rattle.jd_model.specs.Cases.{Case, ConstructorOf, Contract, DeclaredType, Helper, Ordinary, Role, SpecifiedProgram, Static}
use Rattle.jd_model.specs.Conjunctions.{conjunction}
use Rattle.jd_model.specs.ContractForms.{PlainCase}
use Rattle.jd_model.specs.EntryExit.{AllHold, EntryAs, ExceptionalEnd, Framed, Moment, NormalEnd, ResultOf, assignable_at, interpretation_of, is_of, measure_at, normal_moment, state_of, thrown_moment, with_result}
use Rattle.jd_model.specs.Occurrences.{AllApart, Other}
use Rattle.jd_model.specs.Programs.{Body, BooleanType, IntType, ReferenceType, ValueType, type_sort}
use Rattle.jd_model.specs.Renamings.{AllFirstOrder, rename_all}
use Rattle.jd_term.specs.Renamings.{Renaming, rename_loc, rename_term}
use Rattle.jd_model.specs.Runs.{with_values}
use Rattle.jd_model.specs.SimpleExpressions.{SimpleOf, term_of}
use Rattle.jd_model.specs.SpecialNames.{entry_heap, receiver, result_variable, thrown_variable}
use Rattle.jd_model.specs.States.{State, empty_state, heap_of, read, with_heap, write}
use Rattle.jd_model.specs.Tables.{CaseStandsFor, constants_of_parameters, loosened, receiver_in, result_in}
use Rattle.jd_model.specs.TermValues.{updated, value, within}
use Rattle.jd_model.specs.Truth.{Setting, Truth}
use Rattle.jd_model.specs.Validity.{AllTrue}
use Rattle.jd_model.specs.WellFormedHeaps.{IsWellFormed}
use Rattle.jd_syntax.specs.CodeNames.{heap_name, same_name}
use Rattle.jd_syntax.specs.Codes.{BoolLiteral, Expr, ExprThen, Exprs, IntLiteral, NoExprs, NullLiteral, Variable}
use Rattle.jd_syntax.specs.Names.{Name}
use Rattle.jd_term.specs.Formulas.{PlainFormula, WellFormed}
use Rattle.jd_term.specs.Terms.{Anon, Constant, PlainTerm, ProgramVariable}

-- ---- lists of members

module _ (g : Setting) (d : ℕ) (i s : State) where
  pub conj_true : (l : List PlainFormula) → AllTrue g d i s [] l → Truth g d i s [] (conjunction l)
  conj_true [] h = tt
  conj_true (a ∷ []) h = h.0
  conj_true (a ∷ c ∷ l) h = (h.0, conj_true (c ∷ l) h.1)

  pub conj_parts : (l : List PlainFormula) → Truth g d i s [] (conjunction l) → AllTrue g d i s [] l
  conj_parts [] h = tt
  conj_parts (a ∷ []) h = (h, tt)
  conj_parts (a ∷ c ∷ l) h = (h.0, conj_parts (c ∷ l) h.1)

  pub front_true : (l m : List PlainFormula) → AllTrue g d i s [] (l ++ m) → AllTrue g d i s [] l
  front_true [] m h = tt
  front_true (a ∷ l) m h = (h.0, front_true l m h.1)

  pub back_true : (l m : List PlainFormula) → AllTrue g d i s [] (l ++ m) → AllTrue g d i s [] m
  back_true [] m h = h
  back_true (a ∷ l) m h = back_true l m h.1

-- ---- operands

abbrev pub OperandIn : (Name → Type 0) → Expr → Type 0
OperandIn P (Variable x) = P x
OperandIn P e = Unit {0}

-- a receiver where the role has one
abbrev pub TargetOk : (Name → Type 0) → Target → Role → Type 0
TargetOk P (VirtualTarget k m a) Ordinary = SimpleOf RefSort a × OperandIn P a
TargetOk P (VirtualTarget k m a) Helper = SimpleOf RefSort a × OperandIn P a
TargetOk P (StaticTarget m) Static = Unit {0}
TargetOk P (ConstructorTarget m a) (ConstructorOf c) = SimpleOf RefSort a × OperandIn P a
TargetOk P t r = ⊥

abbrev pub ArgumentsOk : (Name → Type 0) → Exprs → List Name → Type 0
ArgumentsOk P NoExprs [] = Unit {0}
ArgumentsOk P (ExprThen a bs) (x ∷ xs) = SimpleOf x.sort a × OperandIn P a × ArgumentsOk P bs xs
ArgumentsOk P bs xs = ⊥

abbrev pub receiver_values : Target → Value → List Value
receiver_values (VirtualTarget k m a) v = v ∷ []
receiver_values (StaticTarget m) v = []
receiver_values (ConstructorTarget m a) v = v ∷ []

operand_same : (P : Name → Type 0) (i s j t : State) (k : Sort) (e : Expr) → SimpleOf k e → OperandIn P e → Agree P s t → (b : List Value) → value j t b (term_of e) ≡ value i s [] (term_of e)
operand_same P i s j t IntSort (IntLiteral z) o q h b = refl
operand_same P i s j t BoolSort (BoolLiteral z) o q h b = refl
operand_same P i s j t RefSort NullLiteral o q h b = refl
operand_same P i s j t k (Variable x) o q h b = sym (h x q)
operand_same P i s j t k e o q h b = absurd o

module _ (P : Name → Type 0) (i s j t : State) (same : Agree P s t) where
  arguments_fit : (bs : Exprs) (xs : List Name) → ArgumentsOk P bs xs → Fit j t xs (terms_of bs) (values i s [] (terms_of bs))
  arguments_fit NoExprs [] o = tt
  arguments_fit (ExprThen a bs) (x ∷ xs) o = (operand_same P i s j t x.sort a o.0 o.1 same, value_of_simple i [] x.sort a o.0 s, arguments_fit bs xs o.2)
  arguments_fit NoExprs (x ∷ xs) o = absurd o
  arguments_fit (ExprThen a bs) [] o = absurd o

  receiver_fit : (a : Target) (r : Role) → TargetOk P a r → (xs : List Name) (us : List PlainTerm) (vs : List Value) → Fit j t xs us vs → Fit j t (receiver_constants a ++ xs) (receiver_terms a ++ us) (receiver_values a (value i s [] (receiver_term a)) ++ vs)
  receiver_fit (VirtualTarget k m a) Ordinary o xs us vs h = (operand_same P i s j t RefSort a o.0 o.1 same, value_of_simple i [] RefSort a o.0 s, h)
  receiver_fit (VirtualTarget k m a) Helper o xs us vs h = (operand_same P i s j t RefSort a o.0 o.1 same, value_of_simple i [] RefSort a o.0 s, h)
  receiver_fit (StaticTarget m) Static o xs us vs h = h
  receiver_fit (ConstructorTarget m a) (ConstructorOf c) o xs us vs h = (operand_same P i s j t RefSort a o.0 o.1 same, value_of_simple i [] RefSort a o.0 s, h)
  receiver_fit a r o xs us vs h = absurd o

apart_names : (a : Target) (xs : List Name) → AllApart (entry_heap ∷ (receiver ∷ xs)) → AllApart (entry_heap ∷ (receiver_constants a ++ xs))
apart_names (VirtualTarget k m a) xs o = o
apart_names (StaticTarget m) xs o = (o.0.1, o.1.1)
apart_names (ConstructorTarget m a) xs o = o

abbrev first : Value → List Value → Value
first v [] = v
first v (w ∷ l) = w

abbrev rest : List Value → List Value
rest [] = []
rest (w ∷ l) = l

-- what an interpretation with these values says
module _ (k : State) (h v : Value) (xs : List Name) (vs : List Value) where
  reads_arguments : (a : Target) → map (read k) (entry_heap ∷ (receiver_constants a ++ xs)) ≡ h ∷ (receiver_values a v ++ vs) → map (read k) xs ≡ vs
  reads_arguments (VirtualTarget c m a) e = ap (λ l. rest (rest l)) e
  reads_arguments (StaticTarget m) e = ap rest e
  reads_arguments (ConstructorTarget m a) e = ap (λ l. rest (rest l)) e

reads_receiver : (P : Name → Type 0) (i s k : State) (h : Value) (xs : List Name) (vs : List Value) (a : Target) (r : Role) → TargetOk P a r → map (read k) (entry_heap ∷ (receiver_constants a ++ xs)) ≡ h ∷ (receiver_values a (value i s [] (receiver_term a)) ++ vs) → receiver_in r k ≡ as_ref (value i s [] (receiver_term a))
reads_receiver P i s k h xs vs (VirtualTarget c m a) Ordinary o e = ap (λ l. as_ref (first (RefValue Null) (rest l))) e
reads_receiver P i s k h xs vs (VirtualTarget c m a) Helper o e = ap (λ l. as_ref (first (RefValue Null) (rest l))) e
reads_receiver P i s k h xs vs (StaticTarget m) Static o e = refl
reads_receiver P i s k h xs vs (ConstructorTarget m a) (ConstructorOf c) o e = ap (λ l. as_ref (first (RefValue Null) (rest l))) e
reads_receiver P i s k h xs vs a r o e = absurd o

-- ---- values of declared types

pub typed_sort : (g : Setting) (h : Heap) (ty : ValueType) (nullable : Bool) (v : Value) → is_of g h (record { type = ty; nullable = nullable }) v ≡ true → IsOf (type_sort ty) v
typed_sort g h IntType nl (IntValue z) e = tt
typed_sort g h BooleanType nl (BoolValue z) e = tt
typed_sort g h (ReferenceType k) nl (RefValue z) e = tt
typed_sort g h ty nl v e = absurd (true≢false (sym e))

heap_value : (v : Value) → IsOf HeapSort v → v ≡ HeapValue (as_heap v)
heap_value (HeapValue h) o = refl
heap_value v o = absurd o

-- ---- a result that the method has not is not seen

abbrev pub shown : Option DeclaredType → Value → Value
shown None v = RefValue Null
shown (Some t) v = v

module _ (g : Setting) (c : Contract) where
  all_hold : (m n : Moment) → interpretation_of c m ≡ interpretation_of c n → state_of c m ≡ state_of c n → (l : List PlainFormula) → AllHold g c m l → AllHold g c n l
  all_hold m n p q [] h = tt
  all_hold m n p q (a ∷ l) h = (subst (λ (e : State × State). Truth g 0 e.0 e.1 [] a) (λ x. (p x, q x)) h.0, all_hold m n p q l h.1)

  module _ (h : Heap) (r : Reference) (vs : List Value) (k : Heap) where
    same_unseen : c.result ≡ None → (v : Value) → state_of c (normal_moment g h r vs k v) ≡ state_of c (normal_moment g h r vs k (RefValue Null))
    same_unseen e v = (λ x. with_result (e x) v (write (with_heap empty_state k) thrown_variable (RefValue Null))) ∙ sym (λ x. with_result (e x) (RefValue Null) (write (with_heap empty_state k) thrown_variable (RefValue Null)))

    shown_end : (o : Option DeclaredType) → c.result ≡ o → (v : Value) → NormalEnd g c (normal_moment g h r vs k v) → NormalEnd g c (normal_moment g h r vs k (shown o v))
    shown_end (Some t) e v n = n
    shown_end None e v n = record {
      well_formed = n.well_formed;
      typed = subst (λ o. ResultOf g k o (RefValue Null)) (sym e) tt;
      ensured = all_hold (normal_moment g h r vs k v) (normal_moment g h r vs k (RefValue Null)) refl (same_unseen e v) c.ensures_ n.ensured;
      invariant = n.invariant;
      allowed = n.allowed;
    }

-- ---- the place

pub record Site : Type 0 where
  -- the case that the step names, the body that it runs and its row in the table
  pub case : Case
  pub body : Body
  pub form : PlainCase
  pub result : Option Sort
  pub target : Target
  pub operands : Exprs
  -- the number of the step
  pub number : ℕ

-- variables that a call and its new variables leave
abbrev pub Operand : ℕ → Name → Type 0
Operand n x = Other (heap_before n) x × Other heap_name x

pub record SiteOk (p : SpecifiedProgram) (q : Site) : Type 0 where
  pub stands : CaseStandsFor p q.case q.body q.form
  pub target : TargetOk (Operand q.number) q.target q.case.contract.role
  pub arguments : ArgumentsOk (Operand q.number) q.operands (constants_of_parameters q.body.parameters)
  pub result : IsResultSort q.result q.case.contract.result

abbrev pub entry_renaming : Site → Renaming
entry_renaming q = at_entry q.form q.body.parameters q.result q.target q.operands q.number

abbrev pub exit_renaming : Site → Renaming
exit_renaming q = at_exit q.form q.body.parameters q.result q.target q.operands q.number

pub before_new : (n : ℕ) → same_name heap_name (heap_before n) ≡ false
before_new n = refl

result_variable_sort : (k : Sort) → (result_variable k).sort ≡ k
result_variable_sort IntSort = refl
result_variable_sort BoolSort = refl
result_variable_sort RefSort = refl
result_variable_sort HeapSort = refl
result_variable_sort FieldSort = refl

result_no_heap : (k : Sort) → same_name heap_name (result_variable k) ≡ false
result_no_heap IntSort = refl
result_no_heap BoolSort = refl
result_no_heap RefSort = refl
result_no_heap HeapSort = refl
result_no_heap FieldSort = refl

result_no_exception : (k : Sort) → same_name thrown_variable (result_variable k) ≡ false
result_no_exception IntSort = refl
result_no_exception BoolSort = refl
result_no_exception RefSort = refl
result_no_exception HeapSort = refl
result_no_exception FieldSort = refl

result_own : (k : Sort) (v : Value) → IsOf k v → IsOf (result_variable k).sort v
result_own k v o = subst (λ z. IsOf z v) (sym (result_variable_sort k)) o

abbrev pub result_values : Option Sort → Value → List Value
result_values None v = []
result_values (Some k) v = v ∷ []

-- the state in which the special variables have the exception and the result
abbrev pub seen : Option Sort → State → Reference → Value → State
seen r t x v = with_values t (thrown_variable ∷ result_variables r) (RefValue x ∷ result_values r v)

seen_thrown : (r : Option Sort) (t : State) (x : Reference) (v : Value) → as_ref (read (seen r t x v) thrown_variable) ≡ x
seen_thrown None t x v = ap as_ref (read_own t thrown_variable (RefValue x) tt)
seen_thrown (Some k) t x v = ap as_ref (read_there (write t thrown_variable (RefValue x)) (result_variable k) v thrown_variable (result_no_exception k) ∙ read_own t thrown_variable (RefValue x) tt)

seen_heap : (r : Option Sort) (t : State) (x : Reference) (v : Value) → heap_of (seen r t x v) ≡ heap_of t
seen_heap None t x v = same_heap t thrown_variable (RefValue x) refl
seen_heap (Some k) t x v = same_heap (write t thrown_variable (RefValue x)) (result_variable k) v (result_no_heap k) ∙ same_heap t thrown_variable (RefValue x) refl

-- the new constants have the result, where there is one
abbrev pub ResultGiven : Option Sort → ℕ → State → Value → Type 0
ResultGiven None n j v = Unit {0}
ResultGiven (Some k) n j v = (read j (result_constant k n) ≡ v) × IsOf k v

seen_result : (r : Option Sort) (c : Option DeclaredType) → IsResultSort r c → (n : ℕ) (j t : State) (x : Reference) (v : Value) → ResultGiven r n j v → result_in c (seen r t x v) ≡ shown c v
seen_result None None o n j t x v g = refl
seen_result (Some k) (Some d) o n j t x v g = ap (λ z. read (write (write t thrown_variable (RefValue x)) (result_variable k) v) (result_variable z)) (sym o) ∙ read_own (write t thrown_variable (RefValue x)) (result_variable k) v (result_own k v g.1)
seen_result None (Some d) o n j t x v g = absurd o
seen_result (Some k) None o n j t x v g = absurd o

result_fit : (r : Option Sort) (n : ℕ) (j t : State) (v : Value) → ResultGiven r n j v → Fit j t (result_variables r) (result_terms r n) (result_values r v)
result_fit None n j t v g = tt
result_fit (Some k) n j t v g = ((λ b. g.0), result_own k v g.1, tt)

module _ (p : SpecifiedProgram) (q : Site) (ok : SiteOk p q) (i s : State) where
  abbrev g : Setting
  g = p.setting

  abbrev contract : Contract
  contract = q.case.contract

  abbrev pub call_heap : Heap
  call_heap = heap_of s

  abbrev pub given_receiver : Value
  given_receiver = value i s [] (receiver_term q.target)

  abbrev pub call_receiver : Reference
  call_receiver = as_ref given_receiver

  abbrev pub call_values : List Value
  call_values = values i s [] (terms_of q.operands)

  abbrev parameter_names : List Name
  parameter_names = constants_of_parameters q.body.parameters

  abbrev all_names : List Name
  all_names = entry_heap ∷ (receiver_constants q.target ++ parameter_names)

  abbrev all_values : List Value
  all_values = HeapValue call_heap ∷ (receiver_values q.target given_receiver ++ call_values)

  -- the interpretation that gives the case's constants their values at the call
  abbrev env : State → State
  env j = with_values j all_names all_values

  module _ (j t : State) (h : PlainTerm) (h_is : (b : List Value) → value j t b h ≡ HeapValue call_heap) (same : Agree (Operand q.number) s t) where
    all_fit : Fit j t all_names (h ∷ (receiver_terms q.target ++ terms_of q.operands)) all_values
    all_fit = (h_is, tt, receiver_fit (Operand q.number) i s j t same q.target contract.role ok.target parameter_names (terms_of q.operands) call_values (arguments_fit (Operand q.number) i s j t same q.operands parameter_names ok.arguments))

    constants_mean : (c : Name) (b : List Value) → value j t b (constants q.form q.body.parameters q.result q.target q.operands q.number h c) ≡ read (env j) c
    constants_mean c b = look_value j t all_names (h ∷ (receiver_terms q.target ++ terms_of q.operands)) all_values all_fit j (Constant c) c b refl

  pre_is : (b : List Value) → value i s b (ProgramVariable heap_name) ≡ HeapValue call_heap
  pre_is b = heap_value (read s heap_name) (read_of s heap_name)

  env_reads : (j : State) → map (read (env j)) all_names ≡ all_values
  env_reads j = reads_given j all_names all_values (apart_names q.target parameter_names ok.stands.apart.1) (fit_sorted i s all_names (ProgramVariable heap_name ∷ (receiver_terms q.target ++ terms_of q.operands)) all_values (all_fit i s (ProgramVariable heap_name) pre_is (λ x o. refl)))

  env_pre : (j : State) → as_heap (read (env j) entry_heap) ≡ call_heap
  env_pre j = ap (λ l. as_heap (first (RefValue Null) l)) (env_reads j)

  env_this : (j : State) → receiver_in contract.role (env j) ≡ call_receiver
  env_this j = reads_receiver (Operand q.number) i s (env j) (HeapValue call_heap) parameter_names call_values q.target contract.role ok.target (env_reads j)

  env_arguments : (j : State) → map (read (env j)) parameter_names ≡ call_values
  env_arguments j = reads_arguments (env j) (HeapValue call_heap) given_receiver parameter_names call_values q.target (env_reads j)

  -- the members of the entry at the call
  pub entry_means : (d : ℕ) → AllTrue g d i s [] (rename_all (entry_renaming q) (map loosened q.form.entry)) → EntryAs g false contract q.case.class call_heap call_receiver call_values
  entry_means d h = subst (λ (e : Heap × Reference × List Value). EntryAs g false contract q.case.class e.0 e.1 e.2) (λ e. (env_pre i e, env_this i e, env_arguments i e))
      ((ok.stands.entry false d (env i) s).0
      (subst (λ X. X) (rename_all_true (entry_renaming q) i s (env i) s (constants_mean i s (ProgramVariable heap_name) pre_is (λ x o. refl)) (λ x b. refl) g d (map loosened q.form.entry) ok.stands.entry_first_order) h))

  -- the measure at the call
  pub measure_means : value i s [] (rename_term (entry_renaming q) q.form.measure) ≡ measure_at g contract call_heap call_receiver call_values
  measure_means =
      rename_value_all (entry_renaming q) i s (env i) s (constants_mean i s (ProgramVariable heap_name) pre_is (λ x o. refl)) (λ x b. refl) q.form.measure []
      ∙ ok.stands.measure (env i) s
      ∙ (λ e. measure_at g contract (env_pre i e) (env_this i e) (env_arguments i e))

  -- ---- the heap after the call

  abbrev before_state : State
  before_state = write s (heap_before q.number) (read s heap_name)

  abbrev pub after_state : Heap → State
  after_state k = with_heap (write s (heap_before q.number) (HeapValue call_heap)) k

  before_heap : read before_state heap_name ≡ HeapValue call_heap
  before_heap = read_there s (heap_before q.number) (read s heap_name) heap_name (before_new q.number) ∙ pre_is []

  before_same : Agree (Operand q.number) s before_state
  before_same x o = sym (read_there s (heap_before q.number) (read s heap_name) x o.0)

  new_heap : State → Heap
  new_heap j = anon (as_heap (read before_state heap_name)) (within j before_state [] (rename_loc (entry_renaming q) q.form.frame)) (as_heap (read j (heap_after q.number)))

  frame_means : (j : State) (l : Location) → within j before_state [] (rename_loc (entry_renaming q) q.form.frame) l ≡ assignable_at g contract call_heap call_receiver call_values l
  frame_means j l =
      rename_within_all (entry_renaming q) j before_state (env j) before_state (constants_mean j before_state (ProgramVariable heap_name) (λ b. before_heap) before_same) (λ x b. refl) q.form.frame [] l
      ∙ ok.stands.frame (env j) before_state l
      ∙ (λ e. assignable_at g contract (env_pre j e) (env_this j e) (env_arguments j e) l)

  -- it is the renewed heap, where the call grows the heap and keeps to its frame
  pub heap_renewed : (j : State) (k : Heap) → read j (heap_after q.number) ≡ HeapValue k → Grows call_heap k → Framed g (assignable_at g contract call_heap call_receiver call_values) call_heap k → updated j before_state [] ((heap_name, Anon (ProgramVariable heap_name) (rename_loc (entry_renaming q) q.form.frame) (Constant (heap_after q.number))) ∷ []) before_state ≡ after_state k
  unfolding new_heap
  heap_renewed j k e grows framed = λ x. write (write s (heap_before q.number) (pre_is [] x)) heap_name (HeapValue (renewed x))
    where
      renewed : new_heap j ≡ k
      renewed = (λ x. anon (as_heap (before_heap x)) (λ l. frame_means j l x) (as_heap (e x))) ∙ anon_frame call_heap k (assignable_at g contract call_heap call_receiver call_values) grows framed

  -- ---- what the premises assume after the call

  pub after_heap : (k : Heap) → heap_of (after_state k) ≡ k
  after_heap k = heap_written (write s (heap_before q.number) (HeapValue call_heap)) k

  after_same : (k : Heap) → Agree (Operand q.number) s (after_state k)
  after_same k x o = sym (
      read_there (write s (heap_before q.number) (HeapValue call_heap)) heap_name (HeapValue k) x o.1
      ∙ read_there s (heap_before q.number) (HeapValue call_heap) x o.0)

  before_read : (k : Heap) → read (after_state k) (heap_before q.number) ≡ HeapValue call_heap
  before_read k =
      read_there (write s (heap_before q.number) (HeapValue call_heap)) heap_name (HeapValue k) (heap_before q.number) (flip_apart heap_name (heap_before q.number) (before_new q.number))
      ∙ read_own s (heap_before q.number) (HeapValue call_heap) tt

  abbrev seen_after : Heap → Reference → Value → State
  seen_after k x v = seen q.result (after_state k) x v

  seen_var : (j : State) (k : Heap) (x : Reference) (v : Value) → read j (exception_constant q.number) ≡ RefValue x → ResultGiven q.result q.number j v → (z : Name) (b : List Value) → value j (after_state k) b ((exit_renaming q).var z) ≡ read (seen_after k x v) z
  seen_var j k x v e o z b = look_value j (after_state k) (thrown_variable ∷ result_variables q.result) (Constant (exception_constant q.number) ∷ result_terms q.result q.number) (RefValue x ∷ result_values q.result v) ((λ b. e), tt, result_fit q.result q.number j (after_state k) v o) (after_state k) (ProgramVariable z) z b refl

  seen_after_heap : (k : Heap) (x : Reference) (v : Value) → heap_of (seen_after k x v) ≡ k
  seen_after_heap k x v = seen_heap q.result (after_state k) x v ∙ after_heap k

  exit_moves : (d : ℕ) (j : State) (k : Heap) (x : Reference) (v : Value) → read j (exception_constant q.number) ≡ RefValue x → ResultGiven q.result q.number j v → (l : List PlainFormula) → AllFirstOrder l → AllTrue g d j (after_state k) [] (rename_all (exit_renaming q) l) ≡ AllTrue g d (env j) (seen_after k x v) [] l
  exit_moves d j k x v e o l f = rename_all_true (exit_renaming q) j (after_state k) (env j) (seen_after k x v) (constants_mean j (after_state k) (ProgramVariable (heap_before q.number)) (λ b. before_read k) (after_same k)) (seen_var j k x v e o) g d l f

  pub normal_true : (d : ℕ) (j : State) (k : Heap) (v : Value) → read j (exception_constant q.number) ≡ RefValue Null → ResultGiven q.result q.number j v → NormalEnd g contract (normal_moment g call_heap call_receiver call_values k v) → AllTrue g d j (after_state k) [] (WellFormed (ProgramVariable heap_name) ∷ rename_all (exit_renaming q) q.form.exit)
  normal_true d j k v e o h = (
    subst (IsWellFormed g.program) (sym (after_heap k)) h.well_formed,
    subst (λ X. X) (sym (exit_moves d j k Null v e o q.form.exit ok.stands.exit_first_order)) ((ok.stands.exit d (env j) (seen_after k Null v)).1 moved).1,
  )
    where
      moved : NormalEnd g contract (normal_moment g (as_heap (read (env j) entry_heap)) (receiver_in contract.role (env j)) (map (read (env j)) parameter_names) (heap_of (seen_after k Null v)) (result_in contract.result (seen_after k Null v)))
      moved = subst (λ (e : Heap × Reference × List Value × Heap × Value). NormalEnd g contract (normal_moment g e.0 e.1 e.2 e.3 e.4)) (λ e. (sym (env_pre j) e, sym (env_this j) e, sym (env_arguments j) e, sym (seen_after_heap k Null v) e, sym (seen_result q.result contract.result ok.result q.number j (after_state k) Null v o) e)) (shown_end g contract call_heap call_receiver call_values k contract.result refl v h)

  pub exceptional_true : (d : ℕ) (j : State) (k : Heap) (x : Reference) (v : Value) → read j (exception_constant q.number) ≡ RefValue x → ResultGiven q.result q.number j v → ExceptionalEnd g contract (thrown_moment g call_heap call_receiver call_values k x) → AllTrue g d j (after_state k) [] (WellFormed (ProgramVariable heap_name) ∷ rename_all (exit_renaming q) q.form.exceptional)
  exceptional_true d j k x v e o h = (
    subst (IsWellFormed g.program) (sym (after_heap k)) h.well_formed,
    subst (λ X. X) (sym (exit_moves d j k x v e o q.form.exceptional ok.stands.exceptional_first_order)) ((ok.stands.exceptional d (env j) (seen_after k x v)).1 moved).1,
  )
    where
      moved : ExceptionalEnd g contract (thrown_moment g (as_heap (read (env j) entry_heap)) (receiver_in contract.role (env j)) (map (read (env j)) parameter_names) (heap_of (seen_after k x v)) (as_ref (read (seen_after k x v) thrown_variable)))
      moved = subst (λ (e : Heap × Reference × List Value × Heap × Reference). ExceptionalEnd g contract (thrown_moment g e.0 e.1 e.2 e.3 e.4)) (λ e. (sym (env_pre j) e, sym (env_this j) e, sym (env_arguments j) e, sym (seen_after_heap k x v) e, sym (seen_thrown q.result (after_state k) x v) e)) h

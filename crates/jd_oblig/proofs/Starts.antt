-- The state that the obligation's update makes is the one in which the body starts, and nothing is thrown there or while it runs.
use Rattle.std.proofs.Common.{◌≡◌, ℕ, Bool, true, false, cond, Option, Some, None, List, [], ◌∷◌, ◌++◌, map, refl, sym, ap, ◌∙◌, subst, true≢false}
use Rattle.jd_syntax.specs.Names.{Name}
use Rattle.jd_syntax.specs.CodeNames.{same_name, heap_name, is_special}
use Rattle.jd_syntax.proofs.NameTests.{same_name_decides}
use Rattle.jd_term.specs.Formulas.{Pairs}
use Rattle.jd_heap.specs.References.{Reference, Null}
use Rattle.jd_heap.specs.Heaps.{Heap}
use Rattle.jd_heap.specs.Values.{Value, IntValue, BoolValue, RefValue, HeapValue, at_sort, IsOf}
use Rattle.jd_model.specs.SpecialNames.{receiver, thrown_variable}
use Rattle.jd_model.specs.States.{State, read, write, with_heap, empty_state}
use Rattle.jd_model.proofs.States.{read-write, read-none, state_same}
use Rattle.jd_model.specs.Programs.{Program, ValueType, IntType, BooleanType, ReferenceType, Body, type_sort}
use Rattle.jd_model.specs.Runs.{with_one, with_values, exec_at}
use Rattle.jd_model.specs.TermValues.{updated}
use Rattle.jd_model.specs.Truth.{Setting}
use Rattle.jd_model.specs.Occurrences.{Always, But, MaybeIn, AllOf, NotIn}
use Rattle.jd_model.specs.Bodies.{AtEnd}
use Rattle.jd_model.specs.Cases.{Parameter}
use Rattle.jd_model.specs.EntryExit.{AreOf, is_of}
use Rattle.jd_model.specs.KeptCases.{start_state}
use Rattle.jd_model.specs.Tables.{parameter_constant, constants_of_parameters, SortsOf}
use Rattle.jd_model.specs.ResolvedBodies.{NotSpecial, IsResolved}
use Rattle.jd_model.proofs.Writes.{apart_by, read_other, read_there}
use Rattle.jd_model.proofs.Coincidence.{exec_at_agree}
use Rattle.jd_model.proofs.GivenNames.{Sorted}
use Rattle.jd_model.proofs.MarkedTurns.{Has, has_alike, has_any, has_end}
use Rattle.jd_model.proofs.Wider.{code_wider}
use Rattle.jd_oblig.specs.CaseObligations.{receiver_pairs, parameter_pair}

-- ---- names that are given values

typed_sort : (g : Setting) (h : Heap) (t : ValueType) (nullable : Bool) (v : Value) → is_of g h (record { type = t; nullable = nullable }) v ≡ true → IsOf (type_sort t) v
typed_sort g h IntType nl (IntValue z) e = tt
typed_sort g h BooleanType nl (BoolValue z) e = tt
typed_sort g h (ReferenceType k) nl (RefValue z) e = tt
typed_sort g h t nl v e = absurd (true≢false (sym e))

pub sorted_by : (g : Setting) (h : Heap) (xs : List Name) (ps : List Parameter) (vs : List Value) → SortsOf xs ps → AreOf g h ps vs → Sorted (constants_of_parameters xs) vs
sorted_by g h [] [] [] s a = tt
sorted_by g h (x ∷ xs) (t ∷ ts) (v ∷ vs) s a = (subst (λ z. IsOf z v) (sym s.0) (typed_sort g h t.declared.type t.declared.nullable v a.0), sorted_by g h xs ts vs s.1 a.1)
sorted_by g h [] [] (v ∷ vs) s a = absurd a
sorted_by g h (x ∷ xs) (t ∷ ts) [] s a = absurd a
sorted_by g h [] (t ∷ ts) vs s a = absurd s
sorted_by g h (x ∷ xs) [] vs s a = absurd s

-- ---- the update

pub updated_parameters : (i s : State) (xs : List Name) (u : Pairs) (t : State) → updated i s [] (map parameter_pair xs ++ u) t ≡ updated i s [] u (with_values t xs (map (read i) (constants_of_parameters xs)))
updated_parameters i s [] u t = refl
updated_parameters i s (x ∷ xs) u t = updated_parameters i s xs u (write t x (read i (parameter_constant x)))

pub updated_receiver : (i s : State) (x : Option Name) (u : Pairs) (t : State) (r : Reference) → read i receiver ≡ RefValue r → updated i s [] (receiver_pairs x ++ u) t ≡ updated i s [] u (with_one t x (RefValue r))
updated_receiver i s None u t r e = refl
updated_receiver i s (Some x) u t r e = λ j. updated i s [] u (write t x (e j))

pub same_write : (t : State) (x : Name) (v : Value) → at_sort x.sort v ≡ v → read t x ≡ v → write t x v ≡ t
same_write t x v own e = state_same (write t x v) t (λ z. read-write t x v z ∙ by z (same_name z x) refl)
  where
    by : (z : Name) (b : Bool) → same_name z x ≡ b → cond b (at_sort x.sort v) (read t z) ≡ read t z
    by z true q = own ∙ sym e ∙ ap (read t) (sym ((same_name_decides z x).0 q))
    by z false q = refl

-- ---- a special variable keeps its value in a resolved body

not_special : (x : Name) → NotSpecial x → same_name thrown_variable x ≡ false
not_special x n = apart_by is_special thrown_variable x refl n

none_special : (xs : List Name) → AllOf NotSpecial xs → NotIn thrown_variable xs
none_special [] n = tt
none_special (x ∷ xs) n = (not_special x n.0, none_special xs n.1)

thrown_not_heap : same_name thrown_variable heap_name ≡ false
thrown_not_heap = refl

receiver_kept : (t : State) (x : Option Name) (v : Value) → MaybeIn Always NotSpecial x → read (with_one t x v) thrown_variable ≡ read t thrown_variable
receiver_kept t None v n = refl
receiver_kept t (Some x) v n = read_there t x v thrown_variable (not_special x n)

-- nothing is thrown where a body starts
pub start_unthrown : (b : Body) → IsResolved b → (h : Heap) (r : Reference) (vs : List Value) → read (start_state b h r vs) thrown_variable ≡ RefValue Null
start_unthrown b o h r vs =
    read_other (with_one (with_heap empty_state h) b.receiver (RefValue r)) b.parameters vs thrown_variable (none_special b.parameters o.parameters)
    ∙ receiver_kept (with_heap empty_state h) b.receiver (RefValue r) o.receiver
    ∙ read_there empty_state heap_name (HeapValue h) thrown_variable thrown_not_heap
    ∙ read-none thrown_variable

pub run_unthrown : (p : Program) (b : Body) → IsResolved b → (d n : ℕ) (s : State) → read s thrown_variable ≡ RefValue Null → AtEnd (exec_at p d n b.code s) (λ t. read t thrown_variable ≡ RefValue Null)
run_unthrown p b o d n s e =
    let runs_alike = exec_at_agree Always (But thrown_variable) (Has thrown_variable (RefValue Null)) (has_alike thrown_variable (RefValue Null) thrown_not_heap) p (has_any thrown_variable (RefValue Null) thrown_not_heap) d n b.code in
    has_end thrown_variable (RefValue Null) (runs_alike (code_wider Always NotSpecial Always (But thrown_variable) (λ x k. k) not_special b.code o.assigned) s s (refl, e))

-- What the code around a body makes of how the body ends: the frame's result, the heap, and what was thrown.
use Rattle.std.proofs.Common.{◌≡◌, false, option_map, Option, Some, None, refl, sym, ap, ◌∙◌, subst}
use Rattle.jd_base.specs.declared.sort.Sort.{Sort}
use Rattle.jd_base.specs.declared.sort.Sort.TheVariants.{Int as IntSort, Bool as BoolSort, Ref as RefSort, Heap as HeapSort, Field as FieldSort}
use Rattle.jd_syntax.specs.Names.{Name}
use Rattle.jd_syntax.specs.CodeNames.{same_name}
use Rattle.jd_heap.specs.References.{Null}
use Rattle.jd_heap.specs.Values.{Value, RefValue, at_sort, default}
use Rattle.jd_model.specs.SpecialNames.{thrown_variable, result_variable}
use Rattle.jd_model.specs.States.{State, read, write, heap_of}
use Rattle.jd_model.specs.Programs.{ValueType, IntType, BooleanType, ReferenceType, Body, type_sort}
use Rattle.jd_model.specs.Outcomes.{Outcome, Normal, Broke, Returned, Thrown, Stopped, NoLength, NotEnded, then, after_frame, after_catch, set_default, set_result, given, IsOver, Extends}
use Rattle.jd_model.specs.Truth.{IfEnds, EndsIn}
use Rattle.jd_model.specs.Bodies.{NotHeap}
use Rattle.jd_model.specs.Cases.{DeclaredType}
use Rattle.jd_model.specs.Tables.{HasResult, result_in}
use Rattle.jd_model.proofs.Grows.{same_heap}
use Rattle.jd_model.proofs.Writes.{read_here, read_there}
use Rattle.jd_oblig.specs.CaseObligations.{result_name}
use Rattle.jd_oblig.specs.KeptByObligations.{sort_of_result}

-- ---- runs

-- what the frame and the catch make of a run
abbrev pub around : Option Name → Outcome (Unit {0}) → Outcome (Unit {0})
around r o = then (after_catch (then (after_frame r o) (λ _ t. Normal tt t)) thrown_variable (λ t. Normal tt t)) (λ _ t. Normal tt t)

pub around_over : (r : Option Name) (o : Outcome (Unit {0})) → IsOver (around r o) → IsOver o
around_over r (Normal u t) h = tt
around_over r (Returned v t) h = tt
around_over r (Thrown y t) h = tt
around_over r (Broke l t) h = tt
around_over r (Stopped t) h = tt
around_over r NoLength h = tt
around_over r NotEnded h = absurd h

pub ends_over : {A : Type 0} (o : Outcome A) (P : State → Type 0) → EndsIn o P → IsOver o
ends_over (Normal a t) P h = tt
ends_over (Stopped t) P h = tt
ends_over (Broke l t) P h = absurd h
ends_over (Returned v t) P h = absurd h
ends_over (Thrown r t) P h = absurd h
ends_over NoLength P h = tt
ends_over NotEnded P h = absurd h

if_of_ends : (o : Outcome (Unit {0})) (P : State → Type 0) → EndsIn o P → IfEnds o P
if_of_ends (Normal u t) P h = h
if_of_ends (Stopped t) P h = h
if_of_ends (Returned v t) P h = tt
if_of_ends (Thrown y t) P h = tt
if_of_ends (Broke l t) P h = tt
if_of_ends NoLength P h = tt
if_of_ends NotEnded P h = tt

if_over : (o : Outcome (Unit {0})) (P : State → Type 0) → (IsOver o → IfEnds o P) → IfEnds o P
if_over (Normal u t) P h = h tt
if_over (Stopped t) P h = h tt
if_over (Returned v t) P h = tt
if_over (Thrown y t) P h = tt
if_over (Broke l t) P h = tt
if_over NoLength P h = tt
if_over NotEnded P h = tt

-- two runs that a third extends end alike, where both are over
pub same_end : (o q m : Outcome (Unit {0})) (P : State → Type 0) → Extends o m → Extends q m → EndsIn q P → IfEnds o P
same_end o q m P e k ends = if_over o P (λ over. if_of_ends o P (subst (λ z. EndsIn z P) (k (ends_over q P ends) ∙ sym (e over)) ends))

-- ---- the result's variable

own_default : (k : Sort) → at_sort k (default k) ≡ default k
own_default IntSort = refl
own_default BoolSort = refl
own_default RefSort = refl
own_default HeapSort = refl
own_default FieldSort = refl

result_sort : (k : Sort) → (result_variable k).sort ≡ k
result_sort IntSort = refl
result_sort BoolSort = refl
result_sort RefSort = refl
result_sort HeapSort = refl
result_sort FieldSort = refl

result_not_heap : (t : ValueType) → NotHeap (result_variable (type_sort t))
result_not_heap IntType = refl
result_not_heap BooleanType = refl
result_not_heap (ReferenceType k) = refl

thrown_not_result : (t : ValueType) → same_name thrown_variable (result_variable (type_sort t)) ≡ false
thrown_not_result IntType = refl
thrown_not_result BooleanType = refl
thrown_not_result (ReferenceType k) = refl

-- the result that a contract sees: none where the method has none
abbrev pub seen : Option DeclaredType → Value → Value
seen None v = RefValue Null
seen (Some t) v = v

pub default_result : (b : Body) (a : Option DeclaredType) → HasResult (option_map sort_of_result a) b.result → (t : State) → result_in a (set_default (result_name (option_map sort_of_result a)) t) ≡ seen a (default b.result)
default_result b None e t = refl
default_result b (Some d) e t =
    read_here t (result_variable (type_sort d.type)) (default (result_variable (type_sort d.type)).sort)
    ∙ (λ j. at_sort (result_sort (type_sort d.type) j) (default (result_sort (type_sort d.type) j)))
    ∙ own_default (type_sort d.type)
    ∙ ap default e

pub default_heap : (a : Option DeclaredType) (t : State) → heap_of (set_default (result_name (option_map sort_of_result a)) t) ≡ heap_of t
default_heap None t = refl
default_heap (Some d) t = same_heap t (result_variable (type_sort d.type)) (default (result_variable (type_sort d.type)).sort) (result_not_heap d.type)

pub default_thrown : (a : Option DeclaredType) (t : State) → read (set_default (result_name (option_map sort_of_result a)) t) thrown_variable ≡ read t thrown_variable
default_thrown None t = refl
default_thrown (Some d) t = read_there t (result_variable (type_sort d.type)) (default (result_variable (type_sort d.type)).sort) thrown_variable (thrown_not_result d.type)

pub given_result : (b : Body) (a : Option DeclaredType) → HasResult (option_map sort_of_result a) b.result → (v : Option Value) (t : State) → result_in a (set_result (result_name (option_map sort_of_result a)) v t) ≡ seen a (at_sort b.result (given b.result v))
given_result b None e v t = refl
given_result b (Some d) e v t =
    read_here t (result_variable (type_sort d.type)) (given (result_variable (type_sort d.type)).sort v)
    ∙ (λ j. at_sort ((result_sort (type_sort d.type) ∙ e) j) (given ((result_sort (type_sort d.type) ∙ e) j) v))

pub given_heap : (a : Option DeclaredType) (v : Option Value) (t : State) → heap_of (set_result (result_name (option_map sort_of_result a)) v t) ≡ heap_of t
given_heap None v t = refl
given_heap (Some d) v t = same_heap t (result_variable (type_sort d.type)) (given (result_variable (type_sort d.type)).sort v) (result_not_heap d.type)

pub given_thrown : (a : Option DeclaredType) (v : Option Value) (t : State) → read (set_result (result_name (option_map sort_of_result a)) v t) thrown_variable ≡ read t thrown_variable
given_thrown None v t = refl
given_thrown (Some d) v t = read_there t (result_variable (type_sort d.type)) (given (result_variable (type_sort d.type)).sort v) thrown_variable (thrown_not_result d.type)

pub caught_heap : (t : State) (v : Value) → heap_of (write t thrown_variable v) ≡ heap_of t
caught_heap t v = same_heap t thrown_variable v refl

-- Small examples of what allocations give, each with the section of the Java Language Specification (SE 8) that asks for it.
use Rattle.std.specs.Prelude.{◌≡◌, ◌<◌, ℕ, true, false, ℤ, pos, int_lt, None}
use Rattle.jd_syntax.specs.Names.{Name}
use Rattle.jd_syntax.specs.Codes.{Expr, Variable, ReadField, ReadElement, LengthOf, DoThen, AllocObject, AllocArray, NewArray, Then}
use Rattle.jd_heap.specs.Codings.{same}
use Rattle.jd_heap.specs.References.{Reference, Object, Field, location, is_created_field}
use Rattle.jd_heap.specs.ReferenceCodings.{reference_coding}
use Rattle.jd_heap.specs.Heaps.{Heap, entry, empty_heap, create, is_created, is_length, SameAt}
use Rattle.jd_heap.specs.Values.{IntValue, default}
use Rattle.jd_model.specs.States.{State, heap_of}
use Rattle.jd_model.specs.Programs.{Program, field_sort}
use Rattle.jd_model.specs.Outcomes.{Normal, NoLength}
use Rattle.jd_model.specs.Runs.{Runner, eval, step, exec, allocated}
use Rattle.jd_model.specs.Examples.{array, other, object, number, only, ThrowsNew, Gives}

-- a new object has the least number of its class that is free
abbrev pub LeastFreeNumber : Type 0
LeastFreeNumber =
    (p : Program) (run : Runner p) (n c k : ℕ) (x : Name) (s : State) →
    is_created (heap_of s) (Object c k) ≡ false → ((m : ℕ) → m < k → is_created (heap_of s) (Object c m) ≡ true) →
    step p run n (AllocObject x c) s ≡ Normal tt (allocated s x (Object c k))

-- in the empty heap it has number 0
abbrev pub FirstObject : Type 0
FirstObject =
    (p : Program) (run : Runner p) (n c : ℕ) (x : Name) (s : State) →
    heap_of s ≡ empty_heap →
    step p run n (AllocObject x c) s ≡ Normal tt (allocated s x (Object c 0))

-- where number 0 of its class is created and number 1 is not it has number 1, whatever else is created
abbrev pub SecondObject : Type 0
SecondObject =
    (p : Program) (run : Runner p) (n c : ℕ) (x : Name) (s : State) →
    is_created (heap_of s) (Object c 0) ≡ true → is_created (heap_of s) (Object c 1) ≡ false →
    step p run n (AllocObject x c) s ≡ Normal tt (allocated s x (Object c 1))

-- two allocations from the empty heap give the numbers 0 and 1
abbrev pub TwoObjects : Type 0
TwoObjects =
    (p : Program) (run : Runner p) (n c : ℕ) (s : State) →
    heap_of s ≡ empty_heap →
    exec p run n (Then (AllocObject object c) (only (AllocObject other c))) s ≡ Normal tt (allocated (allocated s object (Object c 0)) other (Object c 1))

-- `create` makes the object created and takes its other entries away
abbrev pub CreateEmpties : Type 0
CreateEmpties =
    (h : Heap) (o : Reference) (f : Field) →
    is_created_field f ≡ false →
    (is_created (create h o) o ≡ true) × (entry (create h o) (location o f) ≡ None)

-- and leaves the other objects as they were
abbrev pub CreateKeepsOthers : Type 0
CreateKeepsOthers = (h : Heap) (o q : Reference) (f : Field) → same reference_coding q o ≡ false → SameAt h (create h o) q f

-- each field of a new object has the default of its type (JLS 4.12.5, 15.9.4)
abbrev pub NewFieldIsDefault : Type 0
NewFieldIsDefault =
    (p : Program) (run : Runner p) (n c f : ℕ) (s : State) →
    Gives (eval p run n (DoThen (only (AllocObject object c)) (ReadField (Variable object) f)) s) (default (field_sort p f))

-- a negative length throws a new NegativeArraySizeException (JLS 15.10.2)
abbrev pub NegativeLength : Type 0
NegativeLength =
    (p : Program) (run : Runner p) (n : ℕ) (x : Name) (a : Expr) (z : ℤ) (s t : State) →
    eval p run n a s ≡ Normal (IntValue z) t → int_lt z (pos 0) ≡ true →
    ThrowsNew p.negative_size t (step p run n (NewArray x a) s)

-- where no test of the length is made, a length that is none is an outcome of its own
abbrev pub BadLength : Type 0
BadLength =
    (p : Program) (run : Runner p) (n : ℕ) (x : Name) (a : Expr) (z : ℤ) (s t : State) →
    eval p run n a s ≡ Normal (IntValue z) t → is_length z ≡ false →
    step p run n (AllocArray x a) s ≡ NoLength

-- a new array has its length, and its elements are 0 (JLS 10.3, 15.10.2)
abbrev pub NewArrayLength : Type 0
NewArrayLength =
    (p : Program) (run : Runner p) (n l : ℕ) (s : State) →
    is_length (pos l) ≡ true →
    Gives (eval p run n (DoThen (only (NewArray array (number l))) (LengthOf (Variable array))) s) (IntValue (pos l))

abbrev pub NewElementIsZero : Type 0
NewElementIsZero =
    (p : Program) (run : Runner p) (n l k : ℕ) (s : State) →
    is_length (pos l) ≡ true → k < l →
    Gives (eval p run n (DoThen (only (NewArray array (number l))) (ReadElement (Variable array) (number k))) s) (IntValue (pos 0))

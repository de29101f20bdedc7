-- Bodies that assign no heap variable.
use Rattle.std.specs.Prelude.{◌≡◌, ℕ, true, false, Some}
use Rattle.jd_model.specs.Occurrences.{Always, MaybeIn, CodeIn, AllOf}
use Rattle.jd_heap.specs.References.{Reference}
use Rattle.jd_heap.specs.Heaps.{Heap, is_created}
use Rattle.jd_model.specs.States.{State}
use Rattle.jd_model.specs.Outcomes.{Outcome, Normal, Broke, Returned, Thrown, Stopped, NoLength, NotEnded}
use Rattle.jd_model.specs.Programs.{Program, Body}
use Rattle.jd_syntax.specs.CodeNames.{same_name, heap_name}
use Rattle.jd_syntax.specs.Names.{Name}

-- another variable than the heap
abbrev pub NotHeap : Name → Type 0
NotHeap x = same_name heap_name x ≡ false

-- a body that assigns no heap variable
pub record AssignsNoHeap (b : Body) : Type 0 where
  pub receiver : MaybeIn Always NotHeap b.receiver
  pub parameters : AllOf NotHeap b.parameters
  pub code : CodeIn Always NotHeap b.code

abbrev pub AllAssignNoHeap : Program → Type 0
AllAssignNoHeap p = (m : ℕ) (b : Body) → p.body m ≡ Some b → AssignsNoHeap b

-- what is created in the first heap is created in the second
abbrev pub Grows : Heap → Heap → Type 0
Grows h k = (o : Reference) → is_created h o ≡ true → is_created k o ≡ true

-- what holds of the state in which a run ends, however it ends
abbrev pub AtEnd : {A : Type 0} → Outcome A → (State → Type 0) → Type 0
AtEnd (Normal a t) I = I t
AtEnd (Broke l t) I = I t
AtEnd (Returned v t) I = I t
AtEnd (Thrown r t) I = I t
AtEnd (Stopped t) I = I t
AtEnd NoLength I = Unit {0}
AtEnd NotEnded I = Unit {0}

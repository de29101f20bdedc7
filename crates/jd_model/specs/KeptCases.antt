-- When a case is kept, and what a proof of one case may use of the others (The KeY Book, 8.3).
use Rattle.std.specs.Prelude.{◌≡◌, ◌≤◌, ◌<◌, ℕ, true, false, ℤ, pos, int_le, int_lt, Some, List}
use Rattle.jd_heap.specs.References.{Reference}
use Rattle.jd_heap.specs.Heaps.{Heap}
use Rattle.jd_heap.specs.Values.{Value, RefValue, as_int, at_sort, default}
use Rattle.jd_model.specs.States.{State, empty_state, heap_of, with_heap}
use Rattle.jd_model.specs.Programs.{Body}
use Rattle.jd_model.specs.Outcomes.{Outcome, Normal, Broke, Returned, Thrown, Stopped, NoLength, NotEnded, given, IsOver}
use Rattle.jd_model.specs.Runs.{with_one, with_values, exec_at}
use Rattle.jd_model.specs.Cases.{Contract, Case, SpecifiedProgram}
use Rattle.jd_model.specs.EntryExit.{EntryAs, NormalExit, ExceptionalExit, measure_at}

-- the state in which a body starts: nothing but its heap, its receiver and its parameters
abbrev pub start_state : Body → Heap → Reference → List Value → State
start_state b h r vs = with_values (with_one (with_heap empty_state h) b.receiver (RefValue r)) b.parameters vs

module _ (p : SpecifiedProgram) where
  abbrev pub Entry : Case → Heap → Reference → List Value → Type 0
  Entry c h r vs = EntryAs p.setting true c.contract c.class h r vs

  -- what is asked of how a body's run ends: a normal end, a `return` and a thrown reference meet the contract, and no other end comes
  abbrev pub Exit : Contract → Body → Heap → Reference → List Value → Outcome (Unit {0}) → Type 0
  Exit c b h r vs (Normal u t) = NormalExit p.setting c h r vs (heap_of t) (default b.result)
  Exit c b h r vs (Returned v t) = NormalExit p.setting c h r vs (heap_of t) (at_sort b.result (given b.result v))
  Exit c b h r vs (Thrown x t) = ExceptionalExit p.setting c h r vs (heap_of t) x
  Exit c b h r vs (Broke l t) = ⊥
  Exit c b h r vs (Stopped t) = ⊥
  Exit c b h r vs NoLength = ⊥
  Exit c b h r vs NotEnded = Unit {0}

  abbrev pub run_of : Body → ℕ → ℕ → Heap → Reference → List Value → Outcome (Unit {0})
  run_of b e n h r vs = exec_at p.setting.program e n b.code (start_state b h r vs)

  -- from this state each ended run of the body with depth at most e meets the exit
  abbrev pub MeetsTo : Case → ℕ → Heap → Reference → List Value → Type 0
  MeetsTo c e h r vs = (b : Body) → p.setting.program.body c.body ≡ Some b → (f n : ℕ) → f ≤ e → Exit c.contract b h r vs (run_of b f n h r vs)

  -- the run ends: not every depth and all turns leave it not ended
  abbrev pub EndsFrom : Case → Heap → Reference → List Value → Type 0
  EndsFrom c h r vs = (b : Body) → p.setting.program.body c.body ≡ Some b → ¬ ((f n : ℕ) → ¬ (IsOver (run_of b f n h r vs)))

  -- kept to a depth; kept from one state, with termination; kept
  abbrev pub KeptTo : Case → ℕ → Type 0
  KeptTo c e = (h : Heap) (r : Reference) (vs : List Value) → Entry c h r vs → MeetsTo c e h r vs

  abbrev pub KeptFrom : Case → Heap → Reference → List Value → Type 0
  KeptFrom c h r vs = ((e : ℕ) → MeetsTo c e h r vs) × EndsFrom c h r vs

  abbrev pub Kept : Case → Type 0
  Kept c = ((e : ℕ) → KeptTo c e) × (c.contract.diverges ≡ false → (h : Heap) (r : Reference) (vs : List Value) → Entry c h r vs → EndsFrom c h r vs)

  abbrev pub measure_of : Case → Heap → Reference → List Value → ℤ
  measure_of c h r vs = as_int (measure_at p.setting c.contract h r vs)

  -- every case is kept to each depth below d
  abbrev pub KeptBelow : ℕ → Type 0
  KeptBelow d = (κ : ℕ) (c : Case) → p.case κ ≡ Some c → (e : ℕ) → e < d → KeptTo c e

  -- the ending cases that the task's family reaches outside its cluster are kept
  abbrev pub LowerKept : ℕ → Type 0
  LowerKept own = (κ : ℕ) (c : Case) → p.case κ ≡ Some c → c.contract.diverges ≡ false → p.reaches own c.family ≡ true → p.reaches c.family own ≡ false → Kept c

  -- and those inside it from the entry states of a smaller measure
  abbrev pub SmallerKept : ℕ → ℤ → Type 0
  SmallerKept own m = (κ : ℕ) (c : Case) → p.case κ ≡ Some c → c.contract.diverges ≡ false → p.reaches own c.family ≡ true → p.reaches c.family own ≡ true → (h : Heap) (r : Reference) (vs : List Value) → Entry c h r vs → int_le (pos 0) (measure_of c h r vs) ≡ true → int_lt (measure_of c h r vs) m ≡ true → KeptFrom c h r vs

  pub record Usable (own : ℕ) (d : ℕ) (m : ℤ) : Type 0 where
    pub below : KeptBelow d
    pub lower : LowerKept own
    pub smaller : SmallerKept own m

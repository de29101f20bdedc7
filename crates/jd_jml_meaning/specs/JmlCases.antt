-- When a case in JML is kept, over the runs of the program (The KeY Book, 8.3).
use Rattle.std.specs.Prelude.{◌≡◌, ◌≤◌, ℕ, Bool, true, false, Option, Some, option_map, List}
use Rattle.jd_heap.specs.References.{Reference}
use Rattle.jd_heap.specs.Heaps.{Heap}
use Rattle.jd_heap.specs.Values.{Value, at_sort, default}
use Rattle.jd_model.specs.States.{heap_of}
use Rattle.jd_model.specs.Programs.{Program, Body}
use Rattle.jd_model.specs.Outcomes.{Outcome, Normal, Broke, Returned, Thrown, Stopped, NoLength, NotEnded, given, IsOver}
use Rattle.jd_model.specs.Runs.{exec_at}
use Rattle.jd_model.specs.Cases.{Case, SpecifiedProgram}
use Rattle.jd_model.specs.KeptCases.{start_state}
use Rattle.jd_jml_meaning.specs.Resolved.{JmlExpr}
use Rattle.jd_jml_meaning.specs.InvariantFormulas.{setting_of}
use Rattle.jd_jml_meaning.specs.JmlContracts.{JmlContract, JmlEntry, JmlNormalExit, JmlExceptionalExit}
use Rattle.jd_jml_meaning.specs.ContractFormulas.{contract_of}

-- a case for objects of exactly this class, with the body that then runs and the family of the method
pub record JmlCase : Type 0 where
  pub contract : JmlContract
  pub class : ℕ
  pub method : ℕ
  pub number : ℕ
  pub body : ℕ
  pub family : ℕ

-- a program with what JML says of it; each family of methods reaches the families that its bodies call, itself, and what these reach
pub record JmlProgram : Type 0 where
  pub program : Program
  -- the invariants that a class declares itself
  pub own : ℕ → List JmlExpr
  pub case : ℕ → Option JmlCase
  pub families : ℕ
  pub reaches : ℕ → ℕ → Bool

module _ (j : JmlProgram) where
  -- from an entry state
  abbrev pub CaseEntry : JmlCase → Heap → Reference → List Value → Type 0
  CaseEntry c h r vs = JmlEntry j.program j.own true c.contract c.class h r vs

  -- what is asked of how a body's run ends: a normal end, a `return` and a thrown reference meet the contract, and no other end comes
  abbrev pub CaseExit : JmlContract → Body → Heap → Reference → List Value → Outcome (Unit {0}) → Type 0
  CaseExit c b h r vs (Normal u t) = JmlNormalExit j.program j.own c h r vs (heap_of t) (default b.result)
  CaseExit c b h r vs (Returned v t) = JmlNormalExit j.program j.own c h r vs (heap_of t) (at_sort b.result (given b.result v))
  CaseExit c b h r vs (Thrown x t) = JmlExceptionalExit j.program j.own c h r vs (heap_of t) x
  CaseExit c b h r vs (Broke l t) = ⊥
  CaseExit c b h r vs (Stopped t) = ⊥
  CaseExit c b h r vs NoLength = ⊥
  CaseExit c b h r vs NotEnded = Unit {0}

  abbrev pub body_run : Body → ℕ → ℕ → Heap → Reference → List Value → Outcome (Unit {0})
  body_run b e n h r vs = exec_at j.program e n b.code (start_state b h r vs)

  -- kept to a depth of calls: each ended run of the body from an entry state meets the exit
  abbrev pub JmlKeptTo : JmlCase → ℕ → Type 0
  JmlKeptTo c e = (h : Heap) (r : Reference) (vs : List Value) → CaseEntry c h r vs → (b : Body) → j.program.body c.body ≡ Some b → (f n : ℕ) → f ≤ e → CaseExit c.contract b h r vs (body_run b f n h r vs)

  -- the run ends: not every depth and all turns leave it not ended
  abbrev pub RunEnds : JmlCase → Heap → Reference → List Value → Type 0
  RunEnds c h r vs = (b : Body) → j.program.body c.body ≡ Some b → ¬ ((f n : ℕ) → ¬ (IsOver (body_run b f n h r vs)))

  -- kept to every depth and, where the case has no `diverges true`, with each run from an entry state ending
  abbrev pub JmlKept : JmlCase → Type 0
  JmlKept c = ((e : ℕ) → JmlKeptTo c e) × (c.contract.diverges ≡ false → (h : Heap) (r : Reference) (vs : List Value) → CaseEntry c h r vs → RunEnds c h r vs)

-- ---- the same with formulas for the clauses

abbrev pub case_of : Program → JmlCase → Case
case_of p c = record { contract = contract_of p c.contract; class = c.class; method = c.method; number = c.number; body = c.body; family = c.family }

abbrev pub specified : JmlProgram → SpecifiedProgram
specified j = record {
  setting = setting_of j.program j.own;
  case = λ κ. option_map (case_of j.program) (j.case κ);
  families = j.families;
  reaches = j.reaches;
}

-- When a task's tables stand for a program, and what it is for a step to be sound there.
use Rattle.std.specs.Prelude.{◌≡◌, ◌||◌, ℕ, ℤ, true, false, All, Option, Some, None, List}
use Rattle.std.specs.List.{list_any}
use Rattle.jd_syntax.specs.Names.{Name, Declared}
use Rattle.jd_syntax.specs.CodeNames.{same_name, heap_name, is_special}
use Rattle.jd_term.specs.Terms.{PlainTerm}
use Rattle.jd_model.specs.Sequents.{PlainSequent}
use Rattle.jd_model.specs.SpecialNames.{entry_measure}
use Rattle.jd_model.specs.Validity.{Valid, AllValid}
use Rattle.jd_model.specs.Cases.{Case, SpecifiedProgram}
use Rattle.jd_model.specs.KeptCases.{Usable}
use Rattle.jd_model.specs.Occurrences.{TermIn, LocIn, FormulaIn}
use Rattle.jd_model.specs.Tables.{TablesStandFor}
use Rattle.jd_task_classes.specs.Standing.{ClassesStandFor}
use Rattle.jd_sequent.specs.Obligations.{PlainLoop, PlainObligation, PlainTask}

-- the heap's variable, or one of the obligation's
abbrev pub IsKnownVariable : PlainObligation → Name → Type 0
IsKnownVariable o x = (same_name x heap_name || list_any (λ (v : Declared). same_name x v.name) o.vars) ≡ true

abbrev pub IsKnownConstant : PlainObligation → Name → Type 0
IsKnownConstant o c = list_any (λ k. same_name c k) o.consts ≡ true

abbrev pub VariantIn : PlainObligation → Option PlainTerm → Type 0
VariantIn o None = Unit {0}
VariantIn o (Some t) = TermIn (IsKnownVariable o) (IsKnownConstant o) t

-- a loop names only `@heap` and the obligation's variables and constants: so names that are new for the sequent and no
-- constants of the obligation are new for its loops
pub record LoopIsKnown (o : PlainObligation) (l : PlainLoop) : Type 0 where
  pub scope : All (λ x. list_any (λ (v : Declared). same_name x v.name) o.vars ≡ true) l.scope
  pub assignable : LocIn (IsKnownVariable o) (IsKnownConstant o) l.assignable
  pub invariant : FormulaIn (IsKnownVariable o) (IsKnownConstant o) l.invariant
  pub variant : VariantIn o l.variant

-- the case that the obligation is about
pub record IsCaseOf (o : PlainObligation) (p : SpecifiedProgram) (c : Case) : Type 0 where
  pub index : ℕ
  pub found : p.case index ≡ Some c
  pub class : c.class ≡ o.class
  pub method : c.method ≡ o.method
  pub number : c.number ≡ o.case

-- the task's tables stand for the program, and its obligation is about the case
pub record TaskStandsFor (t : PlainTask) (p : SpecifiedProgram) (c : Case) : Type 0 where
  pub classes : ClassesStandFor t.classes p
  pub tables : TablesStandFor t.contracts p
  pub case : IsCaseOf t.obligation p c
  pub measure : IsKnownConstant t.obligation entry_measure
  pub variables : All (λ (v : Declared). is_special v.name ≡ false) t.obligation.vars
  pub loops : All (LoopIsKnown t.obligation) t.obligation.loops

-- in a program, for one of its cases: where the contracts are usable and all premises are valid, the sequent is valid
abbrev pub StepIsSoundIn : SpecifiedProgram → Case → PlainSequent → List PlainSequent → Type 0
StepIsSoundIn p c s ps = (d : ℕ) (m : ℤ) → Usable p c.family d m → AllValid p.setting d m ps → Valid p.setting d m s

-- and in each program that the task's tables stand for
abbrev pub StepIsSound : PlainTask → PlainSequent → List PlainSequent → Type 0
StepIsSound t s ps = (p : SpecifiedProgram) (c : Case) → TaskStandsFor t p c → StepIsSoundIn p c s ps

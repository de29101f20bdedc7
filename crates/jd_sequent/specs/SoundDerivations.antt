-- Derivations of sound steps.
use Rattle.std.specs.Prelude.{List}
use Rattle.jd_model.specs.Sequents.{PlainSequent}
use Rattle.jd_sequent.specs.Trees.{PlainStep, ProofTree}
use Rattle.jd_sequent.specs.Derives.{Derives}
use Rattle.jd_sequent.specs.Obligations.{PlainTask}
use Rattle.jd_sequent.specs.TaskMeaning.{StepIsSound}

-- a whole derivation of a sequent that the rules take is sound, as one step from its goals
abbrev pub DerivationsAreSound : PlainTask → (PlainSequent → Type 0) → (PlainSequent → PlainStep → List PlainSequent → Type 0) → Type 0
DerivationsAreSound t accepts leads = (tree : ProofTree) (s : PlainSequent) (goals : List PlainSequent) → accepts s → Derives leads tree s goals → StepIsSound t s goals

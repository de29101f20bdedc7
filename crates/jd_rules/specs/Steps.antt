-- The steps of replay: by the row that the step names, and where no row has the name by a first rule.
use Rattle.std.specs.Prelude.{List, None, Option, Some, ℕ}
use Rattle.jd_first_rules.specs.Causes.{Cause}
use Rattle.jd_first_steps.specs.Instances.{IsInstance}
use Rattle.jd_model.specs.Sequents.{PlainSequent}
use Rattle.jd_sequent.specs.Obligations.{PlainTask, names_of}
use Rattle.jd_sequent.specs.Trees.{PlainStep}
use Rattle.jd_spelled_first_steps.specs.TermNames.{AreTermNames}
use Rattle.jd_spelled_trees.specs.Places.{IsSpelledSequent}
use Rattle.jd_table_steps.specs.Tables.{rule_rows}
use Rattle.jd_taclet_scripts.specs.Causes.{RowCause}
use Rattle.jd_taclet_scripts.specs.Steps.{IsStepOfRow, row_named}
use Rattle.jd_taclets.specs.Taclets.{Taclet}

-- the grammar spells the sequent with the task's names, and terms read no variable's word as something else
abbrev pub IsTaken : PlainTask → PlainSequent → Type 0
IsTaken t s = IsSpelledSequent (names_of t) s × AreTermNames (names_of t).variables

-- of the row of the step's name, if there is one
abbrev pub IsStepOf : Option Taclet → PlainTask → PlainSequent → PlainStep → List PlainSequent → Type 0
IsStepOf (Some r) t s p ps = IsStepOfRow r t s p ps
IsStepOf None t s p ps = IsInstance s p ps

abbrev pub IsRuleStep : PlainTask → PlainSequent → PlainStep → List PlainSequent → Type 0
IsRuleStep t s p ps = IsStepOf (row_named rule_rows p.rule) t s p ps

abbrev pub CauseOf : Option Taclet → PlainTask → PlainSequent → PlainStep → ℕ → Type 0
CauseOf (Some r) t s p n = RowCause r t s p n
CauseOf None t s p n = Cause s p n

-- why a step is refused, by the cause's number: the first says that neither a row nor a first rule has the name
abbrev pub RuleCause : PlainTask → PlainSequent → PlainStep → ℕ → Type 0
RuleCause t s p n = CauseOf (row_named rule_rows p.rule) t s p n

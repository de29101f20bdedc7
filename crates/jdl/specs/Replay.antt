-- The steps of replay: those of the rules.
use Rattle.std.specs.Prelude.{ℕ, List}
use Rattle.jd_model.specs.Sequents.{PlainSequent}
use Rattle.jd_sequent.specs.Trees.{PlainStep}
use Rattle.jd_sequent.specs.Obligations.{PlainTask}
use Rattle.jd_rules.specs.Steps.{IsRuleStep, RuleCause}
use Rattle.jd_answer.specs.Answers.{leads_of}

-- a step of a program's obligation leads to premises where it is an instance of a rule and they are within the limits
abbrev pub rule_leads : PlainTask → PlainSequent → PlainStep → List PlainSequent → Type 0
rule_leads = leads_of (λ t s p ps. IsRuleStep t s p ps)

-- why a step of a program's obligation is refused, by the cause's number
abbrev pub rule_causes : PlainTask → PlainSequent → PlainStep → ℕ → Type 0
rule_causes = (λ t s p n. RuleCause t s p n)

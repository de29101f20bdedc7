-- The kinds of rules, and a step of a rule.
use Rattle.std.specs.Prelude.{List, ◌⊎◌}
use Rattle.jd_model.specs.Sequents.{PlainSequent}
use Rattle.jd_sequent.specs.Trees.{PlainStep}
use Rattle.jd_first_steps.specs.declared.rules.FirstRule.{FirstRule}
use Rattle.jd_first_steps.specs.declared.rules.FirstRule.TheVariants.{Close, CloseTrue, NotLeft, AndLeft, AndRight, ImpRight, EqRefl, SetSimple, FrameReturn, CatchEmpty, EmptyCode, Simplify}
use Rattle.jd_first_rules.specs.declared.rules.Kind.{Kind}
use Rattle.jd_first_rules.specs.declared.rules.Kind.TheVariants.{Closing, Whole, Anywhere}
use Rattle.jd_first_steps.specs.Instances.{IsClose, IsRow, IsRewrite}

-- what a rule acts on
abbrev pub kind_of : FirstRule → Kind
kind_of Close = Closing
kind_of CloseTrue = Whole
kind_of NotLeft = Whole
kind_of AndLeft = Whole
kind_of AndRight = Whole
kind_of ImpRight = Whole
kind_of EqRefl = Anywhere
kind_of SetSimple = Anywhere
kind_of FrameReturn = Anywhere
kind_of CatchEmpty = Anywhere
kind_of EmptyCode = Anywhere
kind_of Simplify = Anywhere

-- a step of this rule
abbrev pub IsStep : FirstRule → PlainSequent → PlainStep → List PlainSequent → Type 0
IsStep rule s p ps = IsClose rule s p ps ⊎ (IsRow rule s p ps ⊎ IsRewrite rule s p ps)

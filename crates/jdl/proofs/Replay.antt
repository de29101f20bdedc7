-- The laws of the rules' steps.
use Rattle.jd_sequent.specs.Rules.{LeadsWithinLimits}
use Rattle.jd_sequent.specs.SoundDerivations.{DerivationsAreSound}
use Rattle.jd_sequent.proofs.SoundDerivations.{derivations_are_sound}
use Rattle.jd_sequent.specs.Obligations.{PlainTask}
use Rattle.jd_rules.specs.Laws.{has_no_cause, keeps, one_way, sound}
use Rattle.jd_rules.specs.Steps.{IsRuleStep, IsTaken}
use Rattle.jd_spelled_tasks.specs.Laws.{FirstTasksAreSpelled}
use Rattle.jd_answer.proofs.Derivations.{OneWay, HasNoCause}
use Rattle.jd_answer.specs.Answers.{AcceptsObligations}
use Rattle.jdl.specs.Replay.{rule_leads, rule_causes}

pub rules_one_way : (q : PlainTask) → OneWay (rule_leads q)
rules_one_way q s p ps qs l m = one_way q s p ps qs l.0 m.0

pub rules_have_no_cause : (q : PlainTask) → HasNoCause (rule_leads q) (rule_causes q)
rules_have_no_cause q s p ps n l h = has_no_cause q s p ps n l h

-- each derivation of a sequent that the rules take is sound
pub derivations_by_rules_are_sound : (q : PlainTask) → DerivationsAreSound q (λ s. IsTaken q s) (rule_leads q)
derivations_by_rules_are_sound q =
    derivations_are_sound q (λ s. IsTaken q s) (LeadsWithinLimits (λ s p ps. IsRuleStep q s p ps)) (λ s p ps taken l. keeps q s p ps taken l) (λ s p ps taken l. sound q s p ps taken l.0)

-- the sequents of programs' obligations are such
pub obligations_are_taken : FirstTasksAreSpelled → AcceptsObligations (λ t s. IsTaken t s)
obligations_are_taken law q t =
    let p = t.are.resolved in
    law t.files p.units p.trees p.stand p.none q t.are.task

use Rattle.std.proofs.Common.{Bor, MatchResult, None, Some, ap, map, option_map, subst, sym, ◌≡◌, ◌∙◌}
use Rattle.jd_model.specs.Sequents.{sequent_view}
use Rattle.jd_schema_trees.specs.TacletViews.{taclet}
use Rattle.jd_schema_trees.specs.declared.taclet.Taclet.{Taclet}
use Rattle.jd_sequent.specs.Obligations.{names_of, task_view}
use Rattle.jd_sequent.specs.Rules.{IsCaused, LeadsWithinLimits}
use Rattle.jd_sequent.specs.Steps.{step_view}
use Rattle.jd_spelled_first_steps.proofs.ToSorted.{spelled_formulas_are_sorted}
use Rattle.jd_table_steps.proofs.Rows.{rows_are_rules}
use Rattle.jd_table_steps.proofs.Tables.{usable}
use Rattle.jd_table_steps.specs.Tables.{rule_rows}
use Rattle.jd_taclet_scripts.specs.Steps.{row_named}
use Rattle.jd_rules.specs.Steps.{CauseOf, IsStepOf}
use Rattle.jd_rules.proofs.set.BaseRuleSet.apply_to.Goals as goal

pub apply_row-requires : goal.apply_row-requires
apply_row-requires c =
    let named : row_named rule_rows c.args.step.now.rule.items ≡ Some (taclet c.in-Some.row.now) =
    sym (sym (ap (option_map (λ (r : Bor Taclet). taclet r.now)) c.in-Some.is) ∙ c.row_named.ensures ∙ ap (λ l. row_named (map taclet l) c.deref-2.result.now) c.deref.ensures.value ∙ ap (row_named (map taclet c.args.self.now.rows.items)) c.deref-2.ensures.value ∙ ap (λ l. row_named l c.args.step.now.rule.items) c.requires.0) in
    usable rule_rows rows_are_rules (task_view c.args.task.now) (sequent_view c.args.sequent) c.requires.1.0 (step_view c.args.step.now) (taclet c.in-Some.row.now) named

pub apply_to-requires : goal.apply_to-requires
apply_to-requires c = spelled_formulas_are_sorted.sequent (names_of (task_view c.args.task.now)) (sequent_view c.args.sequent) c.requires.1.0

pub returns-in-Some : goal.returns-in-Some
returns-in-Some c =
    let named : row_named rule_rows c.args.step.now.rule.items ≡ Some (taclet c.in-Some.row.now) =
    sym (sym (ap (option_map (λ (r : Bor Taclet). taclet r.now)) c.in-Some.is) ∙ c.row_named.ensures ∙ ap (λ l. row_named (map taclet l) c.deref-2.result.now) c.deref.ensures.value ∙ ap (row_named (map taclet c.args.self.now.rows.items)) c.deref-2.ensures.value ∙ ap (λ l. row_named l c.args.step.now.rule.items) c.requires.0) in
    subst (λ o. MatchResult c.apply_row.result (λ v. LeadsWithinLimits (IsStepOf o (task_view c.args.task.now)) (sequent_view c.args.sequent) (step_view c.args.step.now) (map sequent_view v.items)) (λ b. IsCaused (CauseOf o (task_view c.args.task.now) (sequent_view c.args.sequent) (step_view c.args.step.now)) b))
    (sym named) c.apply_row.ensures

pub returns-in-None : goal.returns-in-None
returns-in-None c =
    let none : row_named rule_rows c.args.step.now.rule.items ≡ None =
    sym (sym (ap (option_map (λ (r : Bor Taclet). taclet r.now)) c.in-None.is) ∙ c.row_named.ensures ∙ ap (λ l. row_named (map taclet l) c.deref-2.result.now) c.deref.ensures.value ∙ ap (row_named (map taclet c.args.self.now.rows.items)) c.deref-2.ensures.value ∙ ap (λ l. row_named l c.args.step.now.rule.items) c.requires.0) in
    subst (λ o. MatchResult c.apply_to.result (λ v. LeadsWithinLimits (IsStepOf o (task_view c.args.task.now)) (sequent_view c.args.sequent) (step_view c.args.step.now) (map sequent_view v.items)) (λ b. IsCaused (CauseOf o (task_view c.args.task.now) (sequent_view c.args.sequent) (step_view c.args.step.now)) b))
    (sym none) c.apply_to.ensures

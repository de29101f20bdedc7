use Rattle.std.proofs.Common.{Bor, Some, ap, map, option_map, subst, sym, ◌≡◌, ◌∙◌}
use Rattle.jd_model.specs.Sequents.{sequent_view}
use Rattle.jd_schema_trees.specs.TacletViews.{taclet}
use Rattle.jd_schema_trees.specs.declared.taclet.Taclet.{Taclet}
use Rattle.jd_sequent.specs.Obligations.{task_view}
use Rattle.jd_sequent.specs.Steps.{step_view}
use Rattle.jd_table_steps.proofs.Rows.{rows_are_rules}
use Rattle.jd_table_steps.proofs.Tables.{usable}
use Rattle.jd_table_steps.specs.Tables.{rule_rows}
use Rattle.jd_table_steps.specs.Usable.{IsUsable}
use Rattle.jd_taclet_scripts.specs.Steps.{row_named}
use Rattle.jd_taclet_rules.specs.Premises.{IsAnswerOfRow}
use Rattle.jd_taclet_rules.proofs.Answering.{answered}
use Rattle.jd_taclet_rules.proofs.rules.TacletRuleRule.apply.Goals as goal

pub apply_row-requires : goal.apply_row-requires
apply_row-requires c =
    let named : row_named rule_rows c.args.step.now.rule.items ≡ Some (taclet c.in-Some.row.now) =
    sym (sym (ap (option_map (λ (r : Bor Taclet). taclet r.now)) c.in-Some.is) ∙ c.row_named.ensures ∙ ap (λ l. row_named (map taclet l) c.deref-2.result.now) c.deref.ensures.value ∙ ap (row_named (map taclet c.args.self.now.rows.items)) c.deref-2.ensures.value ∙ ap (λ l. row_named l c.args.step.now.rule.items) c.requires.0) in
    subst (λ s. IsUsable (taclet c.in-Some.row.now) (task_view c.args.task.now) s (step_view c.args.step.now)) (sym c.in-Ok.ensures)
    (usable rule_rows rows_are_rules (task_view c.args.task.now) (sequent_view c.args.sequent.now) c.requires.1 (step_view c.args.step.now) (taclet c.in-Some.row.now) named)

pub returns-in-Ok : goal.returns-in-Ok
returns-in-Ok c =
    let named : row_named rule_rows c.args.step.now.rule.items ≡ Some (taclet c.in-Some.row.now) =
    sym (sym (ap (option_map (λ (r : Bor Taclet). taclet r.now)) c.in-Some.is) ∙ c.row_named.ensures ∙ ap (λ l. row_named (map taclet l) c.deref-2.result.now) c.deref.ensures.value ∙ ap (row_named (map taclet c.args.self.now.rows.items)) c.deref-2.ensures.value ∙ ap (λ l. row_named l c.args.step.now.rule.items) c.requires.0) in
    answered rule_rows (taclet c.in-Some.row.now) (task_view c.args.task.now) (sequent_view c.args.sequent.now) (step_view c.args.step.now) named c.apply_row.result
    (subst (λ s. IsAnswerOfRow (taclet c.in-Some.row.now) (task_view c.args.task.now) s (step_view c.args.step.now) c.apply_row.result) c.in-Ok.ensures c.apply_row.ensures)

use Rattle.std.proofs.Common.{sym, ap, ◌∙◌}
use Rattle.std.proofs.lemmas.Result.{IfOk-weaker}
use Rattle.jd_bracketed.specs.TokenViews.{kind_view}
use Rattle.jd_scripts.specs.Machine as machine
use Rattle.jd_scripts.specs.Machine.{decide}
use Rattle.jd_script.specs.ProofViews.{proofs_view}
use Rattle.jd_script.specs.TurnViews.{limits_view}
use Rattle.jd_script.proofs.stage.at_name.Goals as goal

pub returns-in-Word : goal.returns-in-Word
returns-in-Word c =
    IfOk-weaker c.named.result _ _ (λ r h limits. h limits ∙ ap (λ k. decide (limits_view limits) (machine.at_name 1 (proofs_view c.args.proofs.now) (kind_view k))) (sym c.in-Word.is)) c.named.ensures

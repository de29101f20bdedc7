use Rattle.std.proofs.Common.{◌≡◌, drop, map}
use Rattle.jd_syntax.specs.Codes.{stmts_of}
use Rattle.jd_syntax.specs.CodeViews.{stmt_view}
use Rattle.jd_first_form.specs.Forms as forms
use Rattle.jd_first_form.proofs.steps.are_steps.Given as goal

-- those that are left say it
abbrev pub invariant-loop-s : goal.invariant-loop-s
invariant-loop-s l = forms.all_steps (stmts_of (map stmt_view (drop l.s-index l.ss))) ≡ forms.all_steps (stmts_of (map stmt_view l.fn.ss))

use Rattle.std.proofs.Common.{◌∙◌, sym}
use Rattle.jd_term.specs.Formulas.{formula_view}
use Rattle.jd_update.proofs.Binderless.{binderless_fits}
use Rattle.jd_first_rules.proofs.rewrite.pushed.Goals as goal

pub simplify-requires : goal.simplify-requires
simplify-requires c = binderless_fits (formula_view c.args.before.now) (sym c.has_no_binder.ensures ∙ c.if-not-has_no_binder.false)

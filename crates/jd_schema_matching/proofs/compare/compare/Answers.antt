use Rattle.std.proofs.Common.{sym, ap, ◌∙◌}
use Rattle.jd_patterns.specs.Bindings.{compare}
use Rattle.jd_schema_matching.specs.PartViews.{part_view}
use Rattle.jd_schema_matching.specs.Tested.{tests}
use Rattle.jd_schema_matching.proofs.compare.compare.Goals as goal

pub returns-in-Context : goal.returns-in-Context
returns-in-Context c = c.compare_context.ensures ∙ ap (λ x. compare tests (part_view x) (part_view c.args.y)) (sym c.in-Context.is)

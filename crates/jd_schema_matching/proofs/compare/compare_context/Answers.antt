use Rattle.std.proofs.Common.{map, sym, ap, ◌∙◌}
use Rattle.jd_syntax.specs.CodeViews.{stmt_view}
use Rattle.jd_syntax.specs.Codes.{stmts_of}
use Rattle.jd_patterns.specs.Bindings.{TheContext, compare, verdict}
use Rattle.jd_schema_matching.specs.Foci.{context_at}
use Rattle.jd_schema_matching.specs.PartViews.{part_view}
use Rattle.jd_schema_matching.specs.Tested.{tests}
use Rattle.jd_schema_matching.proofs.compare.compare_context.Goals as goal

pub returns-in-Context : goal.returns-in-Context
returns-in-Context c = c.verdict_of.ensures ∙ ap verdict c.same_context.ensures ∙ ap (λ y. compare tests (TheContext (context_at c.args.test (stmts_of (map stmt_view c.args.a.now)))) (part_view y)) (sym c.in-Context.is)

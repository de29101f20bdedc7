use Rattle.std.proofs.Common.{ap, sym, ◌∙◌}
use Rattle.jd_patterns.specs.Bindings.{TheContext}
use Rattle.jd_schema_matching.specs.Foci.{context_at}
use Rattle.jd_schema_matching.specs.PartViews.{part_view}
use Rattle.jd_syntax.specs.Codes.{stmts_of}
use Rattle.jd_schema.proofs.part.Part.of.Goals as goal

pub returns-in_ok-statements-in-Context : goal.returns-in_ok-statements-in-Context
returns-in_ok-statements-in-Context c =
    ap (λ l. TheContext (context_at c.in-Context.test (stmts_of l))) c.in_ok-statements-in-Context.ensures ∙ ap part_view (sym c.in-Context.is)

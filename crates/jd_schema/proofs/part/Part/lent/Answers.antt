use Rattle.std.proofs.Common.{ap, map, sym, ◌∙◌}
use Rattle.jd_patterns.specs.Bindings.{TheContext}
use Rattle.jd_schema.specs.Parts.{part}
use Rattle.jd_schema_matching.specs.Foci.{context_at}
use Rattle.jd_syntax.specs.CodeViews.{stmt_view}
use Rattle.jd_syntax.specs.Codes.{stmts_of}
use Rattle.jd_schema.proofs.part.Part.lent.Goals as goal

pub returns-in-Context : goal.returns-in-Context
returns-in-Context c =
    ap (λ l. TheContext (context_at c.in-Context.test (stmts_of (map stmt_view l)))) c.deref-in-Context.ensures.value ∙ ap part (sym c.in-Context.is)

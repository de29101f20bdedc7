use Rattle.std.proofs.Common.{Some, sym, ap}
use Rattle.jd_patterns.specs.Chosen.{as_context}
use Rattle.jd_schema_matching.specs.PartViews.{part_view}
use Rattle.jd_schema_instances.proofs.parts.context_of.Goals as goal

pub returns-in-Context : goal.returns-in-Context
returns-in-Context c = ap (λ x. as_context (Some (part_view x))) (sym c.in-Context.is)

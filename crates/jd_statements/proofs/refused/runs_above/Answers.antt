use Rattle.std.proofs.Common.{List, map, sym, ap, ◌∙◌}
use Rattle.jd_syntax.specs.declared.java.Stmt.{Stmt}
use Rattle.jd_syntax.specs.JavaTrees.{java_stmt_view, method_view, result_view}
use Rattle.jd_bodies.specs.Refused.{begins_with_super}
use Rattle.jd_bodies.specs.Statements.{above_parameters}
use Rattle.jd_statements.proofs.Members.{constructor_above}
use Rattle.jd_statements.proofs.refused.runs_above.Goals as goal

pub returns-else-begins_with_super : goal.returns-else-begins_with_super
returns-else-begins_with_super g c = λ s.
    constructor_above (g.D.Declares.declarations c.args.d.now) c.args.class (method_view c.args.m.now).name (method_view c.args.m.now).result _ _ s _
    (ap result_view c.in-Constructor.is)
    (ap (λ (l : List Stmt). begins_with_super (map java_stmt_view l)) (sym c.deref.ensures.value) ∙ sym c.begins_with_super.ensures ∙ c.if-begins_with_super.false)
    (c.above_parameters.ensures ∙ ap (above_parameters (g.D.Declares.declarations c.args.d.now)) c.parent.ensures)
    (c.needs_none.ensures (g.D.Declares.declarations c.args.d.now) s)

use Rattle.std.proofs.Common.{[], ◌∷◌, map, refl}
use Rattle.jd_bodies.specs.Codes.{variable}
use Rattle.jd_syntax.specs.CodeViews.{stmt_view}
use Rattle.jd_syntax.specs.Codes as code
use Rattle.jd_syntax.specs.Names.{var_view}
use Rattle.jd_statement_parts.proofs.catching.handler_stmts.Goals as goal

pub returns : goal.returns
returns c = λ x k.
    c.appended_stmts.ensures (code.Set (var_view c.args.name) (variable x) ∷ []) (map stmt_view c.args.stmts.items)
    (c.one_stmt.ensures (code.Set (var_view c.args.name) (variable x)) (c.set.ensures (var_view c.args.name) (variable x) refl (c.thrown_object.ensures x k))) refl

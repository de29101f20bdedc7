use Rattle.jd_bodies.specs.Codes.{variable}
use Rattle.jd_syntax.specs.Codes as code
use Rattle.jd_syntax.specs.Codes.{OfClass}
use Rattle.jd_statement_parts.specs.Catching.{part_stmts, part_view}
use Rattle.jd_statement_parts.proofs.catching.caught_by.Goals as goal

pub returns : goal.returns
returns c = λ x ss k o.
    c.one_stmt.ensures _ (c.choice.ensures (code.InstanceOf (OfClass c.args.part.class) (variable x)) (part_stmts x (part_view c.args.part)) ss (c.instance_of-is_one.ensures (variable x) (c.thrown_object.ensures x k)) (c.handler_stmts-handler.ensures x k) o)

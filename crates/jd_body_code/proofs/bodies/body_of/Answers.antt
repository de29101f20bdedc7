use Rattle.std.proofs.Common.{[], ◌++◌, ap, map}
use Rattle.jd_syntax.specs.JavaTrees.{java_stmt_view, java_stmts, method_view, parameter_view}
use Rattle.jd_bodies.specs.Bodies.{PlainBody, begun, block_lines, parameter_locals, unwritten, with_parameters}
use Rattle.jd_bodies.specs.Refused.{begins_with_super, place_of}
use Rattle.jd_locals.specs.Scoped.{scope_of}
use Rattle.jd_statement_parts.specs.Leaving.{exits_view}
use Rattle.jd_statement_parts.proofs.Standing.{there}
use Rattle.jd_body_code.specs.Made.{GivesBody}
use Rattle.jd_body_code.proofs.Wholes.{begins, body_told}
use Rattle.jd_body_code.proofs.bodies.body_of.Goals as goal

pub returns : goal.returns
returns g c =
    let place = place_of (g.D.Declares.declarations c.args.declared.now) c.args.class (method_view c.args.method.now) in
    let ps = map parameter_view c.deref.result.now in
    let q = with_parameters (g.D.Declares.declarations c.args.declared.now) ps (begun place) in
    let ls = parameter_locals (g.D.Declares.declarations c.args.declared.now) ps [] in
    let h = c.with_parameters.ensures.stands (begun place) [] (begins c.begun-p.result (scope_of c.new-scope.result) (begun place) c.new-scope.ensures c.begun-p.ensures) in
    let b = block_lines (g.D.Declares.declarations c.args.declared.now) place (java_stmts (map java_stmt_view c.deref-2.result.now)) (exits_view c.no_exits.result) ls q in
    let first = unwritten (g.D.Declares.declarations c.args.declared.now) (method_view c.args.method.now).result (begins_with_super (method_view c.args.method.now).body) c.args.class in
    body_told (λ (r : PlainBody). GivesBody c.whole_body.result r) (g.D.Declares.declarations c.args.declared.now) c.args.class (method_view c.args.method.now) (exits_view c.no_exits.result) ps (map java_stmt_view c.deref-2.result.now)
    c.no_exits.ensures (ap (map parameter_view) c.deref.ensures.value) (ap (map java_stmt_view) c.deref-2.ensures.value)
    (c.whole_body.ensures b.0 (first ++ b.1) (there c.block-rest.new.p (scope_of c.block-rest.new.scope).locals ls b.0 (c.block-rest.ensures.stands q ls h)) (c.appended_stmts.ensures first b.1 c.unwritten-first.ensures (c.block-rest.ensures.stmts q ls h)))

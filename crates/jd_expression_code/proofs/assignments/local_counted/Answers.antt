use Rattle.std.proofs.Common.{[], ◌∷◌, pos, refl}
use Rattle.jd_syntax.specs.Codes.{Binary, IntLiteral, Set, Variable}
use Rattle.jd_syntax.specs.Names.{var_view}
use Rattle.jd_bodies.specs.Variables.{temporary}
use Rattle.jd_bodies.specs.declared.value.ValueType.TheVariants as types
use Rattle.jd_expression_code.proofs.assignments.local_counted.Goals as goal

pub returns-clause-value : goal.returns-clause-value
returns-clause-value c = λ q h.
    let k = (temporary types.Int q).1 in
    let x = var_view c.args.x in
    let named = c.temporary-kept.ensures.name q h in
    c.do_then.ensures (Set k (Variable x) ∷ Set x (Binary c.args.operation (Variable x) (IntLiteral (pos 1))) ∷ []) (Variable k)
    (c.two_stmts.ensures (Set k (Variable x)) (Set x (Binary c.args.operation (Variable x) (IntLiteral (pos 1))))
    (c.set-first.ensures k (Variable x) (c.copied.ensures k named) (c.variable-2.ensures x c.copy-2.ensures))
    (c.set-last.ensures x (Binary c.args.operation (Variable x) (IntLiteral (pos 1))) refl (c.binary-new.ensures (Variable x) (IntLiteral (pos 1)) (c.variable.ensures x c.copy.ensures) c.integer.ensures)))
    (c.variable-3.ensures k named)

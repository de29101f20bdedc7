use Rattle.std.proofs.Common.{[], ◌∷◌}
use Rattle.jd_syntax.specs.Codes.{NewArray, Set, Variable}
use Rattle.jd_bodies.specs.Variables.{temporary}
use Rattle.jd_bodies.specs.declared.value.ValueType.TheVariants as types
use Rattle.jd_expression_code.proofs.creation.created_array.Goals as goal

pub returns-clause-value : goal.returns-clause-value
returns-clause-value c = λ m h is.
    let k = temporary types.Int m.0 in
    let u = temporary types.IntArray k.0 in
    let kept = c.temporary-kept.ensures.name m.0 h in
    let made = c.temporary-array.ensures.name k.0 (c.temporary-kept.ensures.progress m.0 h) in
    c.do_then.ensures (Set k.1 m.1 ∷ NewArray u.1 (Variable k.1) ∷ []) (Variable u.1)
    (c.two_stmts.ensures (Set k.1 m.1) (NewArray u.1 (Variable k.1)) (c.set-first.ensures k.1 m.1 (c.copied.ensures k.1 kept) is)
    (c.new_array-last.ensures u.1 (Variable k.1) (c.copied-2.ensures u.1 made) (c.variable.ensures k.1 kept)))
    (c.variable-2.ensures u.1 made)

use Rattle.std.proofs.Common.{[], ◌∷◌}
use Rattle.jd_syntax.specs.Codes.{Set, StaticCall, exprs_of}
use Rattle.jd_expression_code.proofs.creation.call_behind.Goals as goal

pub returns : goal.returns
returns c = λ k x xs named is all.
    c.do_then.ensures (Set k x ∷ []) (StaticCall c.args.method (exprs_of xs)) (c.one_stmt.ensures (Set k x) (c.set.ensures k x named is)) (c.static_call.ensures xs all)

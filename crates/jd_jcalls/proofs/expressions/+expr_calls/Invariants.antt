use Rattle.jd_jcalls.proofs.expressions.+expr_calls.Given as goal
use Rattle.jd_jcalls.specs.Called.{called_view}
use Rattle.jd_jcalls.specs.Calls.{calls_in_exprs}
use Rattle.jd_syntax.specs.JavaTrees.{java_view}
use Rattle.std.proofs.Common.{◌≡◌, ◌++◌, drop, map}

abbrev pub invariant-add_exprs_calls-loop-e : goal.invariant-add_exprs_calls-loop-e
invariant-add_exprs_calls-loop-e l =
    map called_view l.out.items ++ calls_in_exprs (map java_view (drop l.e-index l.exprs)) ≡ map called_view l.fn.out.items ++ calls_in_exprs (map java_view l.exprs)

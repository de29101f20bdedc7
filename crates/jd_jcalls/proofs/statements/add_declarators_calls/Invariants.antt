use Rattle.jd_jcalls.proofs.statements.add_declarators_calls.Given as goal
use Rattle.jd_jcalls.specs.Called.{called_view}
use Rattle.jd_jcalls.specs.Calls.{calls_in_declarators}
use Rattle.jd_syntax.specs.JavaTrees.{declarator_view}
use Rattle.std.proofs.Common.{◌≡◌, ◌++◌, drop, map}

abbrev pub invariant-loop-declarator : goal.invariant-loop-declarator
invariant-loop-declarator l =
    map called_view l.out.items ++ calls_in_declarators (map declarator_view (drop l.declarator-index l.declarators)) ≡ map called_view l.fn.out.items ++ calls_in_declarators (map declarator_view l.declarators)

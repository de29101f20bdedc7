use Rattle.jd_syntax.proofs.assigned.variables.Given as goal
use Rattle.jd_syntax.specs.AssignedNames.{key_name, names_of}
use Rattle.jd_syntax.specs.Names.{var_view}
use Rattle.std.proofs.Common.{◌≡◌, ◌++◌, map}

abbrev pub invariant-loop-name : goal.invariant-loop-name
invariant-loop-name l = map var_view l.vars.items ++ map key_name l.name-iterator ≡ names_of l.found

use Rattle.std.proofs.Common.{◌≡◌, [], drop, map}
use Rattle.jd_jml_known.specs.Scopes.{known_of}
use Rattle.jd_specifications.specs.WrittenCases.{entries}
use Rattle.jd_syntax.specs.JavaTrees.{parameter_view}
use Rattle.jd_case_clauses.proofs.names.method_names.Given as goal

-- those in scope, and those that are left
abbrev pub invariant-loop-i : goal.invariant-loop-i
invariant-loop-i g l = entries (g.D.Declares.declarations l.fn.d) l.i (map parameter_view (drop l.i l.fn.parameters)) (known_of l.names) ≡ entries (g.D.Declares.declarations l.fn.d) 0 (map parameter_view l.fn.parameters) []

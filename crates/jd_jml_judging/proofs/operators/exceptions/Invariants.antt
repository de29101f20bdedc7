use Rattle.std.proofs.Common.{◌≡◌, drop, map}
use Rattle.jd_specifications.specs.Clauses as plain
use Rattle.jd_syntax.specs.JavaTypes.{identifier_view}
use Rattle.jd_jml_judging.proofs.operators.exceptions.Given as goal

-- what is left decides
abbrev pub invariant-loop-c : goal.invariant-loop-c
invariant-loop-c g l = plain.exceptions (g.D.Declares.declarations l.d) (map identifier_view l.classes) ≡ plain.exceptions (g.D.Declares.declarations l.d) (map identifier_view (drop l.c-index l.classes))

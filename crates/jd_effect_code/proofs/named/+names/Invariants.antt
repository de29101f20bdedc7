use Rattle.std.proofs.Common.{◌≡◌, drop, map}
use Rattle.jd_bodies.specs.Jumps as plain
use Rattle.jd_syntax.specs.JavaTrees.{java_exprs, java_view}
use Rattle.jd_effect_code.proofs.named.+names.Given as goal

-- what is left decides
abbrev pub invariant-names_in-loop-e : goal.invariant-names_in-loop-e
invariant-names_in-loop-e l = plain.names_in l.x (java_exprs (map java_view l.es)) ≡ plain.names_in l.x (java_exprs (map java_view (drop l.e-index l.es)))

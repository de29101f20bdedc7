use Rattle.std.proofs.Common.{◌≡◌, drop, map}
use Rattle.jd_specifications.specs.Refused as plain
use Rattle.jd_syntax.specs.JavaTrees.{parameter_view}
use Rattle.jd_jml_judging.specs.Visible.{locals_of}
use Rattle.jd_jml_members.proofs.entering.enter_parameters.Given as goal

-- what is left enters behind what is in scope by now
abbrev pub invariant-loop-x : goal.invariant-loop-x
invariant-loop-x g l =
    plain.parameters (g.D.Declares.declarations l.d) (map parameter_view l.parameters) (locals_of l.fn.names)
    ≡ plain.parameters (g.D.Declares.declarations l.d) (map parameter_view (drop l.x-index l.parameters)) (locals_of l.names)

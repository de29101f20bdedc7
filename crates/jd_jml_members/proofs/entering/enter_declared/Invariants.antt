use Rattle.std.proofs.Common.{◌≡◌, drop, map}
use Rattle.jd_specifications.specs.Refused as plain
use Rattle.jd_syntax.specs.JavaTrees.{declarator_view}
use Rattle.jd_jml_judging.specs.Visible.{locals_of}
use Rattle.jd_jml_members.proofs.entering.enter_declared.Given as goal

-- what is left enters behind what is in scope by now
abbrev pub invariant-loop-x : goal.invariant-loop-x
invariant-loop-x g l =
    plain.declared_names (g.D.Declares.declarations l.m.declared.now) l.value (map declarator_view l.xs) (locals_of l.fn.names)
    ≡ plain.declared_names (g.D.Declares.declarations l.m.declared.now) l.value (map declarator_view (drop l.x-index l.xs)) (locals_of l.names)

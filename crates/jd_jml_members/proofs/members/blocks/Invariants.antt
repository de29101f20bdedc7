use Rattle.std.proofs.Common.{◌≡◌, drop, map}
use Rattle.jd_specifications.specs.Refused as plain
use Rattle.jd_syntax.specs.SpecTrees.{spec_block_view}
use Rattle.jd_jml_judging.specs.Contexts.{around_view, sofar_view}
use Rattle.jd_jml_members.proofs.members.blocks.Given as goal

-- what is left decides, behind what is known by now
abbrev pub invariant-loop-b : goal.invariant-loop-b
invariant-loop-b g l =
    plain.blocks (g.D.Declares.declarations l.a.declared.now) (around_view l.a) (sofar_view l.fn.s) (map spec_block_view l.bs)
    ≡ plain.blocks (g.D.Declares.declarations l.a.declared.now) (around_view l.a) (sofar_view l.sofar) (map spec_block_view (drop l.b-index l.bs))

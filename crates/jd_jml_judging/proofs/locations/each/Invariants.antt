use Rattle.std.proofs.Common.{◌≡◌, drop, map}
use Rattle.jd_specifications.specs.Clauses as plain
use Rattle.jd_syntax.specs.SpecTrees.{location_view}
use Rattle.jd_jml_judging.specs.Contexts.{context_view}
use Rattle.jd_jml_judging.specs.Visible.{visible}
use Rattle.jd_jml_judging.proofs.locations.each.Given as goal

-- what is left decides
abbrev pub invariant-loop-l : goal.invariant-loop-l
invariant-loop-l g l =
    plain.locations (g.D.Declares.declarations l.w.declared.now) (context_view l.w.context) (visible l.names) (map location_view l.ls)
    ≡ plain.locations (g.D.Declares.declarations l.w.declared.now) (context_view l.w.context) (visible l.names) (map location_view (drop l.l-index l.ls))

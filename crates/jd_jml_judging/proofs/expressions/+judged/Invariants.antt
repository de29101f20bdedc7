use Rattle.std.proofs.Common.{◌≡◌, drop, map}
use Rattle.jd_specifications.specs.Types as plain
use Rattle.jd_syntax.specs.SpecTrees.{spec_view, specs_of}
use Rattle.jd_jml_judging.specs.Contexts.{context_view}
use Rattle.jd_jml_judging.specs.Visible.{visible}
use Rattle.jd_jml_judging.proofs.expressions.+judged.Given as goal

-- what is left decides
abbrev pub invariant-each-loop-e : goal.invariant-each-loop-e
invariant-each-loop-e g l =
    plain.types_of (g.D.Declares.declarations l.w.declared.now) (context_view l.w.context) l.fn.inside (visible l.names) (specs_of (map spec_view l.es))
    ≡ plain.types_of (g.D.Declares.declarations l.w.declared.now) (context_view l.w.context) l.fn.inside (visible l.names) (specs_of (map spec_view (drop l.e-index l.es)))

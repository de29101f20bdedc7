use Rattle.std.proofs.Common.{◌≡◌, map, take}
use Rattle.jd_syntax.specs.SpecTrees.{spec_view}
use Rattle.jd_jml_copies.proofs.copies.+copies.Given as goal

-- those so far are copied
abbrev pub invariant-copy_expressions-loop-e : goal.invariant-copy_expressions-loop-e
invariant-copy_expressions-loop-e l = map spec_view l.copies.items ≡ map spec_view (take l.e-index l.es)

use Rattle.std.proofs.Common.{◌≡◌, ◌++◌, drop, map}
use Rattle.jd_syntax.specs.JavaTypes.{identifier_view}
use Rattle.jd_syntax.specs.SpecTrees.{spec_view}
use Rattle.jd_jml_copies.specs.NotNull.{not_null}
use Rattle.jd_jml_written.proofs.invariants.add_not_null.Given as goal

-- those so far, and what the names that are left add
abbrev pub invariant-loop-x : goal.invariant-loop-x
invariant-loop-x l = map spec_view l.made.items ++ map not_null (map identifier_view (drop l.x-index l.xs)) ≡ map spec_view l.fn.made.items ++ map not_null (map identifier_view l.xs)

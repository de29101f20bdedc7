use Rattle.std.proofs.Common.{◌≡◌, drop, map}
use Rattle.jd_syntax.specs.SpecTrees.{spec_block_view}
use Rattle.jd_specifications.specs.WrittenCases as plain
use Rattle.jd_jml_written.specs.Views.{mark_test}
use Rattle.jd_jml_written.proofs.marks.has_mark.Given as goal

-- those that are left decide
abbrev pub invariant-loop-b : goal.invariant-loop-b
invariant-loop-b l = plain.has_mark (mark_test l.mark) (map spec_block_view l.bs) ≡ plain.has_mark (mark_test l.mark) (map spec_block_view (drop l.b-index l.bs))

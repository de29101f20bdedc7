use Rattle.std.proofs.Common.{◌≡◌, drop, map}
use Rattle.std.specs.List.{list_any}
use Rattle.jd_syntax.specs.SpecTrees.{clause_view}
use Rattle.jd_jml_written.specs.Views.{mark_test}
use Rattle.jd_jml_written.proofs.marks.is_among.Given as goal

-- those that are left decide
abbrev pub invariant-loop-c : goal.invariant-loop-c
invariant-loop-c l = list_any (mark_test l.mark) (map clause_view l.cs) ≡ list_any (mark_test l.mark) (map clause_view (drop l.c-index l.cs))

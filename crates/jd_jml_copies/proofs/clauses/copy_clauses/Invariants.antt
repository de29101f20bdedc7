use Rattle.std.proofs.Common.{◌≡◌, map, take}
use Rattle.jd_syntax.specs.SpecTrees.{clause_view}
use Rattle.jd_jml_copies.proofs.clauses.copy_clauses.Given as goal

-- those so far are copied
abbrev pub invariant-loop-c : goal.invariant-loop-c
invariant-loop-c l = map clause_view l.copies.items ≡ map clause_view (take l.c-index l.cs)

use Rattle.std.proofs.Common.{◌≡◌, ◌++◌, drop, map}
use Rattle.jd_specifications.specs.WrittenCases.{all_clauses}
use Rattle.jd_syntax.specs.SpecTrees.{spec_block_view, spec_view}
use Rattle.jd_jml_written.specs.Marked.{written_invariants}
use Rattle.jd_jml_written.proofs.invariants.add_blocks.Given as goal

-- those so far, and what the places that are left add
abbrev pub invariant-loop-b : goal.invariant-loop-b
invariant-loop-b l = map spec_view l.made.items ++ written_invariants (all_clauses (map spec_block_view (drop l.b-index l.bs))) ≡ map spec_view l.fn.made.items ++ written_invariants (all_clauses (map spec_block_view l.bs))

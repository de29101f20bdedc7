use Rattle.std.proofs.Common.{◌≡◌, ◌++◌, drop, flat_map, map}
use Rattle.jd_syntax.specs.JavaTrees.{member_view}
use Rattle.jd_syntax.specs.SpecTrees.{spec_view}
use Rattle.jd_jml_written.specs.Marked.{member_invariants}
use Rattle.jd_jml_written.proofs.invariants.add_members.Given as goal

-- those so far, and what the members that are left add
abbrev pub invariant-loop-m : goal.invariant-loop-m
invariant-loop-m l = map spec_view l.made.items ++ flat_map member_invariants (map member_view (drop l.m-index l.ms)) ≡ map spec_view l.fn.made.items ++ flat_map member_invariants (map member_view l.ms)

use Rattle.std.proofs.Common.{◌≡◌, ◌++◌, drop, flat_map, map}
use Rattle.jd_syntax.specs.JavaTrees.{member_view}
use Rattle.jd_jml_cases.specs.Trees.{method_in, tree_view}
use Rattle.jd_jml_cases.proofs.trees.add_members.Given as goal

-- those so far, and what the members that are left add
abbrev pub invariant-loop-m : goal.invariant-loop-m
invariant-loop-m l = map tree_view l.trees.items ++ flat_map method_in (map member_view (drop l.m-index l.ms)) ≡ map tree_view l.fn.trees.items ++ flat_map method_in (map member_view l.ms)

use Rattle.std.proofs.Common.{◌≡◌, drop, map}
use Rattle.jd_syntax.specs.SpecTrees.{clause_view}
use Rattle.jd_first_form.specs.Conditions.{all_comparisons, are_few}
use Rattle.jd_first_form.proofs.conditions.are_conditions.Given as goal

-- those that are left are few for what is left of the limit
abbrev pub invariant-loop-c : goal.invariant-loop-c
invariant-loop-c l = are_few l.left (all_comparisons (map clause_view (drop l.c-index l.cs))) ≡ are_few l.fn.limit (all_comparisons (map clause_view l.fn.cs))

use Rattle.std.proofs.Common.{◌≡◌, map, take}
use Rattle.jd_row_makers.specs.Heads.{class_number}
use Rattle.jd_specifications.specs.WrittenCases as plain
use Rattle.jd_syntax.specs.JavaTypes.{identifier_view}
use Rattle.jd_case_clauses.proofs.throwing.classes_of.Given as goal

-- those so far
abbrev pub invariant-loop-x : goal.invariant-loop-x
invariant-loop-x g l = map class_number l.classes.items ≡ map (plain.class_of (g.D.Declares.declarations l.d)) (map identifier_view (take l.x-index l.xs))

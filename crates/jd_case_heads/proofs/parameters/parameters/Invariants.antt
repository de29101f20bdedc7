use Rattle.std.proofs.Common.{◌≡◌, map, take}
use Rattle.jd_case_rows.specs.Rows.{respelled}
use Rattle.jd_jml_written.specs.Marked.{nullable_parameters}
use Rattle.jd_row_makers.specs.Heads as rows
use Rattle.jd_specifications.specs.WrittenCases as plain
use Rattle.jd_syntax.specs.JavaTrees.{parameter_view}
use Rattle.jd_case_heads.specs.Parameters.{constant_names}
use Rattle.jd_case_heads.proofs.parameters.parameters.Given as goal

-- those so far
abbrev pub invariant-loop-i : goal.invariant-loop-i
invariant-loop-i g l = l.fn.nullable ≡ nullable_parameters (map parameter_view l.fn.xs) → map rows.parameter_view l.made.items ≡ take l.i (respelled (constant_names l.fn.variables) (map (plain.parameter (g.D.Declares.declarations l.fn.d)) (map parameter_view l.fn.xs)))

use Rattle.std.proofs.Common.{◌≡◌, map, take}
use Rattle.jd_syntax.specs.JavaTrees.{parameter_view}
use Rattle.jd_jml_written.specs.Marked.{nullable_parameters}
use Rattle.jd_jml_written.proofs.marks.nullable_of.Given as goal

-- those so far
abbrev pub invariant-loop-x : goal.invariant-loop-x
invariant-loop-x l = l.nullable.items ≡ nullable_parameters (map parameter_view (take l.x-index l.parameters))

use Rattle.std.proofs.Common.{◌≡◌, ◌++◌, drop}
use Rattle.jd_model.specs.Tables.{source_name}
use Rattle.jd_row_makers.proofs.constants.add_source.Given as goal

-- what is there, and what the bytes that are left add
abbrev pub invariant-loop-b : goal.invariant-loop-b
invariant-loop-b l = l.to.items ++ source_name (drop l.b-index l.name) ≡ l.fn.to.items ++ source_name l.fn.name

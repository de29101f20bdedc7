use Rattle.std.proofs.Common.{◌≡◌, map, drop}
use Rattle.jd_java_tokens.specs.Unsupported as plain
use Rattle.jd_java_tokens.proofs.unsupported.is_listed.Given as goal

-- what the rows from here on say
abbrev pub invariant-loop-row : goal.invariant-loop-row
invariant-loop-row l = plain.is_listed (map (λ row. row.now) l.table) l.text ≡ plain.is_listed (map (λ row. row.now) (drop l.row-index l.table)) l.text

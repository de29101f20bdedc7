use Rattle.std.proofs.Common.{◌≡◌, drop}
use Rattle.jd_java_tokens.specs.Words.{spelled, table_view}
use Rattle.jd_java_tokens.proofs.words.find_spelled.Given as goal

-- what the rows from here on say
abbrev pub invariant-loop-spelling : goal.invariant-loop-spelling
invariant-loop-spelling l = spelled (table_view l.rows) l.text ≡ spelled (table_view (drop l.spelling-index l.rows)) l.text

use Rattle.std.proofs.Common.{◌≡◌, ◌++◌, map, drop}
use Rattle.jd_jml_tokens.specs.Lexemes as plain
use Rattle.jd_jml_tokens.specs.Lexemes.{lexeme_view}
use Rattle.jd_jml_tokens.proofs.lexeme.kinds_of.Given as goal

-- what is made so far, and what the lexemes from here on add
abbrev pub invariant-loop-lexeme : goal.invariant-loop-lexeme
invariant-loop-lexeme l =
    l.out.items ++ plain.kinds_of (map lexeme_view (drop l.lexeme-index l.lexemes)) ≡ plain.kinds_of (map lexeme_view l.lexemes)

use Rattle.std.proofs.Common.{◌≡◌, ◌++◌, map, drop}
use Rattle.jd_java_tokens.specs.Lexemes.{lexeme_view}
use Rattle.jd_java_tokens.specs.Contents.{PlainLexeme}
use Rattle.jd_java_tokens.proofs.runs.kinds_of.Given as goal

-- what is made so far, and what the lexemes from here on add
abbrev pub invariant-loop-lexeme : goal.invariant-loop-lexeme
invariant-loop-lexeme l =
    l.out.items ++ map (λ (x : PlainLexeme). x.kind) (map lexeme_view (drop l.lexeme-index l.lexemes)) ≡ map (λ (x : PlainLexeme). x.kind) (map lexeme_view l.lexemes)

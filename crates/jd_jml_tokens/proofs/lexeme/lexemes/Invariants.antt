use Rattle.std.proofs.Common.{◌≡◌, ◌++◌, map, drop}
use Rattle.jd_lex.specs.View.{tokens_view}
use Rattle.jd_jml_tokens.specs.Lexemes.{lexemes_of, lexeme_view}
use Rattle.jd_jml_tokens.proofs.lexeme.lexemes.Given as goal

-- what is made so far, and what the tokens from here on add
abbrev pub invariant-loop-token : goal.invariant-loop-token
invariant-loop-token l =
    map lexeme_view l.out.items ++ lexemes_of (tokens_view (drop l.token-index l.tokens)) ≡ lexemes_of (tokens_view l.tokens)

use Rattle.std.proofs.Common.{◌≡◌, ◌≤◌, ◌++◌, ◌-◌, length, map, drop}
use Rattle.jd_lex.specs.View.{tokens_view}
use Rattle.jd_java_tokens.specs.Lexemes.{lexemes_of, lexeme_view}
use Rattle.jd_java_tokens.proofs.runs.lexemes.Given as goal

-- what is made so far, and what the tokens from here on add
abbrev pub invariant-loop-number : goal.invariant-loop-number
invariant-loop-number l = record {
  within : l.number ≤ length l.tokens;
  whole : map lexeme_view l.out.items ++ lexemes_of l.number (tokens_view (drop l.number l.tokens)) ≡ lexemes_of 0 (tokens_view l.tokens);
}

abbrev pub decreases-loop-number : goal.decreases-loop-number
decreases-loop-number l = length l.tokens - l.number

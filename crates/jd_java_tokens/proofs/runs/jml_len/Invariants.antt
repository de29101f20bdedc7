use Rattle.std.proofs.Common.{◌≡◌, ◌+◌, drop}
use Rattle.jd_lex.specs.View.{tokens_view}
use Rattle.jd_java_tokens.specs.Lexemes.{jml_length}
use Rattle.jd_java_tokens.proofs.runs.jml_len.Given as goal

-- all so far are JML
abbrev pub invariant-loop-number : goal.invariant-loop-number
invariant-loop-number l = jml_length (tokens_view l.tokens) ≡ l.number + jml_length (tokens_view (drop l.number l.tokens))

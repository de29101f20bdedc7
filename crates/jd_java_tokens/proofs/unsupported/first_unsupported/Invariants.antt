use Rattle.std.proofs.Common.{◌≡◌, drop}
use Rattle.std.specs.List.{position_from}
use Rattle.jd_lex.specs.View.{tokens_view}
use Rattle.jd_java_tokens.specs.Unsupported.{is_unsupported}
use Rattle.jd_java_tokens.proofs.unsupported.first_unsupported.Given as goal

-- what the tokens from here on say
abbrev pub invariant-loop-number : goal.invariant-loop-number
invariant-loop-number l =
    position_from is_unsupported 0 (tokens_view l.tokens) ≡ position_from is_unsupported l.number (tokens_view (drop l.number l.tokens))

-- The last token.
use Rattle.std.proofs.Common.{◌≡◌, ℕ, ◌-◌, List, length, Option, Some, sym, ap, ◌∙◌}
use Rattle.std.specs.List.{slice_get}
use Rattle.std.specs.Prelude.{option_map}
use Rattle.std.specs.Option.{option_map_or}
use Rattle.std.proofs.lemmas.List.{length-map}
use Rattle.std.proofs.lemmas.Option.{slice_get-map}
use Rattle.jd_lex.specs.declared.token.Token.{Token}
use Rattle.jd_lex.specs.View.{token_view, tokens_view}
use Rattle.jd_lex.specs.Parts as lexed
use Rattle.jd_jmlparse.specs.Parses.{end_of}

pub last_ends : (tokens : List Token) (t : Token) → Some t ≡ slice_get tokens (length tokens - 1) → t.to ≡ end_of (tokens_view tokens)
last_ends tokens t is =
    sym (ap (λ (n : ℕ). option_map_or (λ (u : lexed.Token). u.ends) (slice_get (tokens_view tokens) (n - 1)) 0) (length-map tokens token_view)
    ∙ ap (λ (o : Option lexed.Token). option_map_or (λ (u : lexed.Token). u.ends) o 0) (slice_get-map token_view tokens (length tokens - 1) ∙ ap (option_map token_view) (sym is)))

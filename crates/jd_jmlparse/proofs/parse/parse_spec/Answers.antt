use Rattle.std.proofs.Common.{ap, map, subst, ◌∙◌, refl}
use Rattle.jd_grammar.specs.Readings.{IsRefusal}
use Rattle.jd_lex.specs.View.{tokens_view}
use Rattle.jd_jml_grammar.specs.Productions.{jml_productions}
use Rattle.jd_jml_tokens.specs.Lexemes.{kinds_of, lexeme_view}
use Rattle.jd_jmlparse.specs.Parses.{place_of_token}
use Rattle.jd_jmlparse.specs.Places.{name_of}
use Rattle.jd_jmlparse.proofs.Deriving.{stops_there}
use Rattle.jd_jmlparse.proofs.parse.parse_spec.Goals as goal

pub returns-in-Err-Syntax-clause-refused : goal.returns-in-Err-Syntax-clause-refused
returns-in-Err-Syntax-clause-refused c =
    let shown = stops_there c.args.place (tokens_view c.args.tokens.now) (map lexeme_view c.deref.result.now) c.in-Err-Syntax.at c.place_of_token-at.result (ap (map lexeme_view) c.deref.ensures.value ∙ c.in-Ok.ensures) (subst (IsRefusal jml_productions (name_of c.args.place) (kinds_of (map lexeme_view c.deref.result.now))) c.in-Err-Syntax.field-0-is c.in-Err-Syntax.ensures.err) (c.place_of_token-at.ensures ∙ ap (place_of_token (tokens_view c.args.tokens.now)) c.in-Err-Syntax.at-is) in
    (refl, shown.0, shown.1, shown.2)

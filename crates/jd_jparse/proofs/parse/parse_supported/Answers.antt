use Rattle.std.proofs.Common.{ap, map, subst, ◌∙◌, refl}
use Rattle.jd_grammar.specs.Readings.{IsRefusal}
use Rattle.jd_java_grammar.specs.Productions.{java_productions}
use Rattle.jd_java_grammar.specs.declared.names.TheConstants.{COMPILATION_UNIT}
use Rattle.jd_lex.specs.View.{tokens_view}
use Rattle.jd_java_tokens.specs.Lexemes.{lexeme_view}
use Rattle.jd_jparse.specs.Parses.{kinds, place_of_token}
use Rattle.jd_jparse.proofs.Deriving.{stops_there}
use Rattle.jd_jparse.proofs.parse.parse_supported.Goals as goal

pub returns-in-Err-Syntax-clause-refused : goal.returns-in-Err-Syntax-clause-refused
returns-in-Err-Syntax-clause-refused c =
    let shown = stops_there (tokens_view c.args.tokens.now) (map lexeme_view c.deref.result.now) c.in-Err-Syntax.at c.place_of_token-at.result c.requires.supported (ap (map lexeme_view) c.deref.ensures.value ∙ c.in-Ok.ensures) (subst (IsRefusal java_productions COMPILATION_UNIT (kinds (map lexeme_view c.deref.result.now))) c.in-Err-Syntax.field-0-is c.in-Err-Syntax.ensures.err) (c.place_of_token-at.ensures ∙ ap (place_of_token (tokens_view c.args.tokens.now)) c.in-Err-Syntax.at-is) in
    (refl, shown.0, shown.1, shown.2)

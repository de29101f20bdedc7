use Rattle.std.proofs.Common.{map, refl, ap, ◌∷◌, ◌∙◌}
use Rattle.std.proofs.lemmas.Result.{on_ok_weaker}
use Rattle.jd_grammar.specs.Counted.{shown}
use Rattle.jd_jml_tokens.specs.Lexemes.{lexeme_view}
use Rattle.jd_jml_attributes.specs.Short.{no_form}
use Rattle.jd_jml_attributes.proofs.Views.{drop_as, form_of_parts}
use Rattle.jd_jml_attributes.proofs.nodes.JmlNodesNodesLexemeForm.reduce.Goals as goal

pub returns : goal.returns
returns c =
    let stack = shown no_form c.args.piles.now in
    let is = form_of_parts c.args.production (map lexeme_view c.args.tokens.now) stack c.names_of.result c.row-rule.result _ c.take_parts-parts.result c.form_of.result refl c.row-rule.ensures c.names_of.ensures.is c.take_parts-parts.ensures.parts c.form_of.ensures in
    on_ok_weaker c.add.result (λ e. (c.form_of.result, is, e ∙ ap (λ us. c.form_of.result ∷ us) (drop_as c.args.production stack c.names_of.result _ c.names_of.ensures.is c.take_parts-parts.ensures.rest))) c.add.ensures

use Rattle.std.proofs.Common.{map, refl, ap, ◌∷◌, ◌∙◌}
use Rattle.std.proofs.lemmas.Result.{on_ok_weaker}
use Rattle.jd_grammar.specs.Counted.{shown}
use Rattle.jd_java_tokens.specs.Lexemes.{lexeme_view}
use Rattle.jd_java_attributes.specs.declared.heading.Told.TheVariants as tells
use Rattle.jd_java_attributes.proofs.Views.{drop_as, heading_of_parts}
use Rattle.jd_java_attributes.proofs.nodes.HeadingNodesNodesLexemeTold.reduce.Goals as goal

pub returns : goal.returns
returns c =
    let stack = shown tells.Nothing c.args.piles.now in
    let is = heading_of_parts c.args.production (map lexeme_view c.args.tokens.now) stack c.names_of.result c.row-row.result _ c.take_parts-parts.result c.in_ok-told.told refl c.row-row.ensures c.names_of.ensures.is c.take_parts-parts.ensures.parts c.in_ok-told.ensures in
    on_ok_weaker c.add_told.result (λ e. (c.in_ok-told.told, is, e ∙ ap (λ us. c.in_ok-told.told ∷ us) (drop_as c.args.production stack c.names_of.result _ c.names_of.ensures.is c.take_parts-parts.ensures.rest))) c.add_told.ensures

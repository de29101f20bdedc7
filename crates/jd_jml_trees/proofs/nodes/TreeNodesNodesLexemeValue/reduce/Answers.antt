use Rattle.std.proofs.Common.{map, ap, ◌∷◌, ◌∙◌}
use Rattle.std.proofs.lemmas.Result.{on_ok_weaker}
use Rattle.jd_grammar.specs.Counted.{shown}
use Rattle.jd_jml_tokens.specs.Lexemes.{lexeme_view}
use Rattle.jd_jml_values.specs.declared.values.Value.TheVariants.{NoSuffixes}
use Rattle.jd_jml_trees.proofs.Standing.{drop_as, made_of}
use Rattle.jd_jml_trees.proofs.nodes.TreeNodesNodesLexemeValue.reduce.Goals as goal

pub returns : goal.returns
returns c =
    let stack = shown NoSuffixes c.args.piles.now in
    let is = made_of c.args.production (map lexeme_view c.args.tokens.now) stack c.names_of.result c.action_at.result c.nothing.result c.take_parts-parts.result c.in_ok-value.value c.action_at.ensures c.nothing.ensures c.names_of.ensures.is c.take_parts-parts.ensures.parts c.in_ok-value.ensures in
    on_ok_weaker c.add.result (λ e. (c.in_ok-value.value, is, e ∙ ap (λ us. c.in_ok-value.value ∷ us) (drop_as c.args.production stack c.names_of.result _ c.names_of.ensures.is c.take_parts-parts.ensures.rest))) c.add.ensures

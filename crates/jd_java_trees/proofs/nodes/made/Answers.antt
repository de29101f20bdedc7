use Rattle.std.proofs.Common.{map}
use Rattle.jd_grammar.specs.Counted.{shown}
use Rattle.jd_java_tokens.specs.Lexemes.{lexeme_view}
use Rattle.jd_java_values.specs.declared.values.Value.TheVariants.{NoSuffixes}
use Rattle.jd_java_trees.proofs.Standing.{made_of}
use Rattle.jd_java_trees.proofs.nodes.made.Goals as goal

pub returns-clause-value : goal.returns-clause-value
returns-clause-value c =
    made_of c.args.production (map lexeme_view c.args.tokens.now) (shown NoSuffixes c.args.piles.now) _ _ c.nothing.result c.take_parts-parts.result c.act.result c.action_at.ensures c.nothing.ensures c.names_of.ensures.is c.take_parts-parts.ensures.parts c.act.ensures

-- Nodes of expressions declare nothing; that of a name is what its token gives.
use Rattle.std.proofs.Common.{List}
use Rattle.jd_grammar.specs.declared.piles.NodeParts.{NodeParts}
use Rattle.jd_java_tokens.specs.Contents.{PlainLexeme}
use Rattle.jd_syntax.specs.JavaTrees.{JavaExpr}
use Rattle.jd_java_values.specs.Values as values
use Rattle.jd_java_values.specs.Values.{PlainValue}
use Rattle.jd_java_values.specs.Parts.{expression_of}
use Rattle.jd_java_expressions.specs.declared.action.Action.{Action}
use Rattle.jd_java_expressions.specs.declared.action.Action.TheVariants as actions
use Rattle.jd_java_expressions.specs.Meaning.{int_cast, meaning, parenthesis}
use Rattle.jd_variable_words.proofs.Good.{Good, GoodParts}

parenthesis_part : (e : JavaExpr) (v : PlainValue) → Good (parenthesis e v)
parenthesis_part e (values.Expression operand) = tt
parenthesis_part e v = tt

cast_part : (ts : List PlainLexeme) (v : PlainValue) → Good (int_cast ts v)
cast_part ts (values.ArrayOperand e) = tt
cast_part ts v = tt

pub acts : (a : Action) (ts : List PlainLexeme) (parts : NodeParts PlainValue) → GoodParts parts → Good (meaning a ts parts)
acts actions.First ts parts g = g.first
acts actions.Parenthesis ts parts g = parenthesis_part (expression_of parts.first) parts.second
acts actions.IntCast ts parts g = cast_part ts parts.first
acts a ts parts g = tt

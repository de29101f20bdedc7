-- What a node of an expression stands for, by its action, its tokens from the first on, and what its parts stand for.
use Rattle.std.specs.Prelude.{ℕ, List, [], ◌∷◌, ◌++◌}
use Rattle.jd_grammar.specs.declared.piles.NodeParts.{NodeParts}
use Rattle.jd_jml_tokens.specs.Lexemes.{PlainLexeme, place_of, number_of}
use Rattle.jd_syntax.specs.JavaTypes.{PlainIdentifier, PlainWritten, IntType, BooleanType, IntArrayType, NamedType}
use Rattle.jd_syntax.specs.SpecTrees as jml
use Rattle.jd_syntax.specs.SpecTrees.{PlainSpec}
use Rattle.jd_jml_values.specs.Values.{PlainSuffix, Infix, InstanceOf, Choice, Implies, Equivalent, Element, Inside, Cast, PlainValue, Nothing, Expression, Suffixes, Started, ArrayOperand, Expressions, Named, Typed, Dimension, BigInteger}
use Rattle.jd_jml_values.specs.Heads.{identifier_at, type_at, int_type}
use Rattle.jd_jml_values.specs.Parts.{expression_of, some_expression, suffixes_of, expressions_of, arguments_of, name_of, type_of, bound_type_of, is_dimension}
use Rattle.jd_jml_expressions.specs.declared.action.Action.{Action}
use Rattle.jd_jml_expressions.specs.declared.action.Action.TheVariants as actions
use Rattle.jd_jml_expressions.specs.Applying.{all_applied, named, joined, begun, class_type, quantified, sum}

-- ---- by what a part is

-- what begins with the `(` at that place
abbrev pub begun_at : ℕ → PlainValue → PlainSpec
begun_at at (Started s ss) = all_applied (begun at s) ss
begun_at at _ = jml.Null at

-- behind `(`: a class, where an operand stands behind `)`, else an expression
abbrev pub parenthesis : PlainSpec → PlainValue → PlainValue
parenthesis e (Expression operand) = Started (Cast (class_type e) operand) []
parenthesis e behind = Started (Inside e) (suffixes_of behind)

-- behind `(` and `int`
abbrev pub int_cast : List PlainLexeme → PlainValue → PlainValue
int_cast ts (ArrayOperand e) = Started (Cast (type_at ts IntArrayType) e) []
int_cast ts operand = Started (Cast (type_at ts IntType) (expression_of operand)) []

-- what begins so, with more behind it
abbrev pub followed : PlainValue → List PlainSuffix → PlainValue
followed (Started s ss) more = Started s (ss ++ more)
followed _ more = Nothing

-- a class as a type
abbrev pub class_of : PlainIdentifier → PlainWritten
class_of x = record { at = x.at; written = NamedType x.name }

-- ---- actions

abbrev pub meaning : Action → List PlainLexeme → NodeParts PlainValue → PlainValue
meaning actions.Nothing ts parts = Nothing
meaning actions.First ts parts = parts.first
meaning actions.Identifier ts parts = Named (identifier_at ts)
meaning actions.Dimension ts parts = Dimension
meaning actions.BigInteger ts parts = BigInteger
meaning actions.IntType ts parts = Typed (type_at ts (int_type (is_dimension parts.first)))
meaning actions.BooleanType ts parts = Typed (type_at ts BooleanType)
meaning actions.ArrayType ts parts = Typed (type_at ts IntArrayType)
meaning actions.ClassType ts parts = Typed (class_of (name_of parts.first))
meaning actions.Number ts parts = Expression (jml.Integer (place_of 0 ts) (number_of ts))
meaning (actions.Boolean b) ts parts = Expression (jml.Boolean (place_of 0 ts) b)
meaning actions.Null ts parts = Expression (jml.Null (place_of 0 ts))
meaning actions.This ts parts = Expression (jml.This (place_of 0 ts))
meaning actions.Result ts parts = Expression (jml.Result (place_of 0 ts))
meaning actions.Old ts parts = Expression (jml.Old (place_of 0 ts) (expression_of parts.first))
meaning actions.Fresh ts parts = Expression (jml.Fresh (place_of 0 ts) (expression_of parts.first))
meaning actions.InvariantFor ts parts = Expression (jml.InvariantFor (place_of 0 ts) (expression_of parts.first))
meaning actions.Operand ts parts = Expression (all_applied (expression_of parts.first) (suffixes_of parts.second))
meaning actions.Name ts parts = Expression (all_applied (named (name_of parts.first) (arguments_of parts.second)) (suffixes_of parts.third))
meaning actions.Begun ts parts = Expression (begun_at (place_of 0 ts) parts.first)
meaning (actions.Prefix op) ts parts = Expression (jml.Prefix (place_of 0 ts) op (expression_of parts.first))
meaning actions.NoSuffixes ts parts = Suffixes []
meaning (actions.Infix op) ts parts = Suffixes (Infix op (expression_of parts.first) ∷ suffixes_of parts.second)
meaning actions.InstanceOf ts parts = Suffixes (InstanceOf (type_of parts.first) ∷ suffixes_of parts.second)
meaning actions.Choice ts parts = Suffixes (Choice (expression_of parts.first) (expression_of parts.second) ∷ [])
meaning actions.Implies ts parts = Suffixes (Implies (expression_of parts.first) ∷ [])
meaning actions.Equivalent ts parts = Suffixes (Equivalent (expression_of parts.first) ∷ suffixes_of parts.second)
meaning actions.Member ts parts = Suffixes (joined (name_of parts.first) (arguments_of parts.second) ∷ suffixes_of parts.third)
meaning actions.Element ts parts = Suffixes (Element (expression_of parts.first) ∷ suffixes_of parts.second)
meaning actions.Parenthesis ts parts = parenthesis (expression_of parts.first) parts.second
meaning actions.IntCast ts parts = int_cast ts parts.first
meaning actions.BooleanCast ts parts = Started (Cast (type_at ts BooleanType) (expression_of parts.first)) []
meaning actions.ArrayOperand ts parts = ArrayOperand (expression_of parts.first)
meaning actions.Followed ts parts = followed parts.first (suffixes_of parts.second)
meaning (actions.Quantified q) ts parts =
    Started (quantified q (bound_type_of parts.first) (name_of parts.second) (expression_of parts.third) (some_expression parts.fourth)) []
meaning actions.Sum ts parts = Started (sum (name_of parts.first) (expression_of parts.second) (expression_of parts.third)) []
meaning actions.NoExpressions ts parts = Expressions []
meaning actions.Expressions ts parts = Expressions (expression_of parts.first ∷ expressions_of parts.second)

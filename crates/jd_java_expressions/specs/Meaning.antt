-- What a node of an expression stands for, by its action, its tokens from the first on, and what its parts stand for.
use Rattle.std.specs.Prelude.{ℕ, List, [], ◌∷◌, ◌++◌}
use Rattle.jd_grammar.specs.declared.piles.NodeParts.{NodeParts}
use Rattle.jd_java_tokens.specs.Contents.{PlainLexeme}
use Rattle.jd_java_tokens.specs.Heads.{place_of, text_of, number_of}
use Rattle.jd_syntax.specs.JavaTypes.{IntType, BooleanType, IntArrayType, NamedType}
use Rattle.jd_syntax.specs.JavaTrees as java
use Rattle.jd_syntax.specs.JavaTrees.{JavaExpr}
use Rattle.jd_java_values.specs.Values.{PlainSuffix, Infix, InstanceOf, Assign, Choice, Element, Count, PlainStart, Inside, Cast, Object, Array, PlainValue, Nothing, Expression, Suffixes, Started, ArrayOperand, Expressions, BehindName, Named, Typed, Dimension}
use Rattle.jd_java_values.specs.Heads.{identifier_at, type_at, int_type}
use Rattle.jd_java_values.specs.Parts.{expression_of, suffixes_of, expressions_of, arguments_of, name_of, type_of, is_dimension}
use Rattle.jd_java_expressions.specs.declared.action.Action.{Action}
use Rattle.jd_java_expressions.specs.declared.action.Action.TheVariants as actions
use Rattle.jd_java_expressions.specs.Applying.{all_applied, named, joined, begun, class_type}

-- ---- what stands behind an operand, of the parts in order

abbrev pub behind_two : NodeParts PlainValue → List PlainSuffix
behind_two parts = suffixes_of parts.third ++ suffixes_of parts.fourth

abbrev pub behind_one : NodeParts PlainValue → List PlainSuffix
behind_one parts = suffixes_of parts.second ++ behind_two parts

abbrev pub all_suffixes : NodeParts PlainValue → List PlainSuffix
all_suffixes parts = suffixes_of parts.first ++ behind_one parts

-- ---- by what a part is

-- what begins at that place
abbrev pub begun_at : ℕ → PlainValue → JavaExpr
begun_at at (Started s ss) = all_applied (begun at s) ss
begun_at at _ = java.Null at

-- a name with what makes it a statement
abbrev pub effect_of_name : ℕ → List ℕ → PlainValue → JavaExpr
effect_of_name at w (BehindName args ss es) = all_applied (named at w args) ss
effect_of_name at w _ = java.Name at w

-- behind `(`: a class, where an operand stands behind `)`, else an expression
abbrev pub parenthesis : JavaExpr → PlainValue → PlainValue
parenthesis e (Expression operand) = Started (Cast (class_type e) operand) []
parenthesis e behind = Started (Inside e) (suffixes_of behind)

-- behind `(` and `int`
abbrev pub int_cast : List PlainLexeme → PlainValue → PlainValue
int_cast ts (ArrayOperand e) = Started (Cast (type_at ts IntArrayType) e) []
int_cast ts operand = Started (Cast (type_at ts IntType) (expression_of operand)) []

-- ---- actions

abbrev pub meaning : Action → List PlainLexeme → NodeParts PlainValue → PlainValue
meaning actions.Nothing ts parts = Nothing
meaning actions.First ts parts = parts.first
meaning actions.Identifier ts parts = Named (identifier_at ts)
meaning actions.Dimension ts parts = Dimension
meaning actions.IntType ts parts = Typed (type_at ts (int_type (is_dimension parts.first)))
meaning actions.BooleanType ts parts = Typed (type_at ts BooleanType)
meaning actions.ArrayType ts parts = Typed (type_at ts IntArrayType)
meaning actions.ClassType ts parts = Typed (type_at ts (NamedType (text_of ts)))
meaning actions.Number ts parts = Expression (java.Integer (place_of 0 ts) (number_of ts))
meaning (actions.Boolean b) ts parts = Expression (java.Boolean (place_of 0 ts) b)
meaning actions.Null ts parts = Expression (java.Null (place_of 0 ts))
meaning actions.Operand ts parts = Expression (all_applied (expression_of parts.first) (behind_one parts))
meaning actions.Name ts parts = Expression (all_applied (named (place_of 0 ts) (text_of ts) (arguments_of parts.first)) (behind_one parts))
meaning actions.This ts parts = Expression (all_applied (java.This (place_of 0 ts)) (all_suffixes parts))
meaning actions.Inside ts parts = Expression (all_applied (java.Parenthesized (place_of 0 ts) (expression_of parts.first)) (behind_one parts))
meaning actions.Begun ts parts = Expression (begun_at (place_of 0 ts) parts.first)
meaning actions.NameEffect ts parts = Expression (effect_of_name (place_of 0 ts) (text_of ts) parts.first)
meaning (actions.Prefix op) ts parts = Expression (java.Prefix (place_of 0 ts) op (expression_of parts.first))
meaning actions.Suffixes ts parts = Suffixes (all_suffixes parts)
meaning (actions.Infix op) ts parts = Suffixes (Infix op (expression_of parts.first) ∷ behind_one parts)
meaning actions.InstanceOf ts parts = Suffixes (InstanceOf (type_of parts.first) ∷ behind_one parts)
meaning (actions.Assign op) ts parts = Suffixes (Assign op (expression_of parts.first) ∷ [])
meaning actions.Choice ts parts = Suffixes (Choice (expression_of parts.first) (expression_of parts.second) ∷ [])
meaning actions.Member ts parts = Suffixes (joined (name_of parts.first) (arguments_of parts.second) ∷ behind_two parts)
meaning actions.Element ts parts = Suffixes (Element (expression_of parts.first) ∷ behind_one parts)
meaning (actions.Count op) ts parts = Suffixes (Count op ∷ [])
meaning actions.Parenthesis ts parts = parenthesis (expression_of parts.first) parts.second
meaning actions.IntCast ts parts = int_cast ts parts.first
meaning actions.BooleanCast ts parts = Started (Cast (type_at ts BooleanType) (expression_of parts.first)) []
meaning actions.ArrayOperand ts parts = ArrayOperand (expression_of parts.first)
meaning actions.Object ts parts = Started (Object (name_of parts.first) (expressions_of parts.second)) (behind_two parts)
meaning actions.Array ts parts = Started (Array (expression_of parts.first)) (behind_one parts)
meaning actions.BehindName ts parts = BehindName (arguments_of parts.first) (behind_one parts) []
meaning actions.NoExpressions ts parts = Expressions []
meaning actions.Expressions ts parts = Expressions (expression_of parts.first ∷ expressions_of parts.second)

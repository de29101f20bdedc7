-- The sizes of the values of a derivation's nodes: no more than those of their parts, and two for each token that adds something.
use Rattle.std.proofs.Common.{◌≡◌, ℕ, zero, suc, ◌+◌, ◌*◌, ◌≤◌, List, [], ◌∷◌, ◌++◌, length, drop, nat_le, Bool, true, ◌&&◌, Option, Some, None, refl, sym, ap, subst, ◌∙◌, arith, slice_index_or}
use Rattle.std.specs.List.{slice_get}
use Rattle.std.proofs.lemmas.List.{length-append}
use Rattle.jd_grammar.specs.Folds.{values}
use Rattle.jd_grammar.specs.Grammars.{Forest, Done, Leaf, Node, IsForest, Production, yield}
use Rattle.jd_grammar.specs.Nodes.{all_of, filled}
use Rattle.jd_grammar.specs.declared.piles.NodeParts.{NodeParts}
use Rattle.jd_grammar.specs.declared.table.Symbol.{Symbol}
use Rattle.jd_grammar.specs.declared.table.Symbol.TheVariants.{Token, Name}
use Rattle.jd_java_tokens.specs.Contents.{PlainLexeme}
use Rattle.jd_java_tokens.specs.Heads.{place_of}
use Rattle.jd_syntax.specs.JavaTypes.{PlainIdentifier}
use Rattle.jd_syntax.specs.SpecTrees.{PlainSpecBlock}
use Rattle.jd_syntax.specs.JavaTrees.{JavaExpr, JavaMember, FieldMember, ConstantMember, MethodMember, JavaClass, JavaResult}
use Rattle.jd_java_grammar.specs.Productions.{java_productions}
use Rattle.jd_java_attributes.specs.Laws.{token_count}
use Rattle.jd_java_attributes.specs.Rules.{row_of}
use Rattle.jd_java_values.specs.Values.{PlainDeclared, FieldNames, Routine, Constant, PlainValue, Nothing, Expression, Suffixes, Started, ArrayOperand, Expressions, BehindName, Named, Typed, Dimension, Statement, Statements, Variables, LoopStart, Handlers, Rescue, Modifiers, Number, Names, Parameters, Declared, Declarator, Declaration, Body, Classes}
use Rattle.jd_java_values.specs.Parts.{expression_of, expressions_of, static_of, blocks_of, names_of, declared_of, members_of, end_of, classes_of}
use Rattle.jd_java_expressions.specs.Meaning.{parenthesis, int_cast}
use Rattle.jd_java_expressions.specs.Meaning as expressions
use Rattle.jd_java_expressions.specs.declared.action.Action.{Action as ExpressionAction}
use Rattle.jd_java_expressions.specs.declared.action.Action.TheVariants as expression
use Rattle.jd_java_statements.specs.Meaning.{with_effects}
use Rattle.jd_java_statements.specs.Meaning as statements
use Rattle.jd_java_statements.specs.declared.action.Action.{Action as StatementAction}
use Rattle.jd_java_statements.specs.declared.action.Action.TheVariants as statement
use Rattle.jd_java_members.specs.Meaning.{annotated, annotated_body, member_of, member_at, int_declaration, named_declaration}
use Rattle.jd_java_members.specs.Meaning as members
use Rattle.jd_java_members.specs.declared.action.Action.TheVariants as member
use Rattle.jd_java_trees.specs.Meaning.{action_of, meaning_by, value_of_node, first_value, unit_of}
use Rattle.jd_java_trees.specs.declared.actions.Action.{Action}
use Rattle.jd_java_trees.specs.declared.actions.Action.TheVariants as actions
use Rattle.jd_jsizes.specs.Sizes.{member_size, members_size, class_size, classes_size, unit_size}

-- ---- the size of a value

abbrev pub declared_size : PlainDeclared → ℕ
declared_size (FieldNames xs) = length xs
declared_size (Routine ps ss) = 0
declared_size (Constant n) = 0

abbrev pub size : PlainValue → ℕ
size Nothing = 0
size (Expression a) = 0
size (Suffixes a) = 0
size (Started a b) = 0
size (ArrayOperand a) = 0
size (Expressions a) = 0
size (BehindName a b c) = 0
size (Named a) = 0
size (Typed a) = 0
size Dimension = 0
size (Statement a) = 0
size (Statements a) = 0
size (Variables a) = 0
size (LoopStart a) = 0
size (Handlers a) = 0
size (Rescue a b) = 0
size (Modifiers a b) = 0
size (Number a) = 0
size (Names a) = length a
size (Parameters a) = 0
size (Declared a) = declared_size a
size (Declarator a b c) = declared_size c
size (Declaration a b c) = suc (suc (declared_size c))
size (Body a b) = members_size a
size (Classes a) = classes_size a

abbrev pub sizes : List PlainValue → ℕ
sizes [] = 0
sizes (v ∷ vs) = size v + sizes vs

abbrev pub parts_size : NodeParts PlainValue → ℕ
parts_size parts = size parts.first + (size parts.second + (size parts.third + size parts.fourth))

pub filled_size : (vs : List PlainValue) → parts_size (filled (all_of Nothing) vs) ≤ sizes vs
filled_size [] = omega arith
filled_size (a ∷ []) = omega arith
filled_size (a ∷ b ∷ []) = omega arith
filled_size (a ∷ b ∷ c ∷ []) = omega arith
filled_size (a ∷ b ∷ c ∷ d ∷ more) = omega arith

-- ---- what a part is has no more than its size

few_names : (v : PlainValue) → length (names_of v) ≤ size v
few_names Nothing = omega arith
few_names (Expression a) = omega arith
few_names (Suffixes a) = omega arith
few_names (Started a b) = omega arith
few_names (ArrayOperand a) = omega arith
few_names (Expressions a) = omega arith
few_names (BehindName a b c) = omega arith
few_names (Named a) = omega arith
few_names (Typed a) = omega arith
few_names Dimension = omega arith
few_names (Statement a) = omega arith
few_names (Statements a) = omega arith
few_names (Variables a) = omega arith
few_names (LoopStart a) = omega arith
few_names (Handlers a) = omega arith
few_names (Rescue a b) = omega arith
few_names (Modifiers a b) = omega arith
few_names (Number a) = omega arith
few_names (Names a) = omega arith
few_names (Parameters a) = omega arith
few_names (Declared a) = omega arith
few_names (Declarator a b c) = omega arith
few_names (Declaration a b c) = omega arith
few_names (Body a b) = omega arith
few_names (Classes a) = omega arith

few_declared : (v : PlainValue) → declared_size (declared_of v) ≤ size v
few_declared Nothing = omega arith
few_declared (Expression a) = omega arith
few_declared (Suffixes a) = omega arith
few_declared (Started a b) = omega arith
few_declared (ArrayOperand a) = omega arith
few_declared (Expressions a) = omega arith
few_declared (BehindName a b c) = omega arith
few_declared (Named a) = omega arith
few_declared (Typed a) = omega arith
few_declared Dimension = omega arith
few_declared (Statement a) = omega arith
few_declared (Statements a) = omega arith
few_declared (Variables a) = omega arith
few_declared (LoopStart a) = omega arith
few_declared (Handlers a) = omega arith
few_declared (Rescue a b) = omega arith
few_declared (Modifiers a b) = omega arith
few_declared (Number a) = omega arith
few_declared (Names a) = omega arith
few_declared (Parameters a) = omega arith
few_declared (Declared a) = omega arith
few_declared (Declarator a b c) = omega arith
few_declared (Declaration a b c) = omega arith
few_declared (Body a b) = omega arith
few_declared (Classes a) = omega arith

few_members : (v : PlainValue) → members_size (members_of v) ≤ size v
few_members Nothing = omega arith
few_members (Expression a) = omega arith
few_members (Suffixes a) = omega arith
few_members (Started a b) = omega arith
few_members (ArrayOperand a) = omega arith
few_members (Expressions a) = omega arith
few_members (BehindName a b c) = omega arith
few_members (Named a) = omega arith
few_members (Typed a) = omega arith
few_members Dimension = omega arith
few_members (Statement a) = omega arith
few_members (Statements a) = omega arith
few_members (Variables a) = omega arith
few_members (LoopStart a) = omega arith
few_members (Handlers a) = omega arith
few_members (Rescue a b) = omega arith
few_members (Modifiers a b) = omega arith
few_members (Number a) = omega arith
few_members (Names a) = omega arith
few_members (Parameters a) = omega arith
few_members (Declared a) = omega arith
few_members (Declarator a b c) = omega arith
few_members (Declaration a b c) = omega arith
few_members (Body a b) = omega arith
few_members (Classes a) = omega arith

pub few_classes : (v : PlainValue) → classes_size (classes_of v) ≤ size v
few_classes Nothing = omega arith
few_classes (Expression a) = omega arith
few_classes (Suffixes a) = omega arith
few_classes (Started a b) = omega arith
few_classes (ArrayOperand a) = omega arith
few_classes (Expressions a) = omega arith
few_classes (BehindName a b c) = omega arith
few_classes (Named a) = omega arith
few_classes (Typed a) = omega arith
few_classes Dimension = omega arith
few_classes (Statement a) = omega arith
few_classes (Statements a) = omega arith
few_classes (Variables a) = omega arith
few_classes (LoopStart a) = omega arith
few_classes (Handlers a) = omega arith
few_classes (Rescue a b) = omega arith
few_classes (Modifiers a b) = omega arith
few_classes (Number a) = omega arith
few_classes (Names a) = omega arith
few_classes (Parameters a) = omega arith
few_classes (Declared a) = omega arith
few_classes (Declarator a b c) = omega arith
few_classes (Declaration a b c) = omega arith
few_classes (Body a b) = omega arith
few_classes (Classes a) = omega arith

-- ---- what is made by what a part is

cast_size : (ts : List PlainLexeme) (v : PlainValue) → size (int_cast ts v) ≤ 0
cast_size ts Nothing = omega arith
cast_size ts (Expression a) = omega arith
cast_size ts (Suffixes a) = omega arith
cast_size ts (Started a b) = omega arith
cast_size ts (ArrayOperand a) = omega arith
cast_size ts (Expressions a) = omega arith
cast_size ts (BehindName a b c) = omega arith
cast_size ts (Named a) = omega arith
cast_size ts (Typed a) = omega arith
cast_size ts Dimension = omega arith
cast_size ts (Statement a) = omega arith
cast_size ts (Statements a) = omega arith
cast_size ts (Variables a) = omega arith
cast_size ts (LoopStart a) = omega arith
cast_size ts (Handlers a) = omega arith
cast_size ts (Rescue a b) = omega arith
cast_size ts (Modifiers a b) = omega arith
cast_size ts (Number a) = omega arith
cast_size ts (Names a) = omega arith
cast_size ts (Parameters a) = omega arith
cast_size ts (Declared a) = omega arith
cast_size ts (Declarator a b c) = omega arith
cast_size ts (Declaration a b c) = omega arith
cast_size ts (Body a b) = omega arith
cast_size ts (Classes a) = omega arith

parenthesis_size : (e : JavaExpr) (v : PlainValue) → size (parenthesis e v) ≤ 0
parenthesis_size e Nothing = omega arith
parenthesis_size e (Expression a) = omega arith
parenthesis_size e (Suffixes a) = omega arith
parenthesis_size e (Started a b) = omega arith
parenthesis_size e (ArrayOperand a) = omega arith
parenthesis_size e (Expressions a) = omega arith
parenthesis_size e (BehindName a b c) = omega arith
parenthesis_size e (Named a) = omega arith
parenthesis_size e (Typed a) = omega arith
parenthesis_size e Dimension = omega arith
parenthesis_size e (Statement a) = omega arith
parenthesis_size e (Statements a) = omega arith
parenthesis_size e (Variables a) = omega arith
parenthesis_size e (LoopStart a) = omega arith
parenthesis_size e (Handlers a) = omega arith
parenthesis_size e (Rescue a b) = omega arith
parenthesis_size e (Modifiers a b) = omega arith
parenthesis_size e (Number a) = omega arith
parenthesis_size e (Names a) = omega arith
parenthesis_size e (Parameters a) = omega arith
parenthesis_size e (Declared a) = omega arith
parenthesis_size e (Declarator a b c) = omega arith
parenthesis_size e (Declaration a b c) = omega arith
parenthesis_size e (Body a b) = omega arith
parenthesis_size e (Classes a) = omega arith

effects_size : (v : PlainValue) (es : List JavaExpr) → size (with_effects v es) ≤ 0
effects_size Nothing es = omega arith
effects_size (Expression a) es = omega arith
effects_size (Suffixes a) es = omega arith
effects_size (Started a b) es = omega arith
effects_size (ArrayOperand a) es = omega arith
effects_size (Expressions a) es = omega arith
effects_size (BehindName a b c) es = omega arith
effects_size (Named a) es = omega arith
effects_size (Typed a) es = omega arith
effects_size Dimension es = omega arith
effects_size (Statement a) es = omega arith
effects_size (Statements a) es = omega arith
effects_size (Variables a) es = omega arith
effects_size (LoopStart a) es = omega arith
effects_size (Handlers a) es = omega arith
effects_size (Rescue a b) es = omega arith
effects_size (Modifiers a b) es = omega arith
effects_size (Number a) es = omega arith
effects_size (Names a) es = omega arith
effects_size (Parameters a) es = omega arith
effects_size (Declared a) es = omega arith
effects_size (Declarator a b c) es = omega arith
effects_size (Declaration a b c) es = omega arith
effects_size (Body a b) es = omega arith
effects_size (Classes a) es = omega arith

int_size : (ts : List PlainLexeme) (v : PlainValue) → size (int_declaration ts v) ≤ 2 + size v
int_size ts Nothing = omega arith
int_size ts (Expression a) = omega arith
int_size ts (Suffixes a) = omega arith
int_size ts (Started a b) = omega arith
int_size ts (ArrayOperand a) = omega arith
int_size ts (Expressions a) = omega arith
int_size ts (BehindName a b c) = omega arith
int_size ts (Named a) = omega arith
int_size ts (Typed a) = omega arith
int_size ts Dimension = omega arith
int_size ts (Statement a) = omega arith
int_size ts (Statements a) = omega arith
int_size ts (Variables a) = omega arith
int_size ts (LoopStart a) = omega arith
int_size ts (Handlers a) = omega arith
int_size ts (Rescue a b) = omega arith
int_size ts (Modifiers a b) = omega arith
int_size ts (Number a) = omega arith
int_size ts (Names a) = omega arith
int_size ts (Parameters a) = omega arith
int_size ts (Declared a) = omega arith
int_size ts (Declarator a b c) = omega arith
int_size ts (Declaration a b c) = omega arith
int_size ts (Body a b) = omega arith
int_size ts (Classes a) = omega arith

named_size : (ts : List PlainLexeme) (v : PlainValue) → size (named_declaration ts v) ≤ 2 + size v
named_size ts Nothing = omega arith
named_size ts (Expression a) = omega arith
named_size ts (Suffixes a) = omega arith
named_size ts (Started a b) = omega arith
named_size ts (ArrayOperand a) = omega arith
named_size ts (Expressions a) = omega arith
named_size ts (BehindName a b c) = omega arith
named_size ts (Named a) = omega arith
named_size ts (Typed a) = omega arith
named_size ts Dimension = omega arith
named_size ts (Statement a) = omega arith
named_size ts (Statements a) = omega arith
named_size ts (Variables a) = omega arith
named_size ts (LoopStart a) = omega arith
named_size ts (Handlers a) = omega arith
named_size ts (Rescue a b) = omega arith
named_size ts (Modifiers a b) = omega arith
named_size ts (Number a) = omega arith
named_size ts (Names a) = omega arith
named_size ts (Parameters a) = omega arith
named_size ts (Declared a) = omega arith
named_size ts (Declarator a b c) = omega arith
named_size ts (Declaration a b c) = omega arith
named_size ts (Body a b) = omega arith
named_size ts (Classes a) = omega arith

of_declared : (at : ℕ) (static : Bool) (blocks : List PlainSpecBlock) (result : JavaResult) (x : PlainIdentifier) (d : PlainDeclared) → member_size (member_of at static blocks result x d) ≤ suc (suc (declared_size d))
of_declared at static blocks result x (FieldNames xs) = omega arith
of_declared at static blocks result x (Routine ps ss) = omega arith
of_declared at static blocks result x (Constant n) = omega arith

member_at_size : (at : ℕ) (static : Bool) (blocks : List PlainSpecBlock) (v : PlainValue) → size (member_at at static blocks v) ≤ size v
member_at_size at static blocks Nothing = omega arith
member_at_size at static blocks (Expression a) = omega arith
member_at_size at static blocks (Suffixes a) = omega arith
member_at_size at static blocks (Started a b) = omega arith
member_at_size at static blocks (ArrayOperand a) = omega arith
member_at_size at static blocks (Expressions a) = omega arith
member_at_size at static blocks (BehindName a b c) = omega arith
member_at_size at static blocks (Named a) = omega arith
member_at_size at static blocks (Typed a) = omega arith
member_at_size at static blocks Dimension = omega arith
member_at_size at static blocks (Statement a) = omega arith
member_at_size at static blocks (Statements a) = omega arith
member_at_size at static blocks (Variables a) = omega arith
member_at_size at static blocks (LoopStart a) = omega arith
member_at_size at static blocks (Handlers a) = omega arith
member_at_size at static blocks (Rescue a b) = omega arith
member_at_size at static blocks (Modifiers a b) = omega arith
member_at_size at static blocks (Number a) = omega arith
member_at_size at static blocks (Names a) = omega arith
member_at_size at static blocks (Parameters a) = omega arith
member_at_size at static blocks (Declared a) = omega arith
member_at_size at static blocks (Declarator a b c) = omega arith
member_at_size at static blocks (Declaration a b c) = omega (arith, of_declared at static blocks a b c)
member_at_size at static blocks (Body a b) = omega arith
member_at_size at static blocks (Classes a) = omega arith

annotated_size : (ts : List PlainLexeme) (m : JavaMember) → member_size (annotated ts m) ≡ member_size m
annotated_size ts (FieldMember f) = refl
annotated_size ts (ConstantMember c) = refl
annotated_size ts (MethodMember m) = refl

body_size : (ts : List PlainLexeme) (ms : List JavaMember) (end : Option PlainSpecBlock) → size (annotated_body ts ms end) ≤ members_size ms
body_size ts [] end = omega arith
body_size ts (m ∷ ms) end = omega (arith, annotated_size ts m)

members_size-append : (xs ys : List JavaMember) → members_size (xs ++ ys) ≡ members_size xs + members_size ys
members_size-append [] ys = omega arith
members_size-append (x ∷ xs) ys = omega (arith, members_size-append xs ys)

classes_size-append : (xs ys : List JavaClass) → classes_size (xs ++ ys) ≡ classes_size xs + classes_size ys
classes_size-append [] ys = omega arith
classes_size-append (x ∷ xs) ys = omega (arith, classes_size-append xs ys)

-- ---- actions

-- how many tokens an action is worth
abbrev pub worth : Action → ℕ
worth (actions.Expression a) = 0
worth (actions.Statement a) = 0
worth (actions.Member member.Third) = 0
worth (actions.Member member.Classes) = 0
worth (actions.Member member.NoClasses) = 0
worth (actions.Member member.Class) = 1
worth (actions.Member member.Modifiers) = 0
worth (actions.Member member.NoModifiers) = 0
worth (actions.Member member.Static) = 0
worth (actions.Member member.Specs) = 0
worth (actions.Member member.Members) = 0
worth (actions.Member member.NoMembers) = 0
worth (actions.Member member.SpecsBefore) = 0
worth (actions.Member member.Member) = 0
worth (actions.Member member.VoidDeclaration) = 1
worth (actions.Member member.BooleanDeclaration) = 1
worth (actions.Member member.IntDeclaration) = 1
worth (actions.Member member.NamedDeclaration) = 1
worth (actions.Member member.Declarator) = 0
worth (actions.Member member.ArrayDeclarator) = 0
worth (actions.Member member.Routine) = 0
worth (actions.Member member.Constant) = 0
worth (actions.Member member.NegatedConstant) = 0
worth (actions.Member member.Number) = 0
worth (actions.Member member.FieldNames) = 0
worth (actions.Member member.Names) = 1
worth (actions.Member member.NoNames) = 0
worth (actions.Member member.Parameters) = 0
worth (actions.Member member.NoParameters) = 0
worth (actions.Member member.Parameter) = 0

expression_size : (a : ExpressionAction) (ts : List PlainLexeme) (parts : NodeParts PlainValue) → size (expressions.meaning a ts parts) ≤ parts_size parts
expression_size expression.Nothing ts parts = omega arith
expression_size expression.First ts parts = omega arith
expression_size expression.Identifier ts parts = omega arith
expression_size expression.Dimension ts parts = omega arith
expression_size expression.IntType ts parts = omega arith
expression_size expression.BooleanType ts parts = omega arith
expression_size expression.ArrayType ts parts = omega arith
expression_size expression.ClassType ts parts = omega arith
expression_size expression.Number ts parts = omega arith
expression_size (expression.Boolean b) ts parts = omega arith
expression_size expression.Null ts parts = omega arith
expression_size expression.Operand ts parts = omega arith
expression_size expression.Name ts parts = omega arith
expression_size expression.This ts parts = omega arith
expression_size expression.Inside ts parts = omega arith
expression_size expression.Begun ts parts = omega arith
expression_size expression.NameEffect ts parts = omega arith
expression_size (expression.Prefix o) ts parts = omega arith
expression_size expression.Suffixes ts parts = omega arith
expression_size (expression.Infix o) ts parts = omega arith
expression_size expression.InstanceOf ts parts = omega arith
expression_size (expression.Assign o) ts parts = omega arith
expression_size expression.Choice ts parts = omega arith
expression_size expression.Member ts parts = omega arith
expression_size expression.Element ts parts = omega arith
expression_size (expression.Count o) ts parts = omega arith
expression_size expression.Parenthesis ts parts = omega (arith, parenthesis_size (expression_of parts.first) parts.second)
expression_size expression.IntCast ts parts = omega (arith, cast_size ts parts.first)
expression_size expression.BooleanCast ts parts = omega arith
expression_size expression.ArrayOperand ts parts = omega arith
expression_size expression.Object ts parts = omega arith
expression_size expression.Array ts parts = omega arith
expression_size expression.BehindName ts parts = omega arith
expression_size expression.NoExpressions ts parts = omega arith
expression_size expression.Expressions ts parts = omega arith

statement_size : (a : StatementAction) (ts : List PlainLexeme) (parts : NodeParts PlainValue) → size (statements.meaning a ts parts) ≤ parts_size parts
statement_size statement.Block ts parts = omega arith
statement_size statement.Empty ts parts = omega arith
statement_size statement.Evaluate ts parts = omega arith
statement_size statement.If ts parts = omega arith
statement_size statement.While ts parts = omega arith
statement_size statement.For ts parts = omega arith
statement_size statement.Label ts parts = omega arith
statement_size statement.Annotated ts parts = omega arith
statement_size statement.Break ts parts = omega arith
statement_size statement.Continue ts parts = omega arith
statement_size statement.Return ts parts = omega arith
statement_size statement.Throw ts parts = omega arith
statement_size statement.Try ts parts = omega arith
statement_size statement.Named ts parts = omega arith
statement_size statement.FinalLocal ts parts = omega arith
statement_size statement.IntLocal ts parts = omega arith
statement_size statement.BooleanLocal ts parts = omega arith
statement_size statement.Variables ts parts = omega arith
statement_size statement.NoVariables ts parts = omega arith
statement_size statement.IntStart ts parts = omega arith
statement_size statement.BooleanStart ts parts = omega arith
statement_size statement.NamedStart ts parts = omega arith
statement_size statement.NameEffects ts parts = omega (arith, effects_size parts.first (expressions_of parts.second))
statement_size statement.Rescue ts parts = omega arith
statement_size statement.Finally ts parts = omega arith
statement_size statement.Handlers ts parts = omega arith
statement_size statement.NoHandlers ts parts = omega arith
statement_size statement.Catch ts parts = omega arith
statement_size statement.Statements ts parts = omega arith
statement_size statement.NoStatements ts parts = omega arith
statement_size statement.Super ts parts = omega arith

pub node_size : (a : Action) (ts : List PlainLexeme) (parts : NodeParts PlainValue) → size (meaning_by a ts parts) ≤ 2 * worth a + parts_size parts
node_size (actions.Expression a) ts parts = omega (arith, expression_size a ts parts)
node_size (actions.Statement a) ts parts = omega (arith, statement_size a ts parts)
node_size (actions.Member member.Third) ts parts = omega arith
node_size (actions.Member member.Classes) ts parts = omega (arith, few_classes parts.first, few_classes parts.second, classes_size-append (classes_of parts.first) (classes_of parts.second))
node_size (actions.Member member.NoClasses) ts parts = omega arith
node_size (actions.Member member.Class) ts parts = omega (arith, few_members parts.fourth)
node_size (actions.Member member.Modifiers) ts parts = omega arith
node_size (actions.Member member.NoModifiers) ts parts = omega arith
node_size (actions.Member member.Static) ts parts = omega arith
node_size (actions.Member member.Specs) ts parts = omega arith
node_size (actions.Member member.Members) ts parts = omega (arith, few_members parts.first, few_members parts.second, members_size-append (members_of parts.first) (members_of parts.second))
node_size (actions.Member member.NoMembers) ts parts = omega arith
node_size (actions.Member member.SpecsBefore) ts parts = omega (arith, few_members parts.first, body_size ts (members_of parts.first) (end_of parts.first))
node_size (actions.Member member.Member) ts parts = omega (arith, member_at_size (place_of 0 ts) (static_of parts.first) (blocks_of parts.first) parts.second)
node_size (actions.Member member.VoidDeclaration) ts parts = omega (arith, few_declared parts.second)
node_size (actions.Member member.BooleanDeclaration) ts parts = omega (arith, few_declared parts.second)
node_size (actions.Member member.IntDeclaration) ts parts = omega (arith, int_size ts parts.first)
node_size (actions.Member member.NamedDeclaration) ts parts = omega (arith, named_size ts parts.first)
node_size (actions.Member member.Declarator) ts parts = omega (arith, few_declared parts.second)
node_size (actions.Member member.ArrayDeclarator) ts parts = omega (arith, few_declared parts.second)
node_size (actions.Member member.Routine) ts parts = omega arith
node_size (actions.Member member.Constant) ts parts = omega arith
node_size (actions.Member member.NegatedConstant) ts parts = omega arith
node_size (actions.Member member.Number) ts parts = omega arith
node_size (actions.Member member.FieldNames) ts parts = omega (arith, few_names parts.first)
node_size (actions.Member member.Names) ts parts = omega (arith, few_names parts.second)
node_size (actions.Member member.NoNames) ts parts = omega arith
node_size (actions.Member member.Parameters) ts parts = omega arith
node_size (actions.Member member.NoParameters) ts parts = omega arith
node_size (actions.Member member.Parameter) ts parts = omega arith

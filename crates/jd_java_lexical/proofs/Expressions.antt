-- Nodes of expressions have good values where their parts have.
use Rattle.std.proofs.Common.{◌≢◌, ◌≤◌, ℕ, true, false, List, [], ◌∷◌, codes, Option, Some, None, arith}
use Rattle.std.specs.List.{AllByRecursion as Every}
use Rattle.jd_grammar.specs.declared.piles.NodeParts.{NodeParts}
use Rattle.jd_java_tokens.specs.Contents.{PlainLexeme}
use Rattle.jd_java_tokens.specs.Heads.{number_of, place_of, text_of}
use Rattle.jd_syntax.specs.JavaTypes.{PlainIdentifier}
use Rattle.jd_syntax.specs.JavaTrees as java
use Rattle.jd_syntax.specs.JavaTrees.{JavaExpr}
use Rattle.jd_syntax.specs.declared.java.PrefixOperator.{PrefixOperator}
use Rattle.jd_syntax.specs.declared.java.PrefixOperator.TheVariants as prefixes
use Rattle.jd_java_values.specs.Values as values
use Rattle.jd_java_values.specs.Values.{PlainStart, PlainSuffix, PlainValue}
use Rattle.jd_java_values.specs.Parts.{arguments_of, expression_of, expressions_of, name_of, suffixes_of}
use Rattle.jd_java_expressions.specs.declared.action.Action.{Action}
use Rattle.jd_java_expressions.specs.declared.action.Action.TheVariants as actions
use Rattle.jd_java_expressions.specs.Applying.{all_applied, applied, begun, joined, named}
use Rattle.jd_java_expressions.specs.Meaning.{all_suffixes, begun_at, behind_one, behind_two, effect_of_name, int_cast, meaning, parenthesis}
use Rattle.jd_java_names.proofs.Every.{every_append}
use Rattle.jd_resolved_bodies.specs.Lexical.{EachLexical, IsLexical, IsName, is_minus}
use Rattle.jd_java_lexical.proofs.Good.{Good, GoodParts, GoodStart, GoodSuffix, GoodSuffixes, MaybeEach, exprs_lexical}
use Rattle.jd_java_lexical.proofs.Tokens.{TokenSo, text_named, text_unmarked}

-- what is good where it stands alone is so behind a minus
pub behind_minus : (e : JavaExpr) → IsLexical false e → IsLexical true e
behind_minus (java.Integer at n) h = omega (arith, h)
behind_minus (java.Boolean at b) h = h
behind_minus (java.Null at) h = h
behind_minus (java.This at) h = h
behind_minus (java.Name at x) h = h
behind_minus (java.Field at e x) h = h
behind_minus (java.Parenthesized at e) h = h
behind_minus (java.Call at m es) h = h
behind_minus (java.MethodCall at e m es) h = h
behind_minus (java.New at c es) h = h
behind_minus (java.NewArray at e) h = h
behind_minus (java.Index at a i) h = h
behind_minus (java.Prefix at o e) h = h
behind_minus (java.Postfix at c e) h = h
behind_minus (java.Cast at w e) h = h
behind_minus (java.Infix at o a b) h = h
behind_minus (java.InstanceOf at e w) h = h
behind_minus (java.Conditional at c a b) h = h
behind_minus (java.Assign at o e v) h = h

prefix_good : (o : PrefixOperator) (e : JavaExpr) → IsLexical false e → IsLexical (is_minus o) e
prefix_good prefixes.Plus e h = h
prefix_good prefixes.Minus e h = behind_minus e h
prefix_good prefixes.Not e h = h
prefix_good (prefixes.Count c) e h = h

-- ---- operands with what stands behind them

one_applied : (e : JavaExpr) (s : PlainSuffix) → IsLexical false e → GoodSuffix s → IsLexical false (applied e s)
one_applied e (values.Infix o r) h g = (h, g)
one_applied e (values.InstanceOf t) h g = h
one_applied e (values.Assign o r) h g = (h, g)
one_applied e (values.Choice a b) h g = (h, g.0, g.1)
one_applied e (values.Member x) h g = h
one_applied e (values.Method x es) h g = (h, exprs_lexical es g)
one_applied e (values.Element i) h g = (h, g)
one_applied e (values.Count o) h g = h

pub applied_good : (e : JavaExpr) (ss : List PlainSuffix) → IsLexical false e → GoodSuffixes ss → IsLexical false (all_applied e ss)
applied_good e [] h g = h
applied_good e (s ∷ ss) h g = applied_good (applied e s) ss (one_applied e s h g.0) g.1

pub named_good : (at : ℕ) (w : List ℕ) (args : Option (List JavaExpr)) → IsName w → MaybeEach args → IsLexical false (named at w args)
named_good at w None h g = h
named_good at w (Some es) h g = exprs_lexical es g

joined_good : (x : PlainIdentifier) (args : Option (List JavaExpr)) → MaybeEach args → GoodSuffix (joined x args)
joined_good x None g = tt
joined_good x (Some es) g = g

begun_good : (at : ℕ) (s : PlainStart) → GoodStart s → IsLexical false (begun at s)
begun_good at (values.Inside e) h = h
begun_good at (values.Cast t e) h = h
begun_good at (values.Object x es) h = exprs_lexical es h
begun_good at (values.Array e) h = h

-- ---- parts

pub expression_part : (v : PlainValue) → Good v → IsLexical false (expression_of v)
expression_part (values.Expression e) h = h
expression_part v h = tt

pub suffixes_part : (v : PlainValue) → Good v → GoodSuffixes (suffixes_of v)
suffixes_part (values.Suffixes ss) h = h
suffixes_part v h = tt

pub expressions_part : (v : PlainValue) → Good v → EachLexical (expressions_of v)
expressions_part (values.Expressions es) h = h
expressions_part v h = tt

arguments_part : (v : PlainValue) → Good v → MaybeEach (arguments_of v)
arguments_part (values.Expressions es) h = h
arguments_part v h = tt

begun_part : (at : ℕ) (v : PlainValue) → Good v → IsLexical false (begun_at at v)
begun_part at (values.Started s ss) h = applied_good (begun at s) ss (begun_good at s h.0) h.1
begun_part at v h = tt

pub effect_part : (at : ℕ) (w : List ℕ) (v : PlainValue) → IsName w → Good v → IsLexical false (effect_of_name at w v)
effect_part at w (values.BehindName args ss es) is h = applied_good (named at w args) ss (named_good at w args is h.0) h.1
effect_part at w v is h = is

parenthesis_part : (e : JavaExpr) (v : PlainValue) → IsLexical false e → Good v → Good (parenthesis e v)
parenthesis_part e (values.Expression operand) h g = (g, tt)
parenthesis_part e v h g = (h, suffixes_part v g)

int_part : (ts : List PlainLexeme) (v : PlainValue) → Good v → Good (int_cast ts v)
int_part ts (values.ArrayOperand e) h = (h, tt)
int_part ts v h = (expression_part v h, tt)

two_good : (parts : NodeParts PlainValue) → GoodParts parts → GoodSuffixes (behind_two parts)
two_good parts g = every_append GoodSuffix (suffixes_of parts.third) (suffixes_of parts.fourth) (suffixes_part parts.third g.third) (suffixes_part parts.fourth g.fourth)

one_good : (parts : NodeParts PlainValue) → GoodParts parts → GoodSuffixes (behind_one parts)
one_good parts g = every_append GoodSuffix (suffixes_of parts.second) (behind_two parts) (suffixes_part parts.second g.second) (two_good parts g)

all_good : (parts : NodeParts PlainValue) → GoodParts parts → GoodSuffixes (all_suffixes parts)
all_good parts g = every_append GoodSuffix (suffixes_of parts.first) (behind_one parts) (suffixes_part parts.first g.first) (one_good parts g)

-- ---- actions

-- what an action asks of the first token beside
abbrev pub Needs : Action → List PlainLexeme → Type 0
Needs actions.Identifier ts = text_of ts ≢ codes "this"
Needs actions.Number ts = number_of ts ≤ 2147483647
Needs _ ts = Unit {0}

pub acts : (a : Action) (ts : List PlainLexeme) (parts : NodeParts PlainValue) → Every TokenSo ts → GoodParts parts → Needs a ts → Good (meaning a ts parts)
acts actions.Nothing ts parts so g n = tt
acts actions.First ts parts so g n = g.first
acts actions.Identifier ts parts so g n = (text_named ts so, record { bytes = text_unmarked ts so; no_this = n })
acts actions.Dimension ts parts so g n = tt
acts actions.IntType ts parts so g n = tt
acts actions.BooleanType ts parts so g n = tt
acts actions.ArrayType ts parts so g n = tt
acts actions.ClassType ts parts so g n = tt
acts actions.Number ts parts so g n = n
acts (actions.Boolean b) ts parts so g n = tt
acts actions.Null ts parts so g n = tt
acts actions.Operand ts parts so g n = applied_good (expression_of parts.first) (behind_one parts) (expression_part parts.first g.first) (one_good parts g)
acts actions.Name ts parts so g n =
    applied_good (named (place_of 0 ts) (text_of ts) (arguments_of parts.first)) (behind_one parts) (named_good (place_of 0 ts) (text_of ts) (arguments_of parts.first) (text_named ts so) (arguments_part parts.first g.first)) (one_good parts g)
acts actions.This ts parts so g n = applied_good (java.This (place_of 0 ts)) (all_suffixes parts) tt (all_good parts g)
acts actions.Inside ts parts so g n = applied_good (java.Parenthesized (place_of 0 ts) (expression_of parts.first)) (behind_one parts) (expression_part parts.first g.first) (one_good parts g)
acts actions.Begun ts parts so g n = begun_part (place_of 0 ts) parts.first g.first
acts actions.NameEffect ts parts so g n = effect_part (place_of 0 ts) (text_of ts) parts.first (text_named ts so) g.first
acts (actions.Prefix op) ts parts so g n = prefix_good op (expression_of parts.first) (expression_part parts.first g.first)
acts actions.Suffixes ts parts so g n = all_good parts g
acts (actions.Infix op) ts parts so g n = (expression_part parts.first g.first, one_good parts g)
acts actions.InstanceOf ts parts so g n = (tt, one_good parts g)
acts (actions.Assign op) ts parts so g n = (expression_part parts.first g.first, tt)
acts actions.Choice ts parts so g n = ((expression_part parts.first g.first, expression_part parts.second g.second), tt)
acts actions.Member ts parts so g n = (joined_good (name_of parts.first) (arguments_of parts.second) (arguments_part parts.second g.second), two_good parts g)
acts actions.Element ts parts so g n = (expression_part parts.first g.first, one_good parts g)
acts (actions.Count op) ts parts so g n = (tt, tt)
acts actions.Parenthesis ts parts so g n = parenthesis_part (expression_of parts.first) parts.second (expression_part parts.first g.first) g.second
acts actions.IntCast ts parts so g n = int_part ts parts.first g.first
acts actions.BooleanCast ts parts so g n = (expression_part parts.first g.first, tt)
acts actions.ArrayOperand ts parts so g n = expression_part parts.first g.first
acts actions.Object ts parts so g n = (expressions_part parts.second g.second, two_good parts g)
acts actions.Array ts parts so g n = (expression_part parts.first g.first, one_good parts g)
acts actions.BehindName ts parts so g n = (arguments_part parts.first g.first, one_good parts g, tt)
acts actions.NoExpressions ts parts so g n = tt
acts actions.Expressions ts parts so g n = (expression_part parts.first g.first, expressions_part parts.second g.second)

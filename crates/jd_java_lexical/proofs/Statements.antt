-- Nodes of statements have good values where their parts have.
use Rattle.std.proofs.Common.{ℕ, false, List, [], Option, Some, None, refl}
use Rattle.std.specs.List.{AllByRecursion as Every}
use Rattle.jd_grammar.specs.declared.piles.NodeParts.{NodeParts}
use Rattle.jd_java_tokens.specs.Contents.{PlainLexeme}
use Rattle.jd_java_tokens.specs.Heads.{place_of, text_of}
use Rattle.jd_syntax.specs.SpecTrees.{PlainSpecBlock}
use Rattle.jd_syntax.specs.JavaTrees as java
use Rattle.jd_syntax.specs.JavaTrees.{JavaExpr, JavaHandler, JavaStmt}
use Rattle.jd_java_values.specs.Values as values
use Rattle.jd_java_values.specs.Values.{PlainValue}
use Rattle.jd_java_values.specs.Parts.{expression_of, expressions_of, handlers_of, name_of, some_expression, some_statement, some_statements, start_of, statement_of, statements_of, variables_of}
use Rattle.jd_java_statements.specs.declared.action.Action.{Action}
use Rattle.jd_java_statements.specs.declared.action.Action.TheVariants as actions
use Rattle.jd_java_statements.specs.Meaning.{annotated, further, if_statement, meaning, named_start, named_statement, rescued, try_statement, variables, with_effects}
use Rattle.jd_resolved_bodies.specs.Lexical.{AreDeclarators, EachLexical, IsLexical, IsLexicalStmt, IsName, IsStart, MaybeLexical}
use Rattle.jd_java_lexical.proofs.Expressions.{effect_part, expression_part, expressions_part}
use Rattle.jd_java_lexical.proofs.Good.{EachHandler, EachStmt, Good, GoodParts, MaybeStmts, handlers_lexical, more_handlers, stmts_lexical}
use Rattle.jd_java_lexical.proofs.Tokens.{TokenSo, text_named}

-- ---- parts

pub name_part : (v : PlainValue) → Good v → IsName (name_of v).name
name_part (values.Named x) h = h.0
name_part v h = refl

some_part : (v : PlainValue) → Good v → MaybeLexical (some_expression v)
some_part (values.Expression e) h = h
some_part v h = tt

statement_part : (v : PlainValue) → Good v → IsLexicalStmt (statement_of v)
statement_part (values.Statement s) h = h
statement_part v h = tt

abbrev MaybeStmt : Option JavaStmt → Type 0
MaybeStmt None = Unit {0}
MaybeStmt (Some s) = IsLexicalStmt s

some_statement_part : (v : PlainValue) → Good v → MaybeStmt (some_statement v)
some_statement_part (values.Statement s) h = h
some_statement_part v h = tt

pub statements_part : (v : PlainValue) → Good v → EachStmt (statements_of v)
statements_part (values.Statements ss) h = h
statements_part v h = tt

some_statements_part : (v : PlainValue) → Good v → MaybeStmts (some_statements v)
some_statements_part (values.Statements ss) h = h
some_statements_part v h = tt

variables_part : (v : PlainValue) → Good v → AreDeclarators (variables_of v)
variables_part (values.Variables ds) h = h
variables_part v h = tt

start_part : (v : PlainValue) → Good v → IsStart (start_of v)
start_part (values.LoopStart s) h = h
start_part (values.Expressions es) h = h
start_part v h = tt

handlers_part : (v : PlainValue) → Good v → EachHandler (handlers_of v)
handlers_part (values.Handlers hs) h = h
handlers_part v h = tt

declared_part : (name value more : PlainValue) → Good name → Good value → Good more → AreDeclarators (variables name value more)
declared_part name value more h g f = (name_part name h, some_part value g, variables_part more f)

if_part : (at : ℕ) (c : JavaExpr) (s : JavaStmt) (t : Option JavaStmt) → IsLexical false c → IsLexicalStmt s → MaybeStmt t → IsLexicalStmt (if_statement at c s t)
if_part at c s None h g f = (h, g)
if_part at c s (Some t) h g f = (h, g, f)

annotated_part : (b : PlainSpecBlock) (s : JavaStmt) → IsLexicalStmt s → IsLexicalStmt (annotated b s)
annotated_part b (java.While at j c s) h = h
annotated_part b (java.For at j start c update s) h = h
annotated_part b (java.Label at j l s) h = h
annotated_part b s h = h

try_part : (at : ℕ) (ss : List JavaStmt) (hs : List JavaHandler) (last : Option (List JavaStmt)) → EachStmt ss → EachHandler hs → MaybeStmts last → IsLexicalStmt (try_statement at ss hs last)
try_part at ss hs None h g f = (stmts_lexical ss h, handlers_lexical hs g)
try_part at ss hs (Some ts) h g f = (stmts_lexical ss h, handlers_lexical hs g, stmts_lexical ts f)

rescued_part : (at : ℕ) (ss : List JavaStmt) (v : PlainValue) → EachStmt ss → Good v → IsLexicalStmt (rescued at ss v)
rescued_part at ss (values.Rescue hs last) h g = try_part at ss hs last h g.0 g.1
rescued_part at ss v h g = try_part at ss [] None h tt tt

named_part : (at : ℕ) (w : List ℕ) (v : PlainValue) → IsName w → Good v → IsLexicalStmt (named_statement at w v)
named_part at w (values.Statement s) is h = h
named_part at w (values.Variables ds) is h = h
named_part at w v is h = effect_part at w v is h

further_part : (v : PlainValue) → Good v → EachLexical (further v)
further_part (values.BehindName args ss es) h = h.2
further_part v h = tt

named_start_part : (at : ℕ) (w : List ℕ) (v : PlainValue) → IsName w → Good v → IsStart (named_start at w v)
named_start_part at w (values.Variables ds) is h = h
named_start_part at w v is h = (effect_part at w v is h, further_part v h)

effects_part : (v : PlainValue) (es : List JavaExpr) → Good v → EachLexical es → Good (with_effects v es)
effects_part (values.BehindName args ss before) es h g = (h.0, h.1, g)
effects_part v es h g = (tt, tt, g)

-- ---- actions

pub acts : (a : Action) (ts : List PlainLexeme) (parts : NodeParts PlainValue) → Every TokenSo ts → GoodParts parts → Good (meaning a ts parts)
acts actions.Block ts parts so g = stmts_lexical (statements_of parts.first) (statements_part parts.first g.first)
acts actions.Empty ts parts so g = tt
acts actions.Evaluate ts parts so g = expression_part parts.first g.first
acts actions.If ts parts so g =
    if_part (place_of 0 ts) (expression_of parts.first) (statement_of parts.second) (some_statement parts.third) (expression_part parts.first g.first) (statement_part parts.second g.second) (some_statement_part parts.third g.third)
acts actions.While ts parts so g = (expression_part parts.first g.first, statement_part parts.second g.second)
acts actions.For ts parts so g = (start_part parts.first g.first, some_part parts.second g.second, expressions_part parts.third g.third, statement_part parts.fourth g.fourth)
acts actions.Label ts parts so g = statement_part parts.first g.first
acts actions.Annotated ts parts so g = annotated_part _ (statement_of parts.first) (statement_part parts.first g.first)
acts actions.Break ts parts so g = tt
acts actions.Continue ts parts so g = tt
acts actions.Return ts parts so g = some_part parts.first g.first
acts actions.Throw ts parts so g = expression_part parts.first g.first
acts actions.Try ts parts so g = rescued_part (place_of 0 ts) (statements_of parts.first) parts.second (statements_part parts.first g.first) g.second
acts actions.Named ts parts so g = named_part (place_of 0 ts) (text_of ts) parts.first (text_named ts so) g.first
acts actions.FinalLocal ts parts so g = declared_part parts.second parts.third parts.fourth g.second g.third g.fourth
acts actions.IntLocal ts parts so g = declared_part parts.second parts.third parts.fourth g.second g.third g.fourth
acts actions.BooleanLocal ts parts so g = declared_part parts.first parts.second parts.third g.first g.second g.third
acts actions.Variables ts parts so g = declared_part parts.first parts.second parts.third g.first g.second g.third
acts actions.NoVariables ts parts so g = tt
acts actions.IntStart ts parts so g = declared_part parts.second parts.third parts.fourth g.second g.third g.fourth
acts actions.BooleanStart ts parts so g = declared_part parts.first parts.second parts.third g.first g.second g.third
acts actions.NamedStart ts parts so g = named_start_part (place_of 0 ts) (text_of ts) parts.first (text_named ts so) g.first
acts actions.NameEffects ts parts so g = effects_part parts.first (expressions_of parts.second) g.first (expressions_part parts.second g.second)
acts actions.Rescue ts parts so g =
    (more_handlers (handlers_of parts.first) (handlers_of parts.second) (handlers_part parts.first g.first) (handlers_part parts.second g.second), some_statements_part parts.third g.third)
acts actions.Finally ts parts so g = (tt, some_statements_part parts.first g.first)
acts actions.Handlers ts parts so g = more_handlers (handlers_of parts.first) (handlers_of parts.second) (handlers_part parts.first g.first) (handlers_part parts.second g.second)
acts actions.NoHandlers ts parts so g = tt
acts actions.Catch ts parts so g = ((name_part parts.third g.third, stmts_lexical (statements_of parts.fourth) (statements_part parts.fourth g.fourth)), tt)
acts actions.Statements ts parts so g = (statement_part parts.first g.first, statements_part parts.second g.second)
acts actions.NoStatements ts parts so g = tt
acts actions.Super ts parts so g = (expressions_part parts.first g.first, statements_part parts.second g.second)

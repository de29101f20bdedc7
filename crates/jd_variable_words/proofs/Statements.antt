-- Nodes of statements have good values where their parts have, and where the names of variables are words.
use Rattle.std.proofs.Common.{ℕ, List, [], Option, Some, None}
use Rattle.jd_grammar.specs.declared.piles.NodeParts.{NodeParts}
use Rattle.jd_java_tokens.specs.Contents.{PlainLexeme}
use Rattle.jd_java_tokens.specs.Heads.{place_of, text_of}
use Rattle.jd_syntax.specs.SpecTrees.{PlainSpecBlock}
use Rattle.jd_syntax.specs.JavaTrees as java
use Rattle.jd_syntax.specs.JavaTrees.{JavaExpr, JavaHandler, JavaStmt}
use Rattle.jd_java_values.specs.Values as values
use Rattle.jd_java_values.specs.Values.{PlainValue}
use Rattle.jd_java_values.specs.Parts.{expression_of, expressions_of, handlers_of, name_of, some_statement, some_statements, start_of, statement_of, statements_of, variables_of}
use Rattle.jd_java_statements.specs.declared.action.Action.{Action}
use Rattle.jd_java_statements.specs.declared.action.Action.TheVariants as actions
use Rattle.jd_java_statements.specs.Meaning.{annotated, if_statement, meaning, named_start, named_statement, rescued, try_statement, variables, with_effects}
use Rattle.jd_variable_words.specs.Words.{DeclaratorsHaveWords, HasWords, IsWord, StartHasWords}
use Rattle.jd_variable_words.proofs.Good.{EachHandler, EachStmt, Good, GoodParts, MaybeStmts, handlers_good, more_handlers, stmts_good}

-- ---- parts

abbrev pub Called : PlainValue → Type 0
Called v = IsWord (name_of v).name

statement_part : (v : PlainValue) → Good v → HasWords (statement_of v)
statement_part (values.Statement s) h = h
statement_part v h = tt

abbrev MaybeStmt : Option JavaStmt → Type 0
MaybeStmt None = Unit {0}
MaybeStmt (Some s) = HasWords s

some_statement_part : (v : PlainValue) → Good v → MaybeStmt (some_statement v)
some_statement_part (values.Statement s) h = h
some_statement_part v h = tt

pub statements_part : (v : PlainValue) → Good v → EachStmt (statements_of v)
statements_part (values.Statements ss) h = h
statements_part v h = tt

some_statements_part : (v : PlainValue) → Good v → MaybeStmts (some_statements v)
some_statements_part (values.Statements ss) h = h
some_statements_part v h = tt

variables_part : (v : PlainValue) → Good v → DeclaratorsHaveWords (variables_of v)
variables_part (values.Variables ds) h = h
variables_part v h = tt

start_part : (v : PlainValue) → Good v → StartHasWords (start_of v)
start_part (values.LoopStart s) h = h
start_part v h = tt

handlers_part : (v : PlainValue) → Good v → EachHandler (handlers_of v)
handlers_part (values.Handlers hs) h = h
handlers_part v h = tt

declared_part : (name value more : PlainValue) → Called name → Good more → DeclaratorsHaveWords (variables name value more)
declared_part name value more h f = (h, variables_part more f)

if_part : (at : ℕ) (c : JavaExpr) (s : JavaStmt) (t : Option JavaStmt) → HasWords s → MaybeStmt t → HasWords (if_statement at c s t)
if_part at c s None g f = g
if_part at c s (Some t) g f = (g, f)

annotated_part : (b : PlainSpecBlock) (s : JavaStmt) → HasWords s → HasWords (annotated b s)
annotated_part b (java.While at j c s) h = h
annotated_part b (java.For at j start c update s) h = h
annotated_part b (java.Label at j l s) h = h
annotated_part b s h = h

try_part : (at : ℕ) (ss : List JavaStmt) (hs : List JavaHandler) (last : Option (List JavaStmt)) → EachStmt ss → EachHandler hs → MaybeStmts last → HasWords (try_statement at ss hs last)
try_part at ss hs None h g f = (stmts_good ss h, handlers_good hs g)
try_part at ss hs (Some ts) h g f = (stmts_good ss h, handlers_good hs g, stmts_good ts f)

rescued_part : (at : ℕ) (ss : List JavaStmt) (v : PlainValue) → EachStmt ss → Good v → HasWords (rescued at ss v)
rescued_part at ss (values.Rescue hs last) h g = try_part at ss hs last h g.0 g.1
rescued_part at ss v h g = try_part at ss [] None h tt tt

named_part : (at : ℕ) (w : List ℕ) (v : PlainValue) → Good v → HasWords (named_statement at w v)
named_part at w (values.Statement s) h = h
named_part at w (values.Variables ds) h = h
named_part at w v h = tt

named_start_part : (at : ℕ) (w : List ℕ) (v : PlainValue) → Good v → StartHasWords (named_start at w v)
named_start_part at w (values.Variables ds) h = h
named_start_part at w v h = tt

effects_part : (v : PlainValue) (es : List JavaExpr) → Good (with_effects v es)
effects_part (values.BehindName args ss before) es = tt
effects_part v es = tt

-- ---- actions

-- which part of it is the name of a variable
abbrev pub Needs : Action → NodeParts PlainValue → Type 0
Needs actions.FinalLocal parts = Called parts.second
Needs actions.IntLocal parts = Called parts.second
Needs actions.BooleanLocal parts = Called parts.first
Needs actions.Variables parts = Called parts.first
Needs actions.IntStart parts = Called parts.second
Needs actions.BooleanStart parts = Called parts.first
Needs actions.Catch parts = Called parts.third
Needs a parts = Unit {0}

pub acts : (a : Action) (ts : List PlainLexeme) (parts : NodeParts PlainValue) → GoodParts parts → Needs a parts → Good (meaning a ts parts)
acts actions.Block ts parts g n = stmts_good (statements_of parts.first) (statements_part parts.first g.first)
acts actions.Empty ts parts g n = tt
acts actions.Evaluate ts parts g n = tt
acts actions.If ts parts g n =
    if_part (place_of 0 ts) (expression_of parts.first) (statement_of parts.second) (some_statement parts.third) (statement_part parts.second g.second) (some_statement_part parts.third g.third)
acts actions.While ts parts g n = statement_part parts.second g.second
acts actions.For ts parts g n = (start_part parts.first g.first, statement_part parts.fourth g.fourth)
acts actions.Label ts parts g n = statement_part parts.first g.first
acts actions.Annotated ts parts g n = annotated_part _ (statement_of parts.first) (statement_part parts.first g.first)
acts actions.Break ts parts g n = tt
acts actions.Continue ts parts g n = tt
acts actions.Return ts parts g n = tt
acts actions.Throw ts parts g n = tt
acts actions.Try ts parts g n = rescued_part (place_of 0 ts) (statements_of parts.first) parts.second (statements_part parts.first g.first) g.second
acts actions.Named ts parts g n = named_part (place_of 0 ts) (text_of ts) parts.first g.first
acts actions.FinalLocal ts parts g n = declared_part parts.second parts.third parts.fourth n g.fourth
acts actions.IntLocal ts parts g n = declared_part parts.second parts.third parts.fourth n g.fourth
acts actions.BooleanLocal ts parts g n = declared_part parts.first parts.second parts.third n g.third
acts actions.Variables ts parts g n = declared_part parts.first parts.second parts.third n g.third
acts actions.NoVariables ts parts g n = tt
acts actions.IntStart ts parts g n = declared_part parts.second parts.third parts.fourth n g.fourth
acts actions.BooleanStart ts parts g n = declared_part parts.first parts.second parts.third n g.third
acts actions.NamedStart ts parts g n = named_start_part (place_of 0 ts) (text_of ts) parts.first g.first
acts actions.NameEffects ts parts g n = effects_part parts.first (expressions_of parts.second)
acts actions.Rescue ts parts g n =
    (more_handlers (handlers_of parts.first) (handlers_of parts.second) (handlers_part parts.first g.first) (handlers_part parts.second g.second), some_statements_part parts.third g.third)
acts actions.Finally ts parts g n = (tt, some_statements_part parts.first g.first)
acts actions.Handlers ts parts g n = more_handlers (handlers_of parts.first) (handlers_of parts.second) (handlers_part parts.first g.first) (handlers_part parts.second g.second)
acts actions.NoHandlers ts parts g n = tt
acts actions.Catch ts parts g n = ((n, stmts_good (statements_of parts.fourth) (statements_part parts.fourth g.fourth)), tt)
acts actions.Statements ts parts g n = (statement_part parts.first g.first, statements_part parts.second g.second)
acts actions.NoStatements ts parts g n = tt
acts actions.Super ts parts g n = (tt, statements_part parts.second g.second)

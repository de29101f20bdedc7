-- What a node of a statement stands for, by its action, its tokens from the first on, and what its parts stand for.
use Rattle.std.specs.Prelude.{ℕ, List, [], ◌∷◌, ◌++◌, Option, Some, None}
use Rattle.jd_grammar.specs.declared.piles.NodeParts.{NodeParts}
use Rattle.jd_java_tokens.specs.Contents.{PlainLexeme}
use Rattle.jd_java_tokens.specs.Heads.{place_of, text_of, run_of}
use Rattle.jd_syntax.specs.JavaTypes.{PlainIdentifier, BooleanType, NamedType}
use Rattle.jd_syntax.specs.SpecTrees.{PlainSpecBlock}
use Rattle.jd_syntax.specs.declared.spec.SpecPlace.TheVariants as places
use Rattle.jd_syntax.specs.JavaTrees as java
use Rattle.jd_syntax.specs.JavaTrees.{JavaExpr, JavaDeclarator, JavaForStart, JavaStmt, java_stmts, JavaHandler, java_handlers}
use Rattle.jd_java_values.specs.Values.{PlainValue, Expressions, BehindName, Statement, Statements, Variables, LoopStart, Handlers, Rescue}
use Rattle.jd_java_values.specs.Parts.{expression_of, some_expression, expressions_of, name_of, some_name, type_of, is_dimension, statement_of, some_statement, statements_of, some_statements, variables_of, start_of, handlers_of}
use Rattle.jd_java_expressions.specs.Applying.{at_of}
use Rattle.jd_java_values.specs.Heads.{type_at, int_type}
use Rattle.jd_java_expressions.specs.Meaning.{effect_of_name}
use Rattle.jd_java_statements.specs.declared.action.Action.{Action}
use Rattle.jd_java_statements.specs.declared.action.Action.TheVariants as actions

-- ---- variables

-- a variable with its first value, if it has one
abbrev pub variable : PlainIdentifier → Option JavaExpr → JavaDeclarator
variable x value = record { name = x; value = value }

-- one and others
abbrev pub variables : PlainValue → PlainValue → PlainValue → List JavaDeclarator
variables name value more = variable (name_of name) (some_expression value) ∷ variables_of more

-- ---- JML before a loop or its label; its clauses are read later

abbrev pub loop_block : List PlainLexeme → PlainSpecBlock
loop_block ts = record { place = places.Loop; from = (run_of ts).0; to = (run_of ts).1; clauses = [] }

abbrev pub annotated : PlainSpecBlock → JavaStmt → JavaStmt
annotated b (java.While at before c s) = java.While at (Some b) c s
annotated b (java.For at before start c update s) = java.For at (Some b) start c update s
annotated b (java.Label at before l s) = java.Label at (Some b) l s
annotated b s = s

-- ---- by what a part is

abbrev pub if_statement : ℕ → JavaExpr → JavaStmt → Option JavaStmt → JavaStmt
if_statement at c s None = java.If at c s
if_statement at c s (Some t) = java.IfElse at c s t

abbrev pub try_statement : ℕ → List JavaStmt → List JavaHandler → Option (List JavaStmt) → JavaStmt
try_statement at ss hs None = java.Try at (java_stmts ss) (java_handlers hs)
try_statement at ss hs (Some ts) = java.TryFinally at (java_stmts ss) (java_handlers hs) (java_stmts ts)

abbrev pub rescued : ℕ → List JavaStmt → PlainValue → JavaStmt
rescued at ss (Rescue hs finally) = try_statement at ss hs finally
rescued at ss _ = try_statement at ss [] None

-- a statement that begins with this name: labelled, of variables of this class, or an expression
abbrev pub named_statement : ℕ → List ℕ → PlainValue → JavaStmt
named_statement at w (Statement s) = java.Label at None w s
named_statement at w (Variables ds) = java.Local at (record { at = at; written = NamedType w }) ds
named_statement at w behind = java.Evaluate at (effect_of_name at w behind)

-- what is evaluated behind that
abbrev pub further : PlainValue → List JavaExpr
further (BehindName args ss es) = es
further _ = []

abbrev pub named_start : ℕ → List ℕ → PlainValue → JavaForStart
named_start at w (Variables ds) = java.Declared (record { at = at; written = NamedType w }) ds
named_start at w behind = java.Evaluated (effect_of_name at w behind ∷ further behind)

abbrev pub with_effects : PlainValue → List JavaExpr → PlainValue
with_effects (BehindName args ss before) es = BehindName args ss es
with_effects _ es = BehindName None [] es

-- ---- actions

abbrev pub meaning : Action → List PlainLexeme → NodeParts PlainValue → PlainValue
meaning actions.Block ts parts = Statement (java.Block (place_of 0 ts) (java_stmts (statements_of parts.first)))
meaning actions.Empty ts parts = Statement (java.Empty (place_of 0 ts))
meaning actions.Evaluate ts parts = Statement (java.Evaluate (at_of (expression_of parts.first)) (expression_of parts.first))
meaning actions.If ts parts = Statement (if_statement (place_of 0 ts) (expression_of parts.first) (statement_of parts.second) (some_statement parts.third))
meaning actions.While ts parts = Statement (java.While (place_of 0 ts) None (expression_of parts.first) (statement_of parts.second))
meaning actions.For ts parts =
    Statement (java.For (place_of 0 ts) None (start_of parts.first) (some_expression parts.second) (expressions_of parts.third) (statement_of parts.fourth))
meaning actions.Label ts parts = Statement (java.Label (place_of 0 ts) None (text_of ts) (statement_of parts.first))
meaning actions.Annotated ts parts = Statement (annotated (loop_block ts) (statement_of parts.first))
meaning actions.Break ts parts = Statement (java.Break (place_of 0 ts) (some_name parts.first))
meaning actions.Continue ts parts = Statement (java.Continue (place_of 0 ts) (some_name parts.first))
meaning actions.Return ts parts = Statement (java.Return (place_of 0 ts) (some_expression parts.first))
meaning actions.Throw ts parts = Statement (java.Throw (place_of 0 ts) (expression_of parts.first))
meaning actions.Try ts parts = Statement (rescued (place_of 0 ts) (statements_of parts.first) parts.second)
meaning actions.Named ts parts = Statement (named_statement (place_of 0 ts) (text_of ts) parts.first)
meaning actions.FinalLocal ts parts = Statement (java.Local (place_of 0 ts) (type_of parts.first) (variables parts.second parts.third parts.fourth))
meaning actions.IntLocal ts parts =
    Statement (java.Local (place_of 0 ts) (type_at ts (int_type (is_dimension parts.first))) (variables parts.second parts.third parts.fourth))
meaning actions.BooleanLocal ts parts = Statement (java.Local (place_of 0 ts) (type_at ts BooleanType) (variables parts.first parts.second parts.third))
meaning actions.Variables ts parts = Variables (variables parts.first parts.second parts.third)
meaning actions.NoVariables ts parts = Variables []
meaning actions.IntStart ts parts =
    LoopStart (java.Declared (type_at ts (int_type (is_dimension parts.first))) (variables parts.second parts.third parts.fourth))
meaning actions.BooleanStart ts parts = LoopStart (java.Declared (type_at ts BooleanType) (variables parts.first parts.second parts.third))
meaning actions.NamedStart ts parts = LoopStart (named_start (place_of 0 ts) (text_of ts) parts.first)
meaning actions.NameEffects ts parts = with_effects parts.first (expressions_of parts.second)
meaning actions.Rescue ts parts = Rescue (handlers_of parts.first ++ handlers_of parts.second) (some_statements parts.third)
meaning actions.Finally ts parts = Rescue [] (some_statements parts.first)
meaning actions.Handlers ts parts = Handlers (handlers_of parts.first ++ handlers_of parts.second)
meaning actions.NoHandlers ts parts = Handlers []
meaning actions.Catch ts parts =
    Handlers (java.Catch (place_of 0 ts) (name_of parts.second) (name_of parts.third) (java_stmts (statements_of parts.fourth)) ∷ [])
meaning actions.Statements ts parts = Statements (statement_of parts.first ∷ statements_of parts.second)
meaning actions.NoStatements ts parts = Statements []
meaning actions.Super ts parts = Statements (java.Super (place_of 0 ts) (expressions_of parts.first) ∷ statements_of parts.second)

-- What a value is as a part of a node; something else where it is none of the kind that the node has there.
use Rattle.std.specs.Prelude.{ℕ, Bool, true, false, List, [], Option, Some, None}
use Rattle.jd_syntax.specs.JavaTypes.{PlainIdentifier, PlainWritten, IntType}
use Rattle.jd_syntax.specs.SpecTrees.{PlainSpecBlock}
use Rattle.jd_syntax.specs.JavaTrees as java
use Rattle.jd_syntax.specs.JavaTrees.{JavaExpr, JavaDeclarator, JavaForStart, JavaStmt, JavaHandler, JavaResult, JavaParameter, JavaMember, JavaClass}
use Rattle.jd_java_values.specs.Values.{PlainSuffix, PlainDeclared, FieldNames, PlainValue, Expression, Suffixes, Expressions, Named, Typed, Dimension, Statement, Statements, Variables, LoopStart, Handlers, Modifiers, Number, Names, Parameters, Declared, Body, Classes}

abbrev pub expression_of : PlainValue → JavaExpr
expression_of (Expression e) = e
expression_of _ = java.Null 0

abbrev pub some_expression : PlainValue → Option JavaExpr
some_expression (Expression e) = Some e
some_expression _ = None

abbrev pub suffixes_of : PlainValue → List PlainSuffix
suffixes_of (Suffixes ss) = ss
suffixes_of _ = []

abbrev pub expressions_of : PlainValue → List JavaExpr
expressions_of (Expressions es) = es
expressions_of _ = []

-- the arguments of a call
abbrev pub arguments_of : PlainValue → Option (List JavaExpr)
arguments_of (Expressions es) = Some es
arguments_of _ = None

abbrev pub name_of : PlainValue → PlainIdentifier
name_of (Named x) = x
name_of _ = record { at = 0; name = [] }

abbrev pub some_name : PlainValue → Option PlainIdentifier
some_name (Named x) = Some x
some_name _ = None

abbrev pub type_of : PlainValue → PlainWritten
type_of (Typed t) = t
type_of _ = record { at = 0; written = IntType }

abbrev pub is_dimension : PlainValue → Bool
is_dimension Dimension = true
is_dimension _ = false

abbrev pub statement_of : PlainValue → JavaStmt
statement_of (Statement s) = s
statement_of _ = java.Empty 0

abbrev pub some_statement : PlainValue → Option JavaStmt
some_statement (Statement s) = Some s
some_statement _ = None

abbrev pub statements_of : PlainValue → List JavaStmt
statements_of (Statements ss) = ss
statements_of _ = []

abbrev pub some_statements : PlainValue → Option (List JavaStmt)
some_statements (Statements ss) = Some ss
some_statements _ = None

abbrev pub variables_of : PlainValue → List JavaDeclarator
variables_of (Variables ds) = ds
variables_of _ = []

abbrev pub start_of : PlainValue → JavaForStart
start_of (LoopStart s) = s
start_of (Expressions es) = java.Evaluated es
start_of _ = java.Evaluated []

abbrev pub handlers_of : PlainValue → List JavaHandler
handlers_of (Handlers hs) = hs
handlers_of _ = []

abbrev pub static_of : PlainValue → Bool
static_of (Modifiers static blocks) = static
static_of _ = false

abbrev pub blocks_of : PlainValue → List PlainSpecBlock
blocks_of (Modifiers static blocks) = blocks
blocks_of _ = []

abbrev pub number_of : PlainValue → ℕ
number_of (Number n) = n
number_of _ = 0

abbrev pub names_of : PlainValue → List PlainIdentifier
names_of (Names xs) = xs
names_of _ = []

abbrev pub parameters_of : PlainValue → List JavaParameter
parameters_of (Parameters ps) = ps
parameters_of _ = []

abbrev pub declared_of : PlainValue → PlainDeclared
declared_of (Declared d) = d
declared_of _ = FieldNames []

abbrev pub members_of : PlainValue → List JavaMember
members_of (Body ms end) = ms
members_of _ = []

abbrev pub end_of : PlainValue → Option PlainSpecBlock
end_of (Body ms end) = end
end_of _ = None

abbrev pub classes_of : PlainValue → List JavaClass
classes_of (Classes cs) = cs
classes_of _ = []

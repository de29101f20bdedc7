-- What the form of a node of each name tells of the heights of its value.
use Rattle.std.proofs.Common.{◌≡◌, ◌⊎◌, ℕ, ◌+◌, ◌≤◌, max, List, [], ◌∷◌, length, Option, slice_index_or, sym, subst}
use Rattle.jd_syntax.specs.JavaTrees.{JavaExpr, java_exprs, JavaStmt, java_stmts, JavaHandler, java_handlers, JavaDeclarator}
use Rattle.jd_java_values.specs.Values as values
use Rattle.jd_java_values.specs.Values.{PlainSuffix, PlainStart, PlainValue}
use Rattle.jd_java_values.specs.Parts.{expression_of, some_expression, suffixes_of, expressions_of, arguments_of, statement_of, statements_of, variables_of, start_of, handlers_of, declared_of, members_of, classes_of}
use Rattle.jd_java_statements.specs.Meaning.{named_statement, named_start}
use Rattle.jd_java_attributes.specs.declared.form.Form.{Form}
use Rattle.jd_java_attributes.specs.Judging.{PlainAttributes, nothing}
use Rattle.jd_java_heights.specs.Heights.{expr_height, exprs_height, some_height, declarators_height, for_start_height, highest_in_stmt, highest_in_stmts, highest_in_handlers, stmt_height, stmts_height, handlers_height, highest_in_members, members_height, highest_in_classes, classes_height}
use Rattle.jd_java_heights.proofs.Levels.{IsForm, Flat, nothing_is}
use Rattle.jd_java_heights.proofs.Sizes.{at_least, call_height, start_height, highest_in_some, some_stmts_height, highest_in_declared, declared_height, declarator_in, declaration_in}

-- ---- what is told

abbrev pub IsExpr : PlainValue → Form → Type 0
IsExpr v f = (e : JavaExpr) × (v ≡ values.Expression e) × IsForm f (expr_height e) 0 0

-- what stands behind an operand
abbrev pub OfTail : PlainValue → Form → Type 0
OfTail v f = IsForm f (at_least (suffixes_of v)) (length (suffixes_of v)) 0

abbrev pub AreExprs : PlainValue → Form → Type 0
AreExprs v f = (es : List JavaExpr) × (v ≡ values.Expressions es) × IsForm f (exprs_height (java_exprs es)) 0 0

abbrev pub IsStart : PlainValue → Form → Type 0
IsStart v f = (s : PlainStart) × (ss : List PlainSuffix) × (v ≡ values.Started s ss) × IsForm f (max (start_height s + length ss) (at_least ss)) 0 0

abbrev pub IsIntCast : PlainValue → Form → Type 0
IsIntCast v f = IsExpr v f ⊎ ((e : JavaExpr) × (v ≡ values.ArrayOperand e) × IsForm f (expr_height e) 0 0)

abbrev pub IsBehindParenthesis : PlainValue → Form → Type 0
IsBehindParenthesis v f =
    ((e : JavaExpr) × (v ≡ values.Expression e) × IsForm f (1 + expr_height e) 0 0)
    ⊎ ((ss : List PlainSuffix) × (v ≡ values.Suffixes ss) × IsForm f (at_least ss) (length ss) 0)

abbrev pub IsNameEffect : PlainValue → Form → Type 0
IsNameEffect v f =
    (args : Option (List JavaExpr)) × (ss : List PlainSuffix) × (v ≡ values.BehindName args ss [])
    × IsForm f (max (call_height args + length ss) (at_least ss)) (length ss) 0

-- what stands behind the name that a statement begins with
abbrev pub IsBehindStatementName : PlainValue → Form → Type 0
IsBehindStatementName v f =
    (h a s : ℕ) × IsForm f h a s × (a ≤ h) × ((at : ℕ) (x : List ℕ) → h ≡ highest_in_stmt (named_statement at x v))
    × ((at : ℕ) (x : List ℕ) → s ≡ stmt_height (named_statement at x v))

abbrev pub IsBehindStartName : PlainValue → Form → Type 0
IsBehindStartName v f = (h a : ℕ) × IsForm f h a 0 × (a ≤ h) × ((at : ℕ) (x : List ℕ) → h ≡ for_start_height (named_start at x v))

abbrev pub IsStatement : PlainValue → Form → Type 0
IsStatement v f = (s : JavaStmt) × (v ≡ values.Statement s) × IsForm f (highest_in_stmt s) 0 (stmt_height s)

abbrev pub OfStatement : PlainValue → Form → Type 0
OfStatement v f = IsForm f (highest_in_stmt (statement_of v)) 0 (stmt_height (statement_of v))

abbrev pub OfStatements : PlainValue → Form → Type 0
OfStatements v f = IsForm f (highest_in_stmts (java_stmts (statements_of v))) 0 (stmts_height (java_stmts (statements_of v)))

abbrev pub AreVariables : PlainValue → Form → Type 0
AreVariables v f = (ds : List JavaDeclarator) × (v ≡ values.Variables ds) × IsForm f (declarators_height ds) 0 0

abbrev pub OfOptional : PlainValue → Form → Type 0
OfOptional v f = IsForm f (some_height (some_expression v)) 0 0

abbrev pub OfHandlers : PlainValue → Form → Type 0
OfHandlers v f = IsForm f (highest_in_handlers (java_handlers (handlers_of v))) 0 (handlers_height (java_handlers (handlers_of v)))

abbrev pub IsRescue : PlainValue → Form → Type 0
IsRescue v f =
    (hs : List JavaHandler) × (o : Option (List JavaStmt)) × (v ≡ values.Rescue hs o)
    × IsForm f (max (highest_in_handlers (java_handlers hs)) (highest_in_some o)) 0 (max (handlers_height (java_handlers hs)) (some_stmts_height o))

-- ---- by name

pub data Role : Type 0 where
  Classes : Role
  Low : Role
  Body : Role
  Declaration : Role
  Declarator : Role
  Declared : Role
  Statements : Role
  Statement : Role
  BehindStatementName : Role
  Variables : Role
  Optional : Role
  Else : Role
  LoopStart : Role
  BehindStartName : Role
  Expressions : Role
  Rescue : Role
  Handlers : Role
  Expression : Role
  NameEffect : Role
  Start : Role
  Tail : Role
  IntCast : Role
  BehindParenthesis : Role
  Call : Role

abbrev pub told_by : Role → PlainValue → Form → Type 0
told_by Low v f = Flat f
told_by Classes v f = IsForm f (highest_in_classes (classes_of v)) 0 (classes_height (classes_of v))
told_by Body v f = IsForm f (highest_in_members (members_of v)) 0 (members_height (members_of v))
told_by Declared v f = IsForm f (highest_in_declared (declared_of v)) 0 (declared_height (declared_of v))
told_by Declarator v f = IsForm f (highest_in_declared (declarator_in v)) 0 (declared_height (declarator_in v))
told_by Declaration v f = IsForm f (highest_in_declared (declaration_in v)) 0 (declared_height (declaration_in v))
told_by Statements v f = OfStatements v f
told_by Statement v f = IsStatement v f
told_by BehindStatementName v f = IsBehindStatementName v f
told_by Variables v f = AreVariables v f
told_by Optional v f = OfOptional v f
told_by Else v f = OfStatement v f
told_by LoopStart v f = IsForm f (for_start_height (start_of v)) 0 0
told_by BehindStartName v f = IsBehindStartName v f
told_by Expressions v f = AreExprs v f
told_by Rescue v f = IsRescue v f
told_by Handlers v f = OfHandlers v f
told_by Expression v f = IsExpr v f
told_by NameEffect v f = IsNameEffect v f
told_by Start v f = IsStart v f
told_by Tail v f = OfTail v f
told_by IntCast v f = IsIntCast v f
told_by BehindParenthesis v f = IsBehindParenthesis v f
told_by Call v f = IsForm f (call_height (arguments_of v)) 0 0

-- in the order of the names
abbrev pub roles : List Role
roles =
    Classes
    ∷ Low
    ∷ Classes
    ∷ Classes
    ∷ Low
    ∷ Low
    ∷ Low
    ∷ Body
    ∷ Body
    ∷ Body
    ∷ Low
    ∷ Low
    ∷ Declaration
    ∷ Declarator
    ∷ Declarator
    ∷ Declared
    ∷ Declared
    ∷ Low
    ∷ Declared
    ∷ Low
    ∷ Declared
    ∷ Low
    ∷ Low
    ∷ Low
    ∷ Low
    ∷ Low
    ∷ Low
    ∷ Statements
    ∷ Statements
    ∷ Statements
    ∷ Statements
    ∷ Statement
    ∷ BehindStatementName
    ∷ Variables
    ∷ Optional
    ∷ Variables
    ∷ Statement
    ∷ BehindStatementName
    ∷ Statement
    ∷ Else
    ∷ Statement
    ∷ Statement
    ∷ Statement
    ∷ LoopStart
    ∷ BehindStartName
    ∷ Optional
    ∷ Expressions
    ∷ Expressions
    ∷ Low
    ∷ Optional
    ∷ Rescue
    ∷ Handlers
    ∷ Handlers
    ∷ Low
    ∷ Statements
    ∷ Expression
    ∷ NameEffect
    ∷ Expression
    ∷ Start
    ∷ Tail
    ∷ Expression
    ∷ Tail
    ∷ Expression
    ∷ Tail
    ∷ Expression
    ∷ Tail
    ∷ Expression
    ∷ Tail
    ∷ Expression
    ∷ Tail
    ∷ Expression
    ∷ Tail
    ∷ Low
    ∷ Expression
    ∷ Tail
    ∷ Expression
    ∷ Tail
    ∷ Expression
    ∷ Expression
    ∷ Expression
    ∷ Start
    ∷ IntCast
    ∷ BehindParenthesis
    ∷ Expression
    ∷ Start
    ∷ Tail
    ∷ Tail
    ∷ Call
    ∷ Expressions
    ∷ Expressions
    ∷ Tail
    ∷ Tail
    ∷ Low
    ∷ []

-- a node of that name with that value has this form
abbrev pub Tells : ℕ → PlainValue → Form → Type 0
Tells a v f = told_by (slice_index_or roles a Low) v f

-- ---- heights of parts

pub expr_is : (v : PlainValue) (f : Form) → IsExpr v f → IsForm f (expr_height (expression_of v)) 0 0
expr_is v f (e, is, i) = subst (λ x. IsForm f (expr_height (expression_of x)) 0 0) (sym is) i

pub optional_is : (v : PlainValue) (f : Form) → IsExpr v f → OfOptional v f
optional_is v f (e, is, i) = subst (λ x. OfOptional x f) (sym is) i

pub exprs_is : (v : PlainValue) (f : Form) → AreExprs v f → IsForm f (exprs_height (java_exprs (expressions_of v))) 0 0
exprs_is v f (es, is, i) = subst (λ x. IsForm f (exprs_height (java_exprs (expressions_of x))) 0 0) (sym is) i

pub statement_is : (v : PlainValue) (f : Form) → IsStatement v f → OfStatement v f
statement_is v f (s, is, i) = subst (λ x. OfStatement x f) (sym is) i

pub variables_is : (v : PlainValue) (f : Form) → AreVariables v f → IsForm f (declarators_height (variables_of v)) 0 0
variables_is v f (ds, is, i) = subst (λ x. IsForm f (declarators_height (variables_of x)) 0 0) (sym is) i

pub no_tail : {a : PlainAttributes} {v : PlainValue} → a ≡ nothing → v ≡ values.Nothing → OfTail v a.form
no_tail {a} {v} e is = subst (λ w. OfTail w a.form) (sym is) (nothing_is e)

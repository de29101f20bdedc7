-- What a node of each name shows.
use Rattle.std.proofs.Common.{◌≡◌, ◌⊎◌, ℕ, ℤ, List, [], ◌∷◌, ◌++◌, map, Bool, false, cond, Option, Some, None, codes, slice_index_or}
use Rattle.std.specs.List.{flat_map}
use Rattle.jd_java_tokens.specs.Contents.{PlainLexeme}
use Rattle.jd_java_tokens.specs.Heads.{text_of}
use Rattle.jd_syntax.specs.JavaTypes.{PlainIdentifier, PlainWritten}
use Rattle.jd_syntax.specs.SpecTrees.{PlainSpecBlock}
use Rattle.jd_syntax.specs.JavaTrees.{JavaExpr, java_exprs, JavaDeclarator, JavaStmt, java_stmts, JavaHandler, java_handlers, JavaParameter}
use Rattle.jd_java_values.specs.Values as values
use Rattle.jd_java_values.specs.Values.{PlainSuffix, PlainStart, PlainValue}
use Rattle.jd_java_values.specs.Parts as part
use Rattle.jd_java_values.specs.Parts.{expression_of, some_expression, suffixes_of, expressions_of, arguments_of, some_name, is_dimension, some_statement, some_statements, variables_of, start_of, handlers_of, static_of, names_of, parameters_of, members_of, classes_of}
use Rattle.jd_java_members.specs.Meaning.{member_at, int_declaration, named_declaration}
use Rattle.jd_java_texts.specs.Texts.{Texts, infix_text, count_text, assignment_text, type_texts, behind_commas, separated, names_texts, expr_texts, exprs_texts, more_exprs_texts, optional_texts, value_texts, declarator_texts, for_start_texts, target_texts, stmt_texts, stmts_texts, handlers_texts, parameter_texts, static_texts, integer_texts, members_texts, parent_texts, classes_texts}
use Rattle.jd_java_texts.specs.Kept.{negated_texts, NodeTexts, IsStaticAsDeclared}

-- ---- texts of values

abbrev pub suffix_texts : PlainSuffix → Texts
suffix_texts (values.Infix o e) = infix_text o ∷ expr_texts e
suffix_texts (values.InstanceOf t) = codes "instanceof" ∷ type_texts t.written
suffix_texts (values.Assign o e) = assignment_text o ∷ expr_texts e
suffix_texts (values.Choice a b) = codes "?" ∷ expr_texts a ++ codes ":" ∷ expr_texts b
suffix_texts (values.Member x) = codes "." ∷ x.name ∷ []
suffix_texts (values.Method x es) = codes "." ∷ x.name ∷ codes "(" ∷ exprs_texts (java_exprs es) ++ codes ")" ∷ []
suffix_texts (values.Element i) = codes "[" ∷ expr_texts i ++ codes "]" ∷ []
suffix_texts (values.Count o) = count_text o ∷ []

abbrev pub suffixes_texts : List PlainSuffix → Texts
suffixes_texts ss = flat_map suffix_texts ss

-- with the `(` or the `new` before it
abbrev pub start_texts : PlainStart → Texts
start_texts (values.Inside e) = codes "(" ∷ expr_texts e ++ codes ")" ∷ []
start_texts (values.Cast t e) = codes "(" ∷ type_texts t.written ++ codes ")" ∷ expr_texts e
start_texts (values.Object x es) = codes "new" ∷ x.name ∷ codes "(" ∷ exprs_texts (java_exprs es) ++ codes ")" ∷ []
start_texts (values.Array e) = codes "new" ∷ codes "int" ∷ codes "[" ∷ expr_texts e ++ codes "]" ∷ []

-- behind `int` in a cast
abbrev pub int_cast_texts : PlainValue → Texts
int_cast_texts (values.ArrayOperand e) = codes "[" ∷ codes "]" ∷ codes ")" ∷ expr_texts e
int_cast_texts v = codes ")" ∷ expr_texts (expression_of v)

-- behind `)`
abbrev pub behind_parenthesis_texts : PlainValue → Texts
behind_parenthesis_texts (values.Expression e) = expr_texts e
behind_parenthesis_texts v = suffixes_texts (suffixes_of v)

abbrev pub call_texts : Option (List JavaExpr) → Texts
call_texts None = []
call_texts (Some es) = codes "(" ∷ exprs_texts (java_exprs es) ++ codes ")" ∷ []

-- behind the name that a statement begins with
abbrev pub behind_name_texts : PlainValue → Texts
behind_name_texts (values.Statement s) = codes ":" ∷ stmt_texts s
behind_name_texts (values.Variables ds) = separated (map declarator_texts ds) ++ codes ";" ∷ []
behind_name_texts (values.BehindName args ss es) = call_texts args ++ (suffixes_texts ss ++ codes ";" ∷ [])
behind_name_texts _ = codes ";" ∷ []

-- behind the name that the start of a `for` begins with
abbrev pub behind_start_name_texts : PlainValue → Texts
behind_start_name_texts (values.Variables ds) = separated (map declarator_texts ds) ++ codes ";" ∷ []
behind_start_name_texts (values.BehindName args ss es) = call_texts args ++ (suffixes_texts ss ++ (more_exprs_texts (java_exprs es) ++ codes ";" ∷ []))
behind_start_name_texts _ = codes ";" ∷ []

abbrev pub else_texts : Option JavaStmt → Texts
else_texts None = []
else_texts (Some s) = codes "else" ∷ stmt_texts s

abbrev pub finally_texts : Option (List JavaStmt) → Texts
finally_texts None = []
finally_texts (Some ss) = codes "finally" ∷ codes "{" ∷ stmts_texts (java_stmts ss) ++ codes "}" ∷ []

-- a method behind its name
abbrev pub routine_texts : List JavaParameter → List JavaStmt → Texts
routine_texts ps ss = codes "(" ∷ separated (map parameter_texts ps) ++ (codes ")" ∷ codes "{" ∷ stmts_texts (java_stmts ss) ++ codes "}" ∷ [])

-- ---- what is shown

abbrev pub IsExpr : PlainValue → Texts → Type 0
IsExpr v t = (e : JavaExpr) × (v ≡ values.Expression e) × (t ≡ expr_texts e)

-- behind that sign
abbrev pub IsStart : List ℕ → PlainValue → Texts → Type 0
IsStart before v t = (s : PlainStart) × (ss : List PlainSuffix) × (v ≡ values.Started s ss) × (before ∷ t ≡ start_texts s ++ suffixes_texts ss)

abbrev pub AreExprs : (List JavaExpr → Texts) → PlainValue → Texts → Type 0
AreExprs texts v t = (es : List JavaExpr) × (v ≡ values.Expressions es) × (t ≡ texts es)

abbrev pub IsNamed : PlainValue → Texts → Type 0
IsNamed v t = (x : PlainIdentifier) × (v ≡ values.Named x) × (t ≡ x.name ∷ [])

abbrev pub IsTyped : PlainValue → Texts → Type 0
IsTyped v t = (x : PlainWritten) × (v ≡ values.Typed x) × (t ≡ type_texts x.written)

abbrev pub IsNameEffect : PlainValue → Texts → Type 0
IsNameEffect v t = (args : Option (List JavaExpr)) × (ss : List PlainSuffix) × (v ≡ values.BehindName args ss []) × (t ≡ call_texts args ++ suffixes_texts ss)

abbrev pub IsStmt : PlainValue → Texts → Type 0
IsStmt v t = (s : JavaStmt) × (v ≡ values.Statement s) × (t ≡ stmt_texts s)

-- up to `}`
abbrev pub AreStmts : PlainValue → Texts → Type 0
AreStmts v t = (ss : List JavaStmt) × (v ≡ values.Statements ss) × (t ≡ stmts_texts (java_stmts ss) ++ codes "}" ∷ [])

abbrev pub IsBlock : PlainValue → Texts → Type 0
IsBlock v t = (ss : List JavaStmt) × (v ≡ values.Statements ss) × (t ≡ codes "{" ∷ stmts_texts (java_stmts ss) ++ codes "}" ∷ [])

abbrev pub AreVariables : PlainValue → Texts → Type 0
AreVariables v t = (ds : List JavaDeclarator) × (v ≡ values.Variables ds) × (t ≡ separated (map declarator_texts ds))

abbrev pub IsRescue : PlainValue → Texts → Type 0
IsRescue v t =
    (hs : List JavaHandler) × (ss : Option (List JavaStmt)) × (v ≡ values.Rescue hs ss) × (t ≡ handlers_texts (java_handlers hs) ++ finally_texts ss)

abbrev pub IsParameter : PlainValue → Texts → Type 0
IsParameter v t = (p : JavaParameter) × (parameters_of v ≡ p ∷ []) × (t ≡ parameter_texts p)

abbrev pub IsConstant : PlainValue → Texts → Type 0
IsConstant v t = (z : ℤ) × (v ≡ values.Declared (values.Constant z)) × (t ≡ integer_texts z)

abbrev pub IsMethod : PlainValue → Texts → Type 0
IsMethod v t = (ps : List JavaParameter) × (ss : List JavaStmt) × (v ≡ values.Declared (values.Routine ps ss)) × (t ≡ routine_texts ps ss)

abbrev pub AreFields : PlainValue → Texts → Type 0
AreFields v t = (xs : List PlainIdentifier) × (v ≡ values.Declared (values.FieldNames xs)) × (t ≡ behind_commas (names_texts xs) ++ codes ";" ∷ [])

-- behind the name of a member
abbrev pub IsDeclared : PlainValue → Texts → Type 0
IsDeclared v t = IsMethod v t ⊎ AreFields v t

-- behind the name of a member of type `int`
abbrev pub IsIntDeclared : PlainValue → Texts → Type 0
IsIntDeclared v t = IsDeclared v t ⊎ ((z : ℤ) × (v ≡ values.Declared (values.Constant z)) × (t ≡ codes "=" ∷ integer_texts z ++ codes ";" ∷ []))

-- with modifiers before it, a member
abbrev pub IsDeclaration : PlainValue → Texts → Bool → Type 0
IsDeclaration v t constructor =
    (static : Bool) → IsStaticAsDeclared static v → (at : ℕ) (blocks : List PlainSpecBlock)
    → cond constructor [] (static_texts static) ++ t ≡ members_texts (members_of (member_at at static blocks v))

-- behind `int`
abbrev pub IsIntDeclaration : PlainValue → Texts → Type 0
IsIntDeclaration v t = (ts : List PlainLexeme) → IsDeclaration (int_declaration ts v) (codes "int" ∷ t) false

-- behind the name that it begins with
abbrev pub IsNamedDeclaration : PlainValue → Texts → Bool → Type 0
IsNamedDeclaration v t constructor = (ts : List PlainLexeme) → IsDeclaration (named_declaration ts v) (text_of ts ∷ t) constructor

-- ---- by name

pub data Frame : Type 0 where
  Blank : Frame
  Classes : Frame
  Modifiers : Frame
  Parent : Frame
  Body : Frame
  Members : Frame
  Declaration : Frame
  IntDeclaration : Frame
  NamedDeclaration : Frame
  IntDeclared : Frame
  Constant : Frame
  Magnitude : Frame
  Declared : Frame
  MoreNames : Frame
  Method : Frame
  Parameters : Frame
  MoreParameters : Frame
  Parameter : Frame
  Written : Frame
  Dimension : Frame
  Block : Frame
  Statements : Frame
  Statement : Frame
  BehindName : Frame
  Variables : Frame
  Initializer : Frame
  MoreVariables : Frame
  Else : Frame
  ForStart : Frame
  BehindStartName : Frame
  UpToSemicolon : Frame
  ForUpdate : Frame
  MoreEffects : Frame
  Target : Frame
  Rescue : Frame
  Handlers : Frame
  Finally : Frame
  Expression : Frame
  NameEffect : Frame
  Creation : Frame
  Suffixes : Frame
  Parenthesis : Frame
  IntCast : Frame
  BehindParenthesis : Frame
  Call : Frame
  Arguments : Frame
  MoreArguments : Frame
  Identifier : Frame

abbrev pub shown_by : Frame → PlainValue → Texts → Bool → Type 0
shown_by Blank v t constructor = t ≡ []
shown_by Classes v t constructor = t ≡ classes_texts (classes_of v)
shown_by Modifiers v t constructor = t ≡ static_texts (static_of v)
shown_by Parent v t constructor = t ≡ parent_texts (some_name v)
shown_by Body v t constructor = t ≡ members_texts (members_of v) ++ codes "}" ∷ []
shown_by Members v t constructor = t ≡ members_texts (members_of v)
shown_by Declaration v t constructor = IsDeclaration v t constructor
shown_by IntDeclaration v t constructor = IsIntDeclaration v t
shown_by NamedDeclaration v t constructor = IsNamedDeclaration v t constructor
shown_by IntDeclared v t constructor = IsIntDeclared v t
shown_by Constant v t constructor = IsConstant v t
shown_by Magnitude v t constructor = t ≡ negated_texts (part.number_of v)
shown_by Declared v t constructor = IsDeclared v t
shown_by MoreNames v t constructor = t ≡ behind_commas (names_texts (names_of v))
shown_by Method v t constructor = IsMethod v t
shown_by Parameters v t constructor = t ≡ separated (map parameter_texts (parameters_of v)) ++ codes ")" ∷ []
shown_by MoreParameters v t constructor = t ≡ behind_commas (map parameter_texts (parameters_of v)) ++ codes ")" ∷ []
shown_by Parameter v t constructor = IsParameter v t
shown_by Written v t constructor = IsTyped v t
shown_by Dimension v t constructor = t ≡ cond (is_dimension v) (codes "[" ∷ codes "]" ∷ []) []
shown_by Block v t constructor = IsBlock v t
shown_by Statements v t constructor = AreStmts v t
shown_by Statement v t constructor = IsStmt v t
shown_by BehindName v t constructor = t ≡ behind_name_texts v
shown_by Variables v t constructor = AreVariables v t
shown_by Initializer v t constructor = t ≡ value_texts (some_expression v)
shown_by MoreVariables v t constructor = t ≡ behind_commas (map declarator_texts (variables_of v))
shown_by Else v t constructor = t ≡ else_texts (some_statement v)
shown_by ForStart v t constructor = t ≡ for_start_texts (start_of v) ++ codes ";" ∷ []
shown_by BehindStartName v t constructor = t ≡ behind_start_name_texts v
shown_by UpToSemicolon v t constructor = t ≡ optional_texts (some_expression v) ++ codes ";" ∷ []
shown_by ForUpdate v t constructor = t ≡ exprs_texts (java_exprs (expressions_of v)) ++ codes ")" ∷ []
shown_by MoreEffects v t constructor = t ≡ more_exprs_texts (java_exprs (expressions_of v))
shown_by Target v t constructor = t ≡ target_texts (some_name v)
shown_by Rescue v t constructor = IsRescue v t
shown_by Handlers v t constructor = t ≡ handlers_texts (java_handlers (handlers_of v))
shown_by Finally v t constructor = t ≡ finally_texts (some_statements v)
shown_by Expression v t constructor = IsExpr v t
shown_by NameEffect v t constructor = IsNameEffect v t
shown_by Creation v t constructor = IsStart (codes "new") v t
shown_by Suffixes v t constructor = t ≡ suffixes_texts (suffixes_of v)
shown_by Parenthesis v t constructor = IsStart (codes "(") v t
shown_by IntCast v t constructor = t ≡ int_cast_texts v
shown_by BehindParenthesis v t constructor = t ≡ behind_parenthesis_texts v
shown_by Call v t constructor = t ≡ call_texts (arguments_of v)
shown_by Arguments v t constructor = AreExprs (λ es. exprs_texts (java_exprs es) ++ codes ")" ∷ []) v t
shown_by MoreArguments v t constructor = AreExprs (λ es. more_exprs_texts (java_exprs es) ++ codes ")" ∷ []) v t
shown_by Identifier v t constructor = IsNamed v t

-- in the order of the names
abbrev pub frames : List Frame
frames =
    Classes
    ∷ Blank
    ∷ Classes
    ∷ Classes
    ∷ Blank
    ∷ Modifiers
    ∷ Parent
    ∷ Body
    ∷ Body
    ∷ Members
    ∷ Modifiers
    ∷ Blank
    ∷ Declaration
    ∷ IntDeclaration
    ∷ NamedDeclaration
    ∷ IntDeclared
    ∷ Constant
    ∷ Magnitude
    ∷ Declared
    ∷ MoreNames
    ∷ Method
    ∷ Parameters
    ∷ MoreParameters
    ∷ Parameter
    ∷ Written
    ∷ Dimension
    ∷ Blank
    ∷ Block
    ∷ Statements
    ∷ Block
    ∷ Statements
    ∷ Statement
    ∷ BehindName
    ∷ Variables
    ∷ Initializer
    ∷ MoreVariables
    ∷ Statement
    ∷ BehindName
    ∷ Statement
    ∷ Else
    ∷ Statement
    ∷ Statement
    ∷ Statement
    ∷ ForStart
    ∷ BehindStartName
    ∷ UpToSemicolon
    ∷ ForUpdate
    ∷ MoreEffects
    ∷ Target
    ∷ UpToSemicolon
    ∷ Rescue
    ∷ Handlers
    ∷ Handlers
    ∷ Blank
    ∷ Finally
    ∷ Expression
    ∷ NameEffect
    ∷ Expression
    ∷ Creation
    ∷ Suffixes
    ∷ Expression
    ∷ Suffixes
    ∷ Expression
    ∷ Suffixes
    ∷ Expression
    ∷ Suffixes
    ∷ Expression
    ∷ Suffixes
    ∷ Expression
    ∷ Suffixes
    ∷ Expression
    ∷ Suffixes
    ∷ Written
    ∷ Expression
    ∷ Suffixes
    ∷ Expression
    ∷ Suffixes
    ∷ Expression
    ∷ Expression
    ∷ Expression
    ∷ Parenthesis
    ∷ IntCast
    ∷ BehindParenthesis
    ∷ Expression
    ∷ Creation
    ∷ Suffixes
    ∷ Suffixes
    ∷ Call
    ∷ Arguments
    ∷ MoreArguments
    ∷ Suffixes
    ∷ Suffixes
    ∷ Identifier
    ∷ []

abbrev pub frame_of : ℕ → Frame
frame_of a = slice_index_or frames a Blank

-- a node of that name with that value has these texts
abbrev pub Shown : ℕ → PlainValue → NodeTexts → Type 0
Shown a v u = shown_by (frame_of a) v u.texts u.of_constructor

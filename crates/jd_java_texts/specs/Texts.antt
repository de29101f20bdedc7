-- The texts of the tokens of a tree of Java, in the order in which the grammar has these (JLS SE 8, chapter 19).
-- What a tree does not keep has none: JML, annotations and modifiers but `static`, a package, and the classes behind `throws`.
-- A number is written in decimal digits.
use Rattle.std.specs.Prelude.{ℕ, suc, ℤ, pos, negsuc, List, [], ◌∷◌, ◌++◌, map, Bool, true, false, Option, Some, None, codes}
use Rattle.std.specs.Fmt.{decimal}
use Rattle.std.specs.List.{flat_map}
use Rattle.jd_syntax.specs.JavaTypes.{PlainIdentifier, PlainType, IntType, BooleanType, IntArrayType, NamedType}
use Rattle.jd_syntax.specs.JavaTrees as java
use Rattle.jd_syntax.specs.JavaTrees.{JavaExpr, JavaExprs, NoExprs, ExprThen, java_exprs, JavaDeclarator, JavaForStart, JavaStmt, JavaStmts, NoStmts, StmtThen, java_stmts, JavaHandler, JavaHandlers, NoHandlers, HandlerThen, JavaParameter, JavaResult, JavaMember, FieldMember, ConstantMember, MethodMember, JavaClass, JavaUnit}
use Rattle.jd_syntax.specs.declared.java.InfixOperator.{InfixOperator}
use Rattle.jd_syntax.specs.declared.java.InfixOperator.TheVariants as infixes
use Rattle.jd_syntax.specs.declared.java.PrefixOperator.{PrefixOperator}
use Rattle.jd_syntax.specs.declared.java.PrefixOperator.TheVariants as prefixes
use Rattle.jd_syntax.specs.declared.java.CountOperator.{CountOperator}
use Rattle.jd_syntax.specs.declared.java.CountOperator.TheVariants as counts
use Rattle.jd_syntax.specs.declared.java.AssignmentOperator.{AssignmentOperator}
use Rattle.jd_syntax.specs.declared.java.AssignmentOperator.TheVariants as assignments

abbrev pub Texts : Type 0
Texts = List (List ℕ)

-- ---- words and signs

abbrev pub truth_text : Bool → List ℕ
truth_text true = codes "true"
truth_text false = codes "false"

-- 15.17 to 15.24
abbrev pub infix_text : InfixOperator → List ℕ
infix_text infixes.OrElse = codes "||"
infix_text infixes.AndAlso = codes "&&"
infix_text infixes.Equal = codes "=="
infix_text infixes.NotEqual = codes "!="
infix_text infixes.Less = codes "<"
infix_text infixes.LessOrEqual = codes "<="
infix_text infixes.Greater = codes ">"
infix_text infixes.GreaterOrEqual = codes ">="
infix_text infixes.Add = codes "+"
infix_text infixes.Subtract = codes "-"
infix_text infixes.Multiply = codes "*"
infix_text infixes.Divide = codes "/"
infix_text infixes.Remainder = codes "%"

-- 15.14.2, 15.14.3, 15.15.1, 15.15.2
abbrev pub count_text : CountOperator → List ℕ
count_text counts.Increment = codes "++"
count_text counts.Decrement = codes "--"

-- 15.15
abbrev pub prefix_text : PrefixOperator → List ℕ
prefix_text prefixes.Plus = codes "+"
prefix_text prefixes.Minus = codes "-"
prefix_text prefixes.Not = codes "!"
prefix_text (prefixes.Count o) = count_text o

-- 15.26
abbrev pub assignment_text : AssignmentOperator → List ℕ
assignment_text assignments.Set = codes "="
assignment_text assignments.Add = codes "+="
assignment_text assignments.Subtract = codes "-="
assignment_text assignments.Multiply = codes "*="
assignment_text assignments.Divide = codes "/="
assignment_text assignments.Remainder = codes "%="

-- 4.1 to 4.3
abbrev pub type_texts : PlainType → Texts
type_texts IntType = codes "int" ∷ []
type_texts BooleanType = codes "boolean" ∷ []
type_texts IntArrayType = codes "int" ∷ codes "[" ∷ codes "]" ∷ []
type_texts (NamedType x) = x ∷ []

-- each behind a comma
abbrev pub behind_commas : List Texts → Texts
behind_commas xs = flat_map (λ x. codes "," ∷ x) xs

-- those with commas between them
abbrev pub separated : List Texts → Texts
separated [] = []
separated (x ∷ xs) = x ++ behind_commas xs

abbrev pub names_texts : List PlainIdentifier → List Texts
names_texts xs = map (λ x. x.name ∷ []) xs

-- ---- 15 expressions

abbrev mutual
  pub expr_texts : JavaExpr → Texts
  expr_texts (java.Integer at n) = decimal n ∷ []
  expr_texts (java.Boolean at b) = truth_text b ∷ []
  expr_texts (java.Null at) = codes "null" ∷ []
  expr_texts (java.This at) = codes "this" ∷ []
  expr_texts (java.Name at x) = x ∷ []
  expr_texts (java.Field at e x) = expr_texts e ++ codes "." ∷ x.name ∷ []
  expr_texts (java.Parenthesized at e) = codes "(" ∷ expr_texts e ++ codes ")" ∷ []
  expr_texts (java.Call at m es) = m ∷ codes "(" ∷ exprs_texts es ++ codes ")" ∷ []
  expr_texts (java.MethodCall at e m es) = expr_texts e ++ (codes "." ∷ m.name ∷ codes "(" ∷ exprs_texts es ++ codes ")" ∷ [])
  expr_texts (java.New at c es) = codes "new" ∷ c.name ∷ codes "(" ∷ exprs_texts es ++ codes ")" ∷ []
  expr_texts (java.NewArray at e) = codes "new" ∷ codes "int" ∷ codes "[" ∷ expr_texts e ++ codes "]" ∷ []
  expr_texts (java.Index at a i) = expr_texts a ++ (codes "[" ∷ expr_texts i ++ codes "]" ∷ [])
  expr_texts (java.Prefix at o e) = prefix_text o ∷ expr_texts e
  expr_texts (java.Postfix at o e) = expr_texts e ++ count_text o ∷ []
  expr_texts (java.Cast at t e) = codes "(" ∷ type_texts t.written ++ codes ")" ∷ expr_texts e
  expr_texts (java.Infix at o a b) = expr_texts a ++ infix_text o ∷ expr_texts b
  expr_texts (java.InstanceOf at e t) = expr_texts e ++ codes "instanceof" ∷ type_texts t.written
  expr_texts (java.Conditional at c a b) = expr_texts c ++ (codes "?" ∷ expr_texts a ++ codes ":" ∷ expr_texts b)
  expr_texts (java.Assign at o a b) = expr_texts a ++ assignment_text o ∷ expr_texts b

  -- expressions with commas between them
  pub exprs_texts : JavaExprs → Texts
  exprs_texts NoExprs = []
  exprs_texts (ExprThen e es) = expr_texts e ++ more_exprs_texts es

  -- those behind the first
  pub more_exprs_texts : JavaExprs → Texts
  more_exprs_texts NoExprs = []
  more_exprs_texts (ExprThen e es) = codes "," ∷ expr_texts e ++ more_exprs_texts es

abbrev pub optional_texts : Option JavaExpr → Texts
optional_texts None = []
optional_texts (Some e) = expr_texts e

-- ---- 14 blocks and statements

-- 14.4: a variable's first value
abbrev pub value_texts : Option JavaExpr → Texts
value_texts None = []
value_texts (Some e) = codes "=" ∷ expr_texts e

abbrev pub declarator_texts : JavaDeclarator → Texts
declarator_texts d = d.name.name ∷ value_texts d.value

-- 14.14.1
abbrev pub for_start_texts : JavaForStart → Texts
for_start_texts (java.Declared t ds) = type_texts t.written ++ separated (map declarator_texts ds)
for_start_texts (java.Evaluated es) = exprs_texts (java_exprs es)

-- 14.15, 14.16
abbrev pub target_texts : Option PlainIdentifier → Texts
target_texts None = []
target_texts (Some x) = x.name ∷ []

abbrev mutual
  pub stmt_texts : JavaStmt → Texts
  stmt_texts (java.Block at ss) = codes "{" ∷ stmts_texts ss ++ codes "}" ∷ []
  stmt_texts (java.Empty at) = codes ";" ∷ []
  stmt_texts (java.Local at t ds) = type_texts t.written ++ (separated (map declarator_texts ds) ++ codes ";" ∷ [])
  stmt_texts (java.Evaluate at e) = expr_texts e ++ codes ";" ∷ []
  stmt_texts (java.Label at j l s) = l ∷ codes ":" ∷ stmt_texts s
  stmt_texts (java.If at c s) = codes "if" ∷ codes "(" ∷ expr_texts c ++ codes ")" ∷ stmt_texts s
  stmt_texts (java.IfElse at c s t) = codes "if" ∷ codes "(" ∷ expr_texts c ++ (codes ")" ∷ stmt_texts s ++ codes "else" ∷ stmt_texts t)
  stmt_texts (java.While at j c s) = codes "while" ∷ codes "(" ∷ expr_texts c ++ codes ")" ∷ stmt_texts s
  stmt_texts (java.For at j start c update s) =
      codes "for" ∷ codes "(" ∷ for_start_texts start
      ++ (codes ";" ∷ optional_texts c ++ (codes ";" ∷ exprs_texts (java_exprs update) ++ codes ")" ∷ stmt_texts s))
  stmt_texts (java.Break at l) = codes "break" ∷ target_texts l ++ codes ";" ∷ []
  stmt_texts (java.Continue at l) = codes "continue" ∷ target_texts l ++ codes ";" ∷ []
  stmt_texts (java.Return at e) = codes "return" ∷ optional_texts e ++ codes ";" ∷ []
  stmt_texts (java.Throw at e) = codes "throw" ∷ expr_texts e ++ codes ";" ∷ []
  stmt_texts (java.Try at ss hs) = codes "try" ∷ codes "{" ∷ stmts_texts ss ++ codes "}" ∷ handlers_texts hs
  stmt_texts (java.TryFinally at ss hs ts) =
      codes "try" ∷ codes "{" ∷ stmts_texts ss ++ (codes "}" ∷ handlers_texts hs ++ (codes "finally" ∷ codes "{" ∷ stmts_texts ts ++ codes "}" ∷ []))
  -- 8.8.7.1
  stmt_texts (java.Super at es) = codes "super" ∷ codes "(" ∷ exprs_texts (java_exprs es) ++ codes ")" ∷ codes ";" ∷ []

  pub stmts_texts : JavaStmts → Texts
  stmts_texts NoStmts = []
  stmts_texts (StmtThen s ss) = stmt_texts s ++ stmts_texts ss

  -- 14.20
  pub handler_texts : JavaHandler → Texts
  handler_texts (java.Catch at c x ss) = codes "catch" ∷ codes "(" ∷ c.name ∷ x.name ∷ codes ")" ∷ codes "{" ∷ stmts_texts ss ++ codes "}" ∷ []

  pub handlers_texts : JavaHandlers → Texts
  handlers_texts NoHandlers = []
  handlers_texts (HandlerThen h hs) = handler_texts h ++ handlers_texts hs

-- ---- 8 classes

-- 8.4.1
abbrev pub parameter_texts : JavaParameter → Texts
parameter_texts x = type_texts x.ty.written ++ x.name.name ∷ []

-- 8.4.5, and nothing before the name of a constructor
abbrev pub result_texts : JavaResult → Texts
result_texts java.Void = codes "void" ∷ []
result_texts (java.Gives t) = type_texts t.written
result_texts java.OfConstructor = []

-- 8.4.3.2
abbrev pub static_texts : Bool → Texts
static_texts true = codes "static" ∷ []
static_texts false = []

-- a constant's value; 0 has no sign
abbrev pub integer_texts : ℤ → Texts
integer_texts (pos n) = decimal n ∷ []
integer_texts (negsuc n) = codes "-" ∷ decimal (suc n) ∷ []

-- 8.3, 8.4, 8.8; a constant is of type `int` and static
abbrev pub member_texts : JavaMember → Texts
member_texts (FieldMember f) = type_texts f.ty.written ++ (separated (names_texts f.names) ++ codes ";" ∷ [])
member_texts (ConstantMember c) = codes "static" ∷ codes "int" ∷ c.name.name ∷ codes "=" ∷ integer_texts c.value ++ codes ";" ∷ []
member_texts (MethodMember m) =
    static_texts m.is_static
    ++ (result_texts m.result
    ++ (m.name.name ∷ codes "(" ∷ separated (map parameter_texts m.parameters) ++ (codes ")" ∷ codes "{" ∷ stmts_texts (java_stmts m.body) ++ codes "}" ∷ [])))

abbrev pub members_texts : List JavaMember → Texts
members_texts ms = flat_map member_texts ms

-- 8.1.4
abbrev pub parent_texts : Option PlainIdentifier → Texts
parent_texts None = []
parent_texts (Some x) = codes "extends" ∷ x.name ∷ []

-- 8.1
abbrev pub class_texts : JavaClass → Texts
class_texts c = codes "class" ∷ c.name.name ∷ parent_texts c.parent ++ (codes "{" ∷ members_texts c.members ++ codes "}" ∷ [])

abbrev pub classes_texts : List JavaClass → Texts
classes_texts cs = flat_map class_texts cs

-- 7.3
abbrev pub unit_texts : JavaUnit → Texts
unit_texts u = classes_texts u.classes

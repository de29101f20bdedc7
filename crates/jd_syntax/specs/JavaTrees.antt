-- Plain trees of Java, with their offsets, and their views.
use Rattle.std.specs.Prelude.{ℕ, ℤ, Bool, List, [], ◌∷◌, Option, map, option_map}
use Rattle.jd_syntax.specs.JavaTypes.{PlainIdentifier, identifier_view, PlainWritten, written_view}
use Rattle.jd_syntax.specs.SpecTrees.{PlainSpecBlock, spec_block_view}
use Rattle.jd_syntax.specs.declared.java.InfixOperator.{InfixOperator}
use Rattle.jd_syntax.specs.declared.java.PrefixOperator.{PrefixOperator}
use Rattle.jd_syntax.specs.declared.java.CountOperator.{CountOperator}
use Rattle.jd_syntax.specs.declared.java.AssignmentOperator.{AssignmentOperator}
use Rattle.jd_syntax.specs.declared.java.Expr.{Expr, Expr-F, fold-Expr}
use Rattle.jd_syntax.specs.declared.java.ExprForm.{ExprForm-F}
use Rattle.jd_syntax.specs.declared.java.ExprForm.TheOpen as layer
use Rattle.jd_syntax.specs.declared.java.Declarator.{Declarator}
use Rattle.jd_syntax.specs.declared.java.ForStart.{ForStart}
use Rattle.jd_syntax.specs.declared.java.ForStart.TheVariants as starts
use Rattle.jd_syntax.specs.declared.java.Stmt.{Stmt, Stmt-F, fold-Stmt}
use Rattle.jd_syntax.specs.declared.java.StmtForm.{StmtForm-F}
use Rattle.jd_syntax.specs.declared.java.StmtForm.TheOpen as stmt_layers
use Rattle.jd_syntax.specs.declared.java.Handler.{Handler-F}
use Rattle.jd_syntax.specs.declared.java.FieldDecl.{FieldDecl}
use Rattle.jd_syntax.specs.declared.java.ConstantDecl.{ConstantDecl}
use Rattle.jd_syntax.specs.declared.java.Parameter.{Parameter}
use Rattle.jd_syntax.specs.declared.java.ResultType.{ResultType}
use Rattle.jd_syntax.specs.declared.java.ResultType.TheVariants as results
use Rattle.jd_syntax.specs.declared.java.MethodDecl.{MethodDecl}
use Rattle.jd_syntax.specs.declared.java.Member.{Member}
use Rattle.jd_syntax.specs.declared.java.Member.TheVariants as members
use Rattle.jd_syntax.specs.declared.java.ClassDecl.{ClassDecl}
use Rattle.jd_syntax.specs.declared.java.Unit.{Unit as CodeUnit}

-- ---- expressions: the number is the offset of the first token

mutual
  pub data JavaExpr : Type 0 where
    Integer : ℕ → ℕ → JavaExpr
    Boolean : ℕ → Bool → JavaExpr
    Null : ℕ → JavaExpr
    This : ℕ → JavaExpr
    Name : ℕ → List ℕ → JavaExpr
    Field : ℕ → JavaExpr → PlainIdentifier → JavaExpr
    Parenthesized : ℕ → JavaExpr → JavaExpr
    Call : ℕ → List ℕ → JavaExprs → JavaExpr
    MethodCall : ℕ → JavaExpr → PlainIdentifier → JavaExprs → JavaExpr
    New : ℕ → PlainIdentifier → JavaExprs → JavaExpr
    NewArray : ℕ → JavaExpr → JavaExpr
    Index : ℕ → JavaExpr → JavaExpr → JavaExpr
    Prefix : ℕ → PrefixOperator → JavaExpr → JavaExpr
    Postfix : ℕ → CountOperator → JavaExpr → JavaExpr
    Cast : ℕ → PlainWritten → JavaExpr → JavaExpr
    Infix : ℕ → InfixOperator → JavaExpr → JavaExpr → JavaExpr
    InstanceOf : ℕ → JavaExpr → PlainWritten → JavaExpr
    Conditional : ℕ → JavaExpr → JavaExpr → JavaExpr → JavaExpr
    Assign : ℕ → AssignmentOperator → JavaExpr → JavaExpr → JavaExpr

  pub data JavaExprs : Type 0 where
    NoExprs : JavaExprs
    ExprThen : JavaExpr → JavaExprs → JavaExprs

abbrev pub java_exprs : List JavaExpr → JavaExprs
java_exprs [] = NoExprs
java_exprs (e ∷ es) = ExprThen e (java_exprs es)

-- a form awaits its offset
abbrev pub java_form_layer : ExprForm-F (ℕ → JavaExpr) JavaExpr → ℕ → JavaExpr
java_form_layer (layer.Integer n) at = Integer at n
java_form_layer (layer.Boolean b) at = Boolean at b
java_form_layer layer.Null at = Null at
java_form_layer layer.This at = This at
java_form_layer (layer.Name x) at = Name at x.items
java_form_layer (layer.Field e x) at = Field at e.value (identifier_view x)
java_form_layer (layer.Parenthesized e) at = Parenthesized at e.value
java_form_layer (layer.Call m es) at = Call at m.items (java_exprs es.items)
java_form_layer (layer.MethodCall e m es) at = MethodCall at e.value (identifier_view m) (java_exprs es.items)
java_form_layer (layer.New c es) at = New at (identifier_view c) (java_exprs es.items)
java_form_layer (layer.NewArray e) at = NewArray at e.value
java_form_layer (layer.Index a i) at = Index at a.value i.value
java_form_layer (layer.Prefix o e) at = Prefix at o e.value
java_form_layer (layer.Postfix o e) at = Postfix at o e.value
java_form_layer (layer.Cast t e) at = Cast at (written_view t) e.value
java_form_layer (layer.Infix o a b) at = Infix at o a.value b.value
java_form_layer (layer.InstanceOf e t) at = InstanceOf at e.value (written_view t)
java_form_layer (layer.Conditional c a b) at = Conditional at c.value a.value b.value
java_form_layer (layer.Assign o a b) at = Assign at o a.value b.value

abbrev pub java_layer : Expr-F (ℕ → JavaExpr) JavaExpr → JavaExpr
java_layer e = e.form e.at

abbrev pub java_view : Expr → JavaExpr
java_view = fold-Expr (ℕ → JavaExpr) JavaExpr java_form_layer java_layer

-- ---- declared names

pub record JavaDeclarator : Type 0 where
  pub name : PlainIdentifier
  pub value : Option JavaExpr

abbrev pub declarator_view : Declarator → JavaDeclarator
declarator_view d = record { name = identifier_view d.name; value = option_map java_view d.value }

pub data JavaForStart : Type 0 where
  Declared : PlainWritten → List JavaDeclarator → JavaForStart
  Evaluated : List JavaExpr → JavaForStart

abbrev pub for_start_view : ForStart → JavaForStart
for_start_view (starts.Declared t ds) = Declared (written_view t) (map declarator_view ds.items)
for_start_view (starts.Evaluated es) = Evaluated (map java_view es.items)

-- ---- statements

mutual
  pub data JavaStmt : Type 0 where
    Block : ℕ → JavaStmts → JavaStmt
    Empty : ℕ → JavaStmt
    Local : ℕ → PlainWritten → List JavaDeclarator → JavaStmt
    Evaluate : ℕ → JavaExpr → JavaStmt
    Label : ℕ → Option PlainSpecBlock → List ℕ → JavaStmt → JavaStmt
    If : ℕ → JavaExpr → JavaStmt → JavaStmt
    IfElse : ℕ → JavaExpr → JavaStmt → JavaStmt → JavaStmt
    While : ℕ → Option PlainSpecBlock → JavaExpr → JavaStmt → JavaStmt
    For : ℕ → Option PlainSpecBlock → JavaForStart → Option JavaExpr → List JavaExpr → JavaStmt → JavaStmt
    Break : ℕ → Option PlainIdentifier → JavaStmt
    Continue : ℕ → Option PlainIdentifier → JavaStmt
    Return : ℕ → Option JavaExpr → JavaStmt
    Throw : ℕ → JavaExpr → JavaStmt
    Try : ℕ → JavaStmts → JavaHandlers → JavaStmt
    TryFinally : ℕ → JavaStmts → JavaHandlers → JavaStmts → JavaStmt
    Super : ℕ → List JavaExpr → JavaStmt

  pub data JavaStmts : Type 0 where
    NoStmts : JavaStmts
    StmtThen : JavaStmt → JavaStmts → JavaStmts

  pub data JavaHandler : Type 0 where
    Catch : ℕ → PlainIdentifier → PlainIdentifier → JavaStmts → JavaHandler

  pub data JavaHandlers : Type 0 where
    NoHandlers : JavaHandlers
    HandlerThen : JavaHandler → JavaHandlers → JavaHandlers

abbrev pub java_stmts : List JavaStmt → JavaStmts
java_stmts [] = NoStmts
java_stmts (s ∷ ss) = StmtThen s (java_stmts ss)

abbrev pub java_handlers : List JavaHandler → JavaHandlers
java_handlers [] = NoHandlers
java_handlers (h ∷ hs) = HandlerThen h (java_handlers hs)

abbrev pub stmt_form_layer : StmtForm-F (ℕ → JavaStmt) JavaHandler JavaStmt → ℕ → JavaStmt
stmt_form_layer (stmt_layers.Block ss) at = Block at (java_stmts ss.items)
stmt_form_layer stmt_layers.Empty at = Empty at
stmt_form_layer (stmt_layers.Local t ds) at = Local at (written_view t) (map declarator_view ds.items)
stmt_form_layer (stmt_layers.Evaluate e) at = Evaluate at (java_view e)
stmt_form_layer (stmt_layers.Label j l s) at = Label at (option_map spec_block_view j) l.items s.value
stmt_form_layer (stmt_layers.If c s) at = If at (java_view c) s.value
stmt_form_layer (stmt_layers.IfElse c s t) at = IfElse at (java_view c) s.value t.value
stmt_form_layer (stmt_layers.While j c s) at = While at (option_map spec_block_view j) (java_view c) s.value
stmt_form_layer (stmt_layers.For j start c update s) at = For at (option_map spec_block_view j) (for_start_view start) (option_map java_view c) (map java_view update.items) s.value
stmt_form_layer (stmt_layers.Break l) at = Break at (option_map identifier_view l)
stmt_form_layer (stmt_layers.Continue l) at = Continue at (option_map identifier_view l)
stmt_form_layer (stmt_layers.Return e) at = Return at (option_map java_view e)
stmt_form_layer (stmt_layers.Throw e) at = Throw at (java_view e)
stmt_form_layer (stmt_layers.Try ss hs) at = Try at (java_stmts ss.items) (java_handlers hs.items)
stmt_form_layer (stmt_layers.TryFinally ss hs ts) at = TryFinally at (java_stmts ss.items) (java_handlers hs.items) (java_stmts ts.items)
stmt_form_layer (stmt_layers.Super es) at = Super at (map java_view es.items)

abbrev pub stmt_layer : Stmt-F (ℕ → JavaStmt) JavaHandler JavaStmt → JavaStmt
stmt_layer s = s.form s.at

abbrev pub handler_layer : Handler-F (ℕ → JavaStmt) JavaHandler JavaStmt → JavaHandler
handler_layer h = Catch h.at (identifier_view h.class) (identifier_view h.name) (java_stmts h.body.items)

abbrev pub java_stmt_view : Stmt → JavaStmt
java_stmt_view = fold-Stmt (ℕ → JavaStmt) JavaHandler JavaStmt stmt_form_layer handler_layer stmt_layer

-- ---- classes and their members

pub record JavaField : Type 0 where
  pub at : ℕ
  pub specs : List PlainSpecBlock
  pub ty : PlainWritten
  pub names : List PlainIdentifier

abbrev pub field_view : FieldDecl → JavaField
field_view f = record { at = f.at; specs = map spec_block_view f.specs.items; ty = written_view f.ty; names = map identifier_view f.names.items }

pub record JavaConstant : Type 0 where
  pub at : ℕ
  pub specs : List PlainSpecBlock
  pub name : PlainIdentifier
  pub value : ℤ

abbrev pub constant_view : ConstantDecl → JavaConstant
constant_view c = record { at = c.at; specs = map spec_block_view c.specs.items; name = identifier_view c.name; value = c.value }

pub record JavaParameter : Type 0 where
  pub at : ℕ
  pub specs : List PlainSpecBlock
  pub ty : PlainWritten
  pub name : PlainIdentifier

abbrev pub parameter_view : Parameter → JavaParameter
parameter_view x = record { at = x.at; specs = map spec_block_view x.specs.items; ty = written_view x.ty; name = identifier_view x.name }

pub data JavaResult : Type 0 where
  Void : JavaResult
  Gives : PlainWritten → JavaResult
  OfConstructor : JavaResult

abbrev pub result_view : ResultType → JavaResult
result_view results.Void = Void
result_view (results.Gives t) = Gives (written_view t)
result_view results.Constructor = OfConstructor

pub record JavaMethod : Type 0 where
  pub at : ℕ
  pub specs : List PlainSpecBlock
  pub is_static : Bool
  pub result : JavaResult
  pub name : PlainIdentifier
  pub parameters : List JavaParameter
  pub body : List JavaStmt

abbrev pub method_view : MethodDecl → JavaMethod
method_view m = record {
  at = m.at;
  specs = map spec_block_view m.specs.items;
  is_static = m.is_static;
  result = result_view m.result;
  name = identifier_view m.name;
  parameters = map parameter_view m.parameters.items;
  body = map java_stmt_view m.body.items;
}

pub data JavaMember : Type 0 where
  FieldMember : JavaField → JavaMember
  ConstantMember : JavaConstant → JavaMember
  MethodMember : JavaMethod → JavaMember

abbrev pub member_view : Member → JavaMember
member_view (members.Field f) = FieldMember (field_view f)
member_view (members.Constant c) = ConstantMember (constant_view c)
member_view (members.Method m) = MethodMember (method_view m)

pub record JavaClass : Type 0 where
  pub at : ℕ
  pub name : PlainIdentifier
  pub parent : Option PlainIdentifier
  pub members : List JavaMember
  pub end : Option PlainSpecBlock

abbrev pub class_view : ClassDecl → JavaClass
class_view c = record {
  at = c.at;
  name = identifier_view c.name;
  parent = option_map identifier_view c.parent;
  members = map member_view c.members.items;
  end = option_map spec_block_view c.end;
}

pub record JavaUnit : Type 0 where
  pub classes : List JavaClass

abbrev pub unit_view : CodeUnit → JavaUnit
unit_view u = record { classes = map class_view u.classes.items }

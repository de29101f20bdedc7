-- Worked examples, in a method `int t(int x, boolean p, A o, int[] a)` of the class B of
--
--     class A { int f; A n; static final int K = 7; A(int x) {} int m(int x) {..} static int s(int x) {..} void v() {} }
--     class B extends A { boolean b; B() { super(1); } }
--     class C extends B { }
use Rattle.std.specs.Prelude.{◌≡◌, ℕ, pos, negsuc, Bool, true, false, List, [], ◌∷◌, ◌||◌, ◌&&◌, nat_eq, nat_le, nat_lt, if◌then◌else◌, Option, Some, None, Result, Ok, Err, codes}
use Rattle.std.specs.Str.{bytes_eq}
use Rattle.jd_base.specs.declared.sort.Sort.TheVariants as sorts
use Rattle.jd_syntax.specs.JavaTypes.{PlainIdentifier, PlainType, PlainWritten, IntType, BooleanType, IntArrayType, NamedType}
use Rattle.jd_syntax.specs.JavaTrees.{JavaExpr, Integer, Boolean, Null, This, Name, Field, Parenthesized, Call, MethodCall, New, NewArray, Index, Prefix, Postfix, Cast, Infix, InstanceOf, Conditional, Assign, NoExprs, ExprThen, JavaDeclarator, Declared, Evaluated, Block, Empty, Local as Declaration, Evaluate, Label, If, IfElse, While, For, Break, Continue, Return, Throw, Try, TryFinally, Super, JavaStmts, NoStmts, StmtThen, Catch, NoHandlers, HandlerThen}
use Rattle.jd_syntax.specs.declared.java.InfixOperator.TheVariants as operators
use Rattle.jd_syntax.specs.declared.java.PrefixOperator.TheVariants as prefixes
use Rattle.jd_syntax.specs.declared.java.CountOperator.TheVariants as counts
use Rattle.jd_syntax.specs.declared.java.AssignmentOperator.TheVariants as assignments
use Rattle.jd_syntax.specs.declared.code.UnaryOp.TheVariants as unary
use Rattle.jd_syntax.specs.declared.code.BinaryOp.TheVariants as binary
use Rattle.jd_syntax.specs.Codes as code
use Rattle.jd_syntax.specs.Codes.{OfClass, IntArray, PlainCode, Done, Then}
use Rattle.jd_syntax.specs.Names as variables
use Rattle.jd_bodies.specs.declared.fault.Fault.{Fault}
use Rattle.jd_bodies.specs.declared.fault.Cause.{Cause}
use Rattle.jd_bodies.specs.declared.fault.Cause.TheVariants.{UnknownName, UnknownClass, UnknownMethod, TypeMismatch, WrongArity, BadTarget, BadLabel, Redeclared}
use Rattle.jd_bodies.specs.declared.value.ValueType.TheVariants as types
use Rattle.jd_bodies.specs.Bodies.{Lines, block_lines, no_exits, begun, code_in}
use Rattle.jd_bodies.specs.declared.place.Place.{Place}
use Rattle.jd_bodies.specs.declared.place.Returns.TheVariants.{Value}
use Rattle.jd_bodies.specs.declared.value.Variable.TheVariants as members
use Rattle.jd_bodies.specs.Declarations.{Declarations}
use Rattle.jd_bodies.specs.Scopes.{Local, Scope}
use Rattle.jd_bodies.specs.Statements.{stmts}
use Rattle.jd_bodies.specs.Variables.{Progress, with_local}

-- ---- the program

abbrev pub numbers : List (List ℕ × ℕ) → List ℕ → Option ℕ
numbers [] x = None
numbers (n ∷ ns) x = if bytes_eq n.0 x then Some n.1 else numbers ns x

-- which classes extend which: A has the number 10, B 11, C 12
abbrev pub extends : ℕ → ℕ → Bool
extends a b = nat_eq a b || nat_eq b 0 || nat_eq a 2 && nat_eq b 1 || nat_le 10 b && nat_le b a

abbrev pub declarations : Declarations
declarations = record {
  class_named = numbers ((codes "Object", 0) ∷ (codes "Throwable", 1) ∷ (codes "Exception", 2) ∷ (codes "A", 10) ∷ (codes "B", 11) ∷ (codes "C", 12) ∷ []);
  parent = λ c. if nat_eq c 0 then None else if nat_eq c 2 then Some 1 else if nat_eq c 11 then Some 10 else if nat_eq c 12 then Some 11 else Some 0;
  is_subclass = extends;
  joined = λ a b. if extends a b then b else if extends b a then a else 0;
  variable = λ c x.
      if nat_lt c 10 then None
      else if bytes_eq x (codes "f") then Some (members.Field 0 types.Int)
      else if bytes_eq x (codes "n") then Some (members.Field 1 (types.Class 10))
      else if bytes_eq x (codes "K") then Some (members.Constant (pos 7))
      else if bytes_eq x (codes "b") && nat_lt 10 c then Some (members.Field 2 types.Boolean)
      else None;
  method = λ c x. if nat_lt c 10 then None else numbers ((codes "m", 1) ∷ (codes "s", 2) ∷ (codes "v", 3) ∷ []) x;
  constructor = λ c. if nat_lt c 10 then None else if nat_eq c 10 then Some 0 else Some 4;
  signature = λ m.
      if nat_eq m 0 then record { class = 10; static = false; parameters = types.Int ∷ []; result = None }
      else if nat_eq m 1 then record { class = 10; static = false; parameters = types.Int ∷ []; result = Some types.Int }
      else if nat_eq m 2 then record { class = 10; static = true; parameters = types.Int ∷ []; result = Some types.Int }
      else if nat_eq m 3 then record { class = 10; static = false; parameters = []; result = None }
      else record { class = 11; static = false; parameters = []; result = None };
}

abbrev pub locals : List Local
locals =
    record { name = codes "a"; type = types.IntArray }
    ∷ record { name = codes "o"; type = types.Class 10 }
    ∷ record { name = codes "p"; type = types.Boolean }
    ∷ record { name = codes "x"; type = types.Int }
    ∷ []

abbrev pub scope : Scope
scope = record { locals = locals; labels = []; in_loop = false }

abbrev pub place : Bool → Place
place static = record { class = 11; is_static = static }

abbrev pub at_first : Progress
at_first = with_local (codes "a") types.IntArray (with_local (codes "o") (types.Class 10) (with_local (codes "p") types.Boolean (with_local (codes "x") types.Int (begun (place false)))))

-- ---- what is said of statements

-- they stand for this code
abbrev pub StandFor : JavaStmts → PlainCode → Type 0
StandFor ss c = code_in (block_lines declarations (place false) ss no_exits locals at_first) ≡ c

-- this token is refused first, in a method that is static or not
abbrev pub IsRefused : Bool → JavaStmts → ℕ → Cause → Type 0
IsRefused static ss at cause = stmts declarations (place static) (Value types.Int) ss scope ≡ Err (record { at = at; cause = cause })

-- none is, and these locals are in scope behind them
abbrev pub IsTaken : Bool → JavaStmts → List Local → Type 0
IsTaken static ss ls = stmts declarations (place static) (Value types.Int) ss scope ≡ Ok (record scope { locals = ls })

-- ---- parts of trees

abbrev pub ident : ℕ → List ℕ → PlainIdentifier
ident at name = record { at = at; name = name }

abbrev pub written : ℕ → PlainType → PlainWritten
written at t = record { at = at; written = t }

abbrev pub local : PlainIdentifier → Option JavaExpr → JavaDeclarator
local x e = record { name = x; value = e }

abbrev pub i : List ℕ → variables.Name
i text = record { text = text; sort = sorts.Int }

abbrev pub b : List ℕ → variables.Name
b text = record { text = text; sort = sorts.Bool }

abbrev pub r : List ℕ → variables.Name
r text = record { text = text; sort = sorts.Ref }

pub record FaultExamples : Type 0 where
  -- `y = 1;`
  pub unknown_target : IsRefused false (StmtThen (Evaluate 0 (Assign 0 assignments.Set (Name 0 (codes "y")) (Integer 4 1))) NoStmts) 0 UnknownName
  -- `x = y;`
  pub unknown_value : IsRefused false (StmtThen (Evaluate 0 (Assign 0 assignments.Set (Name 0 (codes "x")) (Name 4 (codes "y")))) NoStmts) 4 UnknownName
  -- `x = true;`
  pub boolean_for_int : IsRefused false (StmtThen (Evaluate 0 (Assign 0 assignments.Set (Name 0 (codes "x")) (Boolean 4 true))) NoStmts) 4 TypeMismatch
  -- `x = o;`
  pub reference_for_int : IsRefused false (StmtThen (Evaluate 0 (Assign 0 assignments.Set (Name 0 (codes "x")) (Name 4 (codes "o")))) NoStmts) 4 TypeMismatch
  -- `B b = o;`
  pub above_for_below : IsRefused false (StmtThen (Declaration 0 (written 0 (NamedType (codes "B"))) ((local (ident 2 (codes "b")) (Some (Name 6 (codes "o")))) ∷ [])) NoStmts) 6 TypeMismatch
  -- `A q = this;`
  pub below_for_above : IsTaken false (StmtThen (Declaration 0 (written 0 (NamedType (codes "A"))) ((local (ident 2 (codes "q")) (Some (This 6))) ∷ [])) NoStmts) (record { name = codes "q"; type = types.Class 10 } ∷ locals)
  -- `o = new A();`
  pub too_few : IsRefused false (StmtThen (Evaluate 0 (Assign 0 assignments.Set (Name 0 (codes "o")) (New 4 (ident 8 (codes "A")) NoExprs))) NoStmts) 8 WrongArity
  -- `o = new A(true);`
  pub argument_of_another_type : IsRefused false (StmtThen (Evaluate 0 (Assign 0 assignments.Set (Name 0 (codes "o")) (New 4 (ident 8 (codes "A")) (ExprThen (Boolean 10 true) NoExprs)))) NoStmts) 10 TypeMismatch
  -- `o = new Q(z);`
  pub unknown_class_first : IsRefused false (StmtThen (Evaluate 0 (Assign 0 assignments.Set (Name 0 (codes "o")) (New 4 (ident 8 (codes "Q")) (ExprThen (Name 10 (codes "z")) NoExprs)))) NoStmts) 8 UnknownClass
  -- `o = new C();`
  pub inherited_without_parameters : IsTaken false (StmtThen (Evaluate 0 (Assign 0 assignments.Set (Name 0 (codes "o")) (New 4 (ident 8 (codes "C")) NoExprs))) NoStmts) locals
  -- `x = o.g;`
  pub unknown_field : IsRefused false (StmtThen (Evaluate 0 (Assign 0 assignments.Set (Name 0 (codes "x")) (Field 4 (Name 4 (codes "o")) (ident 6 (codes "g"))))) NoStmts) 6 UnknownName
  -- `x = o.w();`
  pub unknown_method : IsRefused false (StmtThen (Evaluate 0 (Assign 0 assignments.Set (Name 0 (codes "x")) (MethodCall 4 (Name 4 (codes "o")) (ident 6 (codes "w")) NoExprs))) NoStmts) 6 UnknownMethod
  -- `x = w(z);`
  pub part_first : IsRefused false (StmtThen (Evaluate 0 (Assign 0 assignments.Set (Name 0 (codes "x")) (Call 4 (codes "w") (ExprThen (Name 6 (codes "z")) NoExprs)))) NoStmts) 6 UnknownName
  -- `x = 1 + v();`
  pub void_as_operand : IsRefused false (StmtThen (Evaluate 0 (Assign 0 assignments.Set (Name 0 (codes "x")) (Infix 4 operators.Add (Integer 4 1) (Call 8 (codes "v") NoExprs)))) NoStmts) 8 TypeMismatch
  -- `x = (v());`
  pub void_in_parentheses : IsRefused false (StmtThen (Evaluate 0 (Assign 0 assignments.Set (Name 0 (codes "x")) (Parenthesized 4 (Call 5 (codes "v") NoExprs)))) NoStmts) 5 TypeMismatch
  -- `v();`
  pub void_as_statement : IsTaken false (StmtThen (Evaluate 0 (Call 0 (codes "v") NoExprs)) NoStmts) locals
  -- `K = 1;`
  pub constant_assigned : IsRefused false (StmtThen (Evaluate 0 (Assign 0 assignments.Set (Name 0 (codes "K")) (Integer 4 1))) NoStmts) 0 BadTarget
  -- `a.length = 1;`
  pub length_assigned : IsRefused false (StmtThen (Evaluate 0 (Assign 0 assignments.Set (Field 0 (Name 0 (codes "a")) (ident 2 (codes "length"))) (Integer 11 1))) NoStmts) 2 BadTarget
  -- `this = o;`
  pub this_assigned : IsRefused false (StmtThen (Evaluate 0 (Assign 0 assignments.Set (This 0) (Name 7 (codes "o")))) NoStmts) 0 BadTarget
  -- `A.K++;`
  pub constant_counted : IsRefused false (StmtThen (Evaluate 0 (Postfix 0 counts.Increment (Field 0 (Name 0 (codes "A")) (ident 2 (codes "K"))))) NoStmts) 2 BadTarget
  -- `x = A.f;`
  pub no_static_member : IsRefused false (StmtThen (Evaluate 0 (Assign 0 assignments.Set (Name 0 (codes "x")) (Field 4 (Name 4 (codes "A")) (ident 6 (codes "f"))))) NoStmts) 6 UnknownName
  -- `A.m(1);`
  pub no_static_method : IsRefused false (StmtThen (Evaluate 0 (MethodCall 0 (Name 0 (codes "A")) (ident 2 (codes "m")) (ExprThen (Integer 4 1) NoExprs))) NoStmts) 2 UnknownMethod
  -- `x = null[0];`
  pub null_indexed : IsRefused false (StmtThen (Evaluate 0 (Assign 0 assignments.Set (Name 0 (codes "x")) (Index 4 (Null 4) (Integer 9 0)))) NoStmts) 4 TypeMismatch
  -- `x = a[p];`
  pub index_of_another_type : IsRefused false (StmtThen (Evaluate 0 (Assign 0 assignments.Set (Name 0 (codes "x")) (Index 4 (Name 4 (codes "a")) (Name 6 (codes "p"))))) NoStmts) 6 TypeMismatch
  -- `x = p + o;`
  pub both_operands : IsRefused false (StmtThen (Evaluate 0 (Assign 0 assignments.Set (Name 0 (codes "x")) (Infix 4 operators.Add (Name 4 (codes "p")) (Name 8 (codes "o"))))) NoStmts) 4 TypeMismatch
  -- `x = x + o;`
  pub second_operand : IsRefused false (StmtThen (Evaluate 0 (Assign 0 assignments.Set (Name 0 (codes "x")) (Infix 4 operators.Add (Name 4 (codes "x")) (Name 8 (codes "o"))))) NoStmts) 8 TypeMismatch
  -- `p = x == o;`
  pub compared : IsRefused false (StmtThen (Evaluate 0 (Assign 0 assignments.Set (Name 0 (codes "p")) (Infix 4 operators.Equal (Name 4 (codes "x")) (Name 9 (codes "o"))))) NoStmts) 4 TypeMismatch
  -- `p = this == o;`
  pub compared_references : IsTaken false (StmtThen (Evaluate 0 (Assign 0 assignments.Set (Name 0 (codes "p")) (Infix 4 operators.Equal (This 4) (Name 12 (codes "o"))))) NoStmts) locals
  -- `p = a == null;`
  pub compared_with_null : IsTaken false (StmtThen (Evaluate 0 (Assign 0 assignments.Set (Name 0 (codes "p")) (Infix 4 operators.Equal (Name 4 (codes "a")) (Null 9)))) NoStmts) locals
  -- `a = (int[]) o;`
  pub unrelated_cast : IsRefused false (StmtThen (Evaluate 0 (Assign 0 assignments.Set (Name 0 (codes "a")) (Cast 4 (written 5 IntArrayType) (Name 12 (codes "o"))))) NoStmts) 4 TypeMismatch
  -- `o = (Q) o;`
  pub unknown_cast : IsRefused false (StmtThen (Evaluate 0 (Assign 0 assignments.Set (Name 0 (codes "o")) (Cast 4 (written 5 (NamedType (codes "Q"))) (Name 8 (codes "o"))))) NoStmts) 5 UnknownClass
  -- `o = (A) x;`
  pub cast_of_an_int : IsRefused false (StmtThen (Evaluate 0 (Assign 0 assignments.Set (Name 0 (codes "o")) (Cast 4 (written 5 (NamedType (codes "A"))) (Name 8 (codes "x"))))) NoStmts) 4 TypeMismatch
  -- `x = p ? 1 : true;`
  pub unlike_branches : IsRefused false (StmtThen (Evaluate 0 (Assign 0 assignments.Set (Name 0 (codes "x")) (Conditional 4 (Name 4 (codes "p")) (Integer 8 1) (Boolean 12 true)))) NoStmts) 4 TypeMismatch
  -- `if (x) ;`
  pub no_condition : IsRefused false (StmtThen (If 0 (Name 4 (codes "x")) (Empty 7)) NoStmts) 4 TypeMismatch
  -- `break;`
  pub no_loop : IsRefused false (StmtThen (Break 0 None) NoStmts) 0 BadLabel
  -- `while (p) break q;`
  pub no_label : IsRefused false (StmtThen (While 0 None (Name 7 (codes "p")) (Break 10 (Some (ident 16 (codes "q"))))) NoStmts) 10 BadLabel
  -- `q: { while (p) continue q; }`
  pub label_of_no_loop : IsRefused false (StmtThen (Label 0 None (codes "q") (Block 3 (StmtThen (While 5 None (Name 12 (codes "p")) (Continue 15 (Some (ident 24 (codes "q"))))) NoStmts))) NoStmts) 15 BadLabel
  -- `q: while (p) continue q;`
  pub label_of_a_loop : IsTaken false (StmtThen (Label 0 None (codes "q") (While 3 None (Name 10 (codes "p")) (Continue 13 (Some (ident 22 (codes "q")))))) NoStmts) locals
  -- `int x;`
  pub named_as_a_parameter : IsRefused false (StmtThen (Declaration 0 (written 0 IntType) ((local (ident 4 (codes "x")) None) ∷ [])) NoStmts) 4 Redeclared
  -- `int y; { int y; }`
  pub named_as_a_local_around : IsRefused false (StmtThen (Declaration 0 (written 0 IntType) ((local (ident 4 (codes "y")) None) ∷ [])) (StmtThen (Block 7 (StmtThen (Declaration 9 (written 9 IntType) ((local (ident 13 (codes "y")) None) ∷ [])) NoStmts)) NoStmts)) 13 Redeclared
  -- `{ int y; } int y;`
  pub named_as_one_before : IsTaken false (StmtThen (Block 0 (StmtThen (Declaration 2 (written 2 IntType) ((local (ident 6 (codes "y")) None) ∷ [])) NoStmts)) (StmtThen (Declaration 11 (written 11 IntType) ((local (ident 15 (codes "y")) None) ∷ [])) NoStmts)) (record { name = codes "y"; type = types.Int } ∷ locals)
  -- `{ int y; } y = 1;`
  pub out_of_scope : IsRefused false (StmtThen (Block 0 (StmtThen (Declaration 2 (written 2 IntType) ((local (ident 6 (codes "y")) None) ∷ [])) NoStmts)) (StmtThen (Evaluate 11 (Assign 11 assignments.Set (Name 11 (codes "y")) (Integer 15 1))) NoStmts)) 11 UnknownName
  -- `int y = y;`
  pub in_its_own_value : IsTaken false (StmtThen (Declaration 0 (written 0 IntType) ((local (ident 4 (codes "y")) (Some (Name 8 (codes "y")))) ∷ [])) NoStmts) (record { name = codes "y"; type = types.Int } ∷ locals)
  -- `for (int i = 0; i < 1; i++) x = i; i = 1;`
  pub scope_of_a_for : IsRefused false (StmtThen (For 0 None (Declared (written 5 IntType) ((local (ident 9 (codes "i")) (Some (Integer 13 0))) ∷ [])) (Some (Infix 16 operators.Less (Name 16 (codes "i")) (Integer 20 1))) ((Postfix 23 counts.Increment (Name 23 (codes "i"))) ∷ []) (Evaluate 28 (Assign 28 assignments.Set (Name 28 (codes "x")) (Name 32 (codes "i"))))) (StmtThen (Evaluate 35 (Assign 35 assignments.Set (Name 35 (codes "i")) (Integer 39 1))) NoStmts)) 35 UnknownName
  -- `return;`
  pub nothing_returned : IsRefused false (StmtThen (Return 0 None) NoStmts) 0 TypeMismatch
  -- `return true;`
  pub another_type_returned : IsRefused false (StmtThen (Return 0 (Some (Boolean 7 true))) NoStmts) 7 TypeMismatch
  -- `throw o;`
  pub no_throwable : IsRefused false (StmtThen (Throw 0 (Name 6 (codes "o"))) NoStmts) 6 TypeMismatch
  -- `try { } catch (A e) { }`
  pub no_throwable_caught : IsRefused false (StmtThen (Try 0 NoStmts (HandlerThen (Catch 8 (ident 15 (codes "A")) (ident 17 (codes "e")) NoStmts) NoHandlers)) NoStmts) 15 TypeMismatch
  -- `try { } catch (Q e) { }`
  pub unknown_class_caught : IsRefused false (StmtThen (Try 0 NoStmts (HandlerThen (Catch 8 (ident 15 (codes "Q")) (ident 17 (codes "e")) NoStmts) NoHandlers)) NoStmts) 15 UnknownClass
  -- `try { } catch (Exception x) { }`
  pub caught_as_a_parameter : IsRefused false (StmtThen (Try 0 NoStmts (HandlerThen (Catch 8 (ident 15 (codes "Exception")) (ident 25 (codes "x")) NoStmts) NoHandlers)) NoStmts) 25 Redeclared
  -- `f = 1;`
  pub static_field : IsRefused true (StmtThen (Evaluate 0 (Assign 0 assignments.Set (Name 0 (codes "f")) (Integer 4 1))) NoStmts) 0 BadTarget
  -- `m(1);`
  pub static_call_of_another : IsRefused true (StmtThen (Evaluate 0 (Call 0 (codes "m") (ExprThen (Integer 2 1) NoExprs))) NoStmts) 0 BadTarget
  -- `m();`
  pub static_call_with_less : IsRefused true (StmtThen (Evaluate 0 (Call 0 (codes "m") NoExprs)) NoStmts) 0 WrongArity
  -- `o = this;`
  pub static_this : IsRefused true (StmtThen (Evaluate 0 (Assign 0 assignments.Set (Name 0 (codes "o")) (This 4))) NoStmts) 4 BadTarget
  -- `x = s(1);`
  pub static_in_static : IsTaken true (StmtThen (Evaluate 0 (Assign 0 assignments.Set (Name 0 (codes "x")) (Call 4 (codes "s") (ExprThen (Integer 6 1) NoExprs)))) NoStmts) locals
  -- `x = true; y = 1;`
  pub first_of_two : IsRefused false (StmtThen (Evaluate 0 (Assign 0 assignments.Set (Name 0 (codes "x")) (Boolean 4 true))) (StmtThen (Evaluate 10 (Assign 10 assignments.Set (Name 10 (codes "y")) (Integer 14 1))) NoStmts)) 4 TypeMismatch
  -- `x = (y + z) + true;`
  pub in_an_earlier_part : IsRefused false (StmtThen (Evaluate 0 (Assign 0 assignments.Set (Name 0 (codes "x")) (Infix 4 operators.Add (Parenthesized 4 (Infix 5 operators.Add (Name 5 (codes "y")) (Name 9 (codes "z")))) (Boolean 14 true)))) NoStmts) 5 UnknownName

pub record CodeExamples : Type 0 where
  -- `x = 3;` is `(set x 3)`
  pub a_local : StandFor (StmtThen (Evaluate 0 (Assign 0 assignments.Set (Name 0 (codes "x")) (Integer 4 3))) NoStmts) (Then (code.Set (i (codes "x")) (code.IntLiteral (pos 3))) Done)
  -- `o.f = x;` is `(put o A.f x)`
  pub a_field : StandFor (StmtThen (Evaluate 0 (Assign 0 assignments.Set (Field 0 (Name 0 (codes "o")) (ident 2 (codes "f"))) (Name 6 (codes "x")))) NoStmts) (Then (code.WriteField (code.Variable (r (codes "o"))) 0 (code.Variable (i (codes "x")))) Done)
  -- `f = x;` is `(put this A.f x)`
  pub an_own_field : StandFor (StmtThen (Evaluate 0 (Assign 0 assignments.Set (Name 0 (codes "f")) (Name 4 (codes "x")))) NoStmts) (Then (code.WriteField (code.Variable (r (codes "this"))) 0 (code.Variable (i (codes "x")))) Done)
  -- `a[x] = 1;` is `(aput a x 1)`
  pub an_element : StandFor (StmtThen (Evaluate 0 (Assign 0 assignments.Set (Index 0 (Name 0 (codes "a")) (Name 2 (codes "x"))) (Integer 7 1))) NoStmts) (Then (code.WriteElement (code.Variable (r (codes "a"))) (code.Variable (i (codes "x"))) (code.IntLiteral (pos 1))) Done)
  -- `(x) = 3;` is `(set x 3)`
  pub in_parentheses : StandFor (StmtThen (Evaluate 0 (Assign 0 assignments.Set (Parenthesized 0 (Name 1 (codes "x"))) (Integer 6 3))) NoStmts) (Then (code.Set (i (codes "x")) (code.IntLiteral (pos 3))) Done)
  -- `x += 2;` is `(set x (add x 2))`
  pub changed_local : StandFor (StmtThen (Evaluate 0 (Assign 0 assignments.Add (Name 0 (codes "x")) (Integer 5 2))) NoStmts) (Then (code.Set (i (codes "x")) (code.Binary binary.Add (code.Variable (i (codes "x"))) (code.IntLiteral (pos 2)))) Done)
  -- `o.f += x;` is `(set '1 o) (set '2 (get '1 A.f)) (put '1 A.f (add '2 x))`
  pub changed_field : StandFor (StmtThen (Evaluate 0 (Assign 0 assignments.Add (Field 0 (Name 0 (codes "o")) (ident 2 (codes "f"))) (Name 7 (codes "x")))) NoStmts) (Then (code.Set (r (codes "'1")) (code.Variable (r (codes "o")))) (Then (code.Set (i (codes "'2")) (code.ReadField (code.Variable (r (codes "'1"))) 0)) (Then (code.WriteField (code.Variable (r (codes "'1"))) 0 (code.Binary binary.Add (code.Variable (i (codes "'2"))) (code.Variable (i (codes "x"))))) Done)))
  -- `a[x] -= 1;` is `(set '1 a) (set '2 x) (set '3 (aget '1 '2)) (aput '1 '2 (sub '3 1))`
  pub changed_element : StandFor (StmtThen (Evaluate 0 (Assign 0 assignments.Subtract (Index 0 (Name 0 (codes "a")) (Name 2 (codes "x"))) (Integer 8 1))) NoStmts) (Then (code.Set (r (codes "'1")) (code.Variable (r (codes "a")))) (Then (code.Set (i (codes "'2")) (code.Variable (i (codes "x")))) (Then (code.Set (i (codes "'3")) (code.ReadElement (code.Variable (r (codes "'1"))) (code.Variable (i (codes "'2"))))) (Then (code.WriteElement (code.Variable (r (codes "'1"))) (code.Variable (i (codes "'2"))) (code.Binary binary.Subtract (code.Variable (i (codes "'3"))) (code.IntLiteral (pos 1)))) Done))))
  -- `x = x = 4;` is `(set x (do ((set '1 4) (set x '1)) '1))`
  pub local_as_value : StandFor (StmtThen (Evaluate 0 (Assign 0 assignments.Set (Name 0 (codes "x")) (Assign 4 assignments.Set (Name 4 (codes "x")) (Integer 8 4)))) NoStmts) (Then (code.Set (i (codes "x")) (code.DoThen (Then (code.Set (i (codes "'1")) (code.IntLiteral (pos 4))) (Then (code.Set (i (codes "x")) (code.Variable (i (codes "'1")))) Done)) (code.Variable (i (codes "'1"))))) Done)
  -- `x = o.f = 5;` is `(set x (do ((set '1 o) (set '2 5) (put '1 A.f '2)) '2))`
  pub field_as_value : StandFor (StmtThen (Evaluate 0 (Assign 0 assignments.Set (Name 0 (codes "x")) (Assign 4 assignments.Set (Field 4 (Name 4 (codes "o")) (ident 6 (codes "f"))) (Integer 10 5)))) NoStmts) (Then (code.Set (i (codes "x")) (code.DoThen (Then (code.Set (r (codes "'1")) (code.Variable (r (codes "o")))) (Then (code.Set (i (codes "'2")) (code.IntLiteral (pos 5))) (Then (code.WriteField (code.Variable (r (codes "'1"))) 0 (code.Variable (i (codes "'2")))) Done))) (code.Variable (i (codes "'2"))))) Done)
  -- `x = a[0] = 5;` is `(set x (do ((set '1 a) (set '2 0) (set '3 5) (aput '1 '2 '3)) '3))`
  pub element_as_value : StandFor (StmtThen (Evaluate 0 (Assign 0 assignments.Set (Name 0 (codes "x")) (Assign 4 assignments.Set (Index 4 (Name 4 (codes "a")) (Integer 6 0)) (Integer 11 5)))) NoStmts) (Then (code.Set (i (codes "x")) (code.DoThen (Then (code.Set (r (codes "'1")) (code.Variable (r (codes "a")))) (Then (code.Set (i (codes "'2")) (code.IntLiteral (pos 0))) (Then (code.Set (i (codes "'3")) (code.IntLiteral (pos 5))) (Then (code.WriteElement (code.Variable (r (codes "'1"))) (code.Variable (i (codes "'2"))) (code.Variable (i (codes "'3")))) Done)))) (code.Variable (i (codes "'3"))))) Done)
  -- `x = x += 6;` is `(set x (do ((set '1 (add x 6)) (set x '1)) '1))`
  pub changed_local_as_value : StandFor (StmtThen (Evaluate 0 (Assign 0 assignments.Set (Name 0 (codes "x")) (Assign 4 assignments.Add (Name 4 (codes "x")) (Integer 9 6)))) NoStmts) (Then (code.Set (i (codes "x")) (code.DoThen (Then (code.Set (i (codes "'1")) (code.Binary binary.Add (code.Variable (i (codes "x"))) (code.IntLiteral (pos 6)))) (Then (code.Set (i (codes "x")) (code.Variable (i (codes "'1")))) Done)) (code.Variable (i (codes "'1"))))) Done)
  -- `x = o.f += 6;` is `(set x (do ((set '1 o) (set '2 (get '1 A.f)) (set '3 (add '2 6)) (put '1 A.f '3)) '3))`
  pub changed_field_as_value : StandFor (StmtThen (Evaluate 0 (Assign 0 assignments.Set (Name 0 (codes "x")) (Assign 4 assignments.Add (Field 4 (Name 4 (codes "o")) (ident 6 (codes "f"))) (Integer 11 6)))) NoStmts) (Then (code.Set (i (codes "x")) (code.DoThen (Then (code.Set (r (codes "'1")) (code.Variable (r (codes "o")))) (Then (code.Set (i (codes "'2")) (code.ReadField (code.Variable (r (codes "'1"))) 0)) (Then (code.Set (i (codes "'3")) (code.Binary binary.Add (code.Variable (i (codes "'2"))) (code.IntLiteral (pos 6)))) (Then (code.WriteField (code.Variable (r (codes "'1"))) 0 (code.Variable (i (codes "'3")))) Done)))) (code.Variable (i (codes "'3"))))) Done)
  -- `x = a[0] *= 6;` is `(set x (do ((set '1 a) (set '2 0) (set '3 (aget '1 '2)) (set '4 (mul '3 6)) (aput '1 '2 '4)) '4))`
  pub changed_element_as_value : StandFor (StmtThen (Evaluate 0 (Assign 0 assignments.Set (Name 0 (codes "x")) (Assign 4 assignments.Multiply (Index 4 (Name 4 (codes "a")) (Integer 6 0)) (Integer 12 6)))) NoStmts) (Then (code.Set (i (codes "x")) (code.DoThen (Then (code.Set (r (codes "'1")) (code.Variable (r (codes "a")))) (Then (code.Set (i (codes "'2")) (code.IntLiteral (pos 0))) (Then (code.Set (i (codes "'3")) (code.ReadElement (code.Variable (r (codes "'1"))) (code.Variable (i (codes "'2"))))) (Then (code.Set (i (codes "'4")) (code.Binary binary.Multiply (code.Variable (i (codes "'3"))) (code.IntLiteral (pos 6)))) (Then (code.WriteElement (code.Variable (r (codes "'1"))) (code.Variable (i (codes "'2"))) (code.Variable (i (codes "'4")))) Done))))) (code.Variable (i (codes "'4"))))) Done)
  -- `x++;` is `(set x (add x 1))`
  pub counted : StandFor (StmtThen (Evaluate 0 (Postfix 0 counts.Increment (Name 0 (codes "x")))) NoStmts) (Then (code.Set (i (codes "x")) (code.Binary binary.Add (code.Variable (i (codes "x"))) (code.IntLiteral (pos 1)))) Done)
  -- `x = x++;` is `(set x (do ((set '1 x) (set x (add x 1))) '1))`
  pub counted_before : StandFor (StmtThen (Evaluate 0 (Assign 0 assignments.Set (Name 0 (codes "x")) (Postfix 4 counts.Increment (Name 4 (codes "x"))))) NoStmts) (Then (code.Set (i (codes "x")) (code.DoThen (Then (code.Set (i (codes "'1")) (code.Variable (i (codes "x")))) (Then (code.Set (i (codes "x")) (code.Binary binary.Add (code.Variable (i (codes "x"))) (code.IntLiteral (pos 1)))) Done)) (code.Variable (i (codes "'1"))))) Done)
  -- `x = --o.f;` is `(set x (do ((set '1 o) (set '2 (get '1 A.f)) (set '3 (sub '2 1)) (put '1 A.f '3)) '3))`
  pub counted_field : StandFor (StmtThen (Evaluate 0 (Assign 0 assignments.Set (Name 0 (codes "x")) (Prefix 4 (prefixes.Count counts.Decrement) (Field 6 (Name 6 (codes "o")) (ident 8 (codes "f")))))) NoStmts) (Then (code.Set (i (codes "x")) (code.DoThen (Then (code.Set (r (codes "'1")) (code.Variable (r (codes "o")))) (Then (code.Set (i (codes "'2")) (code.ReadField (code.Variable (r (codes "'1"))) 0)) (Then (code.Set (i (codes "'3")) (code.Binary binary.Subtract (code.Variable (i (codes "'2"))) (code.IntLiteral (pos 1)))) (Then (code.WriteField (code.Variable (r (codes "'1"))) 0 (code.Variable (i (codes "'3")))) Done)))) (code.Variable (i (codes "'3"))))) Done)
  -- `x = o.f--;` is `(set x (do ((set '1 o) (set '2 (get '1 A.f)) (put '1 A.f (sub '2 1))) '2))`
  pub counted_field_before : StandFor (StmtThen (Evaluate 0 (Assign 0 assignments.Set (Name 0 (codes "x")) (Postfix 4 counts.Decrement (Field 4 (Name 4 (codes "o")) (ident 6 (codes "f")))))) NoStmts) (Then (code.Set (i (codes "x")) (code.DoThen (Then (code.Set (r (codes "'1")) (code.Variable (r (codes "o")))) (Then (code.Set (i (codes "'2")) (code.ReadField (code.Variable (r (codes "'1"))) 0)) (Then (code.WriteField (code.Variable (r (codes "'1"))) 0 (code.Binary binary.Subtract (code.Variable (i (codes "'2"))) (code.IntLiteral (pos 1)))) Done))) (code.Variable (i (codes "'2"))))) Done)
  -- `x = a[1]++;` is `(set x (do ((set '1 a) (set '2 1) (set '3 (aget '1 '2)) (aput '1 '2 (add '3 1))) '3))`
  pub counted_element_before : StandFor (StmtThen (Evaluate 0 (Assign 0 assignments.Set (Name 0 (codes "x")) (Postfix 4 counts.Increment (Index 4 (Name 4 (codes "a")) (Integer 6 1))))) NoStmts) (Then (code.Set (i (codes "x")) (code.DoThen (Then (code.Set (r (codes "'1")) (code.Variable (r (codes "a")))) (Then (code.Set (i (codes "'2")) (code.IntLiteral (pos 1))) (Then (code.Set (i (codes "'3")) (code.ReadElement (code.Variable (r (codes "'1"))) (code.Variable (i (codes "'2"))))) (Then (code.WriteElement (code.Variable (r (codes "'1"))) (code.Variable (i (codes "'2"))) (code.Binary binary.Add (code.Variable (i (codes "'3"))) (code.IntLiteral (pos 1)))) Done)))) (code.Variable (i (codes "'3"))))) Done)
  -- `o = new A(x);` is `(set o (do ((set '1 x) (alloc '2 A) (eval (ctor A '2 '1))) '2))`
  pub an_object : StandFor (StmtThen (Evaluate 0 (Assign 0 assignments.Set (Name 0 (codes "o")) (New 4 (ident 8 (codes "A")) (ExprThen (Name 10 (codes "x")) NoExprs)))) NoStmts) (Then (code.Set (r (codes "o")) (code.DoThen (Then (code.Set (i (codes "'1")) (code.Variable (i (codes "x")))) (Then (code.AllocObject (r (codes "'2")) 10) (Then (code.Evaluate (code.ConstructorCall 0 (code.Variable (r (codes "'2"))) (code.ExprThen (code.Variable (i (codes "'1"))) code.NoExprs))) Done))) (code.Variable (r (codes "'2"))))) Done)
  -- `o = new C();` is `(set o (do ((alloc '1 C) (eval (ctor B '1))) '1))`
  pub of_an_inherited_constructor : StandFor (StmtThen (Evaluate 0 (Assign 0 assignments.Set (Name 0 (codes "o")) (New 4 (ident 8 (codes "C")) NoExprs))) NoStmts) (Then (code.Set (r (codes "o")) (code.DoThen (Then (code.AllocObject (r (codes "'1")) 12) (Then (code.Evaluate (code.ConstructorCall 4 (code.Variable (r (codes "'1"))) code.NoExprs)) Done)) (code.Variable (r (codes "'1"))))) Done)
  -- `new Object();` is `(eval (do ((alloc '1 Object)) '1))`
  pub of_no_constructor : StandFor (StmtThen (Evaluate 0 (New 0 (ident 4 (codes "Object")) NoExprs)) NoStmts) (Then (code.Evaluate (code.DoThen (Then (code.AllocObject (r (codes "'1")) 0) Done) (code.Variable (r (codes "'1"))))) Done)
  -- `a = new int[x];` is `(set a (do ((set '1 x) (allocarr '2 '1)) '2))`
  pub an_array : StandFor (StmtThen (Evaluate 0 (Assign 0 assignments.Set (Name 0 (codes "a")) (NewArray 4 (Name 12 (codes "x"))))) NoStmts) (Then (code.Set (r (codes "a")) (code.DoThen (Then (code.Set (i (codes "'1")) (code.Variable (i (codes "x")))) (Then (code.NewArray (r (codes "'2")) (code.Variable (i (codes "'1")))) Done)) (code.Variable (r (codes "'2"))))) Done)
  -- `x = m(x = 1) + (o.f = 2);` is `(set x (add (call B.m this (do ((set '1 1) (set x '1)) '1)) (do ((set '2 o) (set '3 2) (put '2 A.f '3)) '3)))`
  pub operands_in_order : StandFor (StmtThen (Evaluate 0 (Assign 0 assignments.Set (Name 0 (codes "x")) (Infix 4 operators.Add (Call 4 (codes "m") (ExprThen (Assign 6 assignments.Set (Name 6 (codes "x")) (Integer 10 1)) NoExprs)) (Parenthesized 15 (Assign 16 assignments.Set (Field 16 (Name 16 (codes "o")) (ident 18 (codes "f"))) (Integer 22 2)))))) NoStmts) (Then (code.Set (i (codes "x")) (code.Binary binary.Add (code.VirtualCall 11 1 (code.Variable (r (codes "this"))) (code.ExprThen (code.DoThen (Then (code.Set (i (codes "'1")) (code.IntLiteral (pos 1))) (Then (code.Set (i (codes "x")) (code.Variable (i (codes "'1")))) Done)) (code.Variable (i (codes "'1")))) code.NoExprs)) (code.DoThen (Then (code.Set (r (codes "'2")) (code.Variable (r (codes "o")))) (Then (code.Set (i (codes "'3")) (code.IntLiteral (pos 2))) (Then (code.WriteField (code.Variable (r (codes "'2"))) 0 (code.Variable (i (codes "'3")))) Done))) (code.Variable (i (codes "'3")))))) Done)
  -- `o = new A(x = 1);` is `(set o (do ((set '2 (do ((set '1 1) (set x '1)) '1)) (alloc '3 A) (eval (ctor A '3 '2))) '3))`
  pub inner_ones_first : StandFor (StmtThen (Evaluate 0 (Assign 0 assignments.Set (Name 0 (codes "o")) (New 4 (ident 8 (codes "A")) (ExprThen (Assign 10 assignments.Set (Name 10 (codes "x")) (Integer 14 1)) NoExprs)))) NoStmts) (Then (code.Set (r (codes "o")) (code.DoThen (Then (code.Set (i (codes "'2")) (code.DoThen (Then (code.Set (i (codes "'1")) (code.IntLiteral (pos 1))) (Then (code.Set (i (codes "x")) (code.Variable (i (codes "'1")))) Done)) (code.Variable (i (codes "'1"))))) (Then (code.AllocObject (r (codes "'3")) 10) (Then (code.Evaluate (code.ConstructorCall 0 (code.Variable (r (codes "'3"))) (code.ExprThen (code.Variable (i (codes "'2"))) code.NoExprs))) Done))) (code.Variable (r (codes "'3"))))) Done)
  -- `x = f + o.f + a.length + K + A.K;` is `(set x (add (add (add (add (get this A.f) (get o A.f)) (len a)) 7) 7))`
  pub members : StandFor (StmtThen (Evaluate 0 (Assign 0 assignments.Set (Name 0 (codes "x")) (Infix 4 operators.Add (Infix 4 operators.Add (Infix 4 operators.Add (Infix 4 operators.Add (Name 4 (codes "f")) (Field 8 (Name 8 (codes "o")) (ident 10 (codes "f")))) (Field 14 (Name 14 (codes "a")) (ident 16 (codes "length")))) (Name 25 (codes "K"))) (Field 29 (Name 29 (codes "A")) (ident 31 (codes "K")))))) NoStmts) (Then (code.Set (i (codes "x")) (code.Binary binary.Add (code.Binary binary.Add (code.Binary binary.Add (code.Binary binary.Add (code.ReadField (code.Variable (r (codes "this"))) 0) (code.ReadField (code.Variable (r (codes "o"))) 0)) (code.LengthOf (code.Variable (r (codes "a"))))) (code.IntLiteral (pos 7))) (code.IntLiteral (pos 7)))) Done)
  -- `x = o.K;` is `(set x 7)`
  pub constant_of_a_value : StandFor (StmtThen (Evaluate 0 (Assign 0 assignments.Set (Name 0 (codes "x")) (Field 4 (Name 4 (codes "o")) (ident 6 (codes "K"))))) NoStmts) (Then (code.Set (i (codes "x")) (code.IntLiteral (pos 7))) Done)
  -- `x = m(x);` is `(set x (call B.m this x))`
  pub own_call : StandFor (StmtThen (Evaluate 0 (Assign 0 assignments.Set (Name 0 (codes "x")) (Call 4 (codes "m") (ExprThen (Name 6 (codes "x")) NoExprs)))) NoStmts) (Then (code.Set (i (codes "x")) (code.VirtualCall 11 1 (code.Variable (r (codes "this"))) (code.ExprThen (code.Variable (i (codes "x"))) code.NoExprs))) Done)
  -- `x = o.m(1);` is `(set x (call A.m o 1))`
  pub call : StandFor (StmtThen (Evaluate 0 (Assign 0 assignments.Set (Name 0 (codes "x")) (MethodCall 4 (Name 4 (codes "o")) (ident 6 (codes "m")) (ExprThen (Integer 8 1) NoExprs)))) NoStmts) (Then (code.Set (i (codes "x")) (code.VirtualCall 10 1 (code.Variable (r (codes "o"))) (code.ExprThen (code.IntLiteral (pos 1)) code.NoExprs))) Done)
  -- `x = s(2) + A.s(3);` is `(set x (add (scall A.s 2) (scall A.s 3)))`
  pub static_call : StandFor (StmtThen (Evaluate 0 (Assign 0 assignments.Set (Name 0 (codes "x")) (Infix 4 operators.Add (Call 4 (codes "s") (ExprThen (Integer 6 2) NoExprs)) (MethodCall 11 (Name 11 (codes "A")) (ident 13 (codes "s")) (ExprThen (Integer 15 3) NoExprs))))) NoStmts) (Then (code.Set (i (codes "x")) (code.Binary binary.Add (code.StaticCall 2 (code.ExprThen (code.IntLiteral (pos 2)) code.NoExprs)) (code.StaticCall 2 (code.ExprThen (code.IntLiteral (pos 3)) code.NoExprs)))) Done)
  -- `x = o.s(2);` is `(set x (do ((set '1 o)) (scall A.s 2)))`
  pub static_call_on_a_value : StandFor (StmtThen (Evaluate 0 (Assign 0 assignments.Set (Name 0 (codes "x")) (MethodCall 4 (Name 4 (codes "o")) (ident 6 (codes "s")) (ExprThen (Integer 8 2) NoExprs)))) NoStmts) (Then (code.Set (i (codes "x")) (code.DoThen (Then (code.Set (r (codes "'1")) (code.Variable (r (codes "o")))) Done) (code.StaticCall 2 (code.ExprThen (code.IntLiteral (pos 2)) code.NoExprs)))) Done)
  -- `o.s(2);` is `(set '1 o) (eval (scall A.s 2))`
  pub static_call_as_statement : StandFor (StmtThen (Evaluate 0 (MethodCall 0 (Name 0 (codes "o")) (ident 2 (codes "s")) (ExprThen (Integer 4 2) NoExprs))) NoStmts) (Then (code.Set (r (codes "'1")) (code.Variable (r (codes "o")))) (Then (code.Evaluate (code.StaticCall 2 (code.ExprThen (code.IntLiteral (pos 2)) code.NoExprs))) Done))
  -- `o.v();` is `(eval (call A.v o))`
  pub call_without_result : StandFor (StmtThen (Evaluate 0 (MethodCall 0 (Name 0 (codes "o")) (ident 2 (codes "v")) NoExprs)) NoStmts) (Then (code.Evaluate (code.VirtualCall 10 3 (code.Variable (r (codes "o"))) code.NoExprs)) Done)
  -- `x = -5 + -x + +x + (int) x;` is `(set x (add (add (add -5 (neg x)) x) x))`
  pub signs : StandFor (StmtThen (Evaluate 0 (Assign 0 assignments.Set (Name 0 (codes "x")) (Infix 4 operators.Add (Infix 4 operators.Add (Infix 4 operators.Add (Prefix 4 prefixes.Minus (Integer 5 5)) (Prefix 9 prefixes.Minus (Name 10 (codes "x")))) (Prefix 14 prefixes.Plus (Name 15 (codes "x")))) (Cast 19 (written 20 IntType) (Name 25 (codes "x")))))) NoStmts) (Then (code.Set (i (codes "x")) (code.Binary binary.Add (code.Binary binary.Add (code.Binary binary.Add (code.IntLiteral (negsuc 4)) (code.Unary unary.Negate (code.Variable (i (codes "x"))))) (code.Variable (i (codes "x")))) (code.Variable (i (codes "x"))))) Done)
  -- `p = (B) o instanceof B;` is `(set p (inst B (cast B o)))`
  pub casts : StandFor (StmtThen (Evaluate 0 (Assign 0 assignments.Set (Name 0 (codes "p")) (InstanceOf 4 (Cast 4 (written 5 (NamedType (codes "B"))) (Name 8 (codes "o"))) (written 21 (NamedType (codes "B")))))) NoStmts) (Then (code.Set (b (codes "p")) (code.InstanceOf (OfClass 11) (code.Cast (OfClass 11) (code.Variable (r (codes "o")))))) Done)
  -- `p = !p && x < 1 || x != 2;` is `(set p (or (and (not p) (lt x 1)) (ne x 2)))`
  pub tests : StandFor (StmtThen (Evaluate 0 (Assign 0 assignments.Set (Name 0 (codes "p")) (Infix 4 operators.OrElse (Infix 4 operators.AndAlso (Prefix 4 prefixes.Not (Name 5 (codes "p"))) (Infix 10 operators.Less (Name 10 (codes "x")) (Integer 14 1))) (Infix 19 operators.NotEqual (Name 19 (codes "x")) (Integer 24 2))))) NoStmts) (Then (code.Set (b (codes "p")) (code.OrElse (code.AndAlso (code.Unary unary.Invert (code.Variable (b (codes "p")))) (code.Binary binary.Less (code.Variable (i (codes "x"))) (code.IntLiteral (pos 1)))) (code.Binary binary.NotEqual (code.Variable (i (codes "x"))) (code.IntLiteral (pos 2))))) Done)
  -- `x = p ? 1 : 2;` is `(set x (cond p 1 2))`
  pub a_choice : StandFor (StmtThen (Evaluate 0 (Assign 0 assignments.Set (Name 0 (codes "x")) (Conditional 4 (Name 4 (codes "p")) (Integer 8 1) (Integer 12 2)))) NoStmts) (Then (code.Set (i (codes "x")) (code.Conditional (code.Variable (b (codes "p"))) (code.IntLiteral (pos 1)) (code.IntLiteral (pos 2)))) Done)
  -- `int y; A q;` is `(set y 0) (set q null)`
  pub default_values : StandFor (StmtThen (Declaration 0 (written 0 IntType) ((local (ident 4 (codes "y")) None) ∷ [])) (StmtThen (Declaration 7 (written 7 (NamedType (codes "A"))) ((local (ident 9 (codes "q")) None) ∷ [])) NoStmts)) (Then (code.Set (i (codes "y")) (code.IntLiteral (pos 0))) (Then (code.Set (r (codes "q")) code.NullLiteral) Done))
  -- `int y = y + 1;` is `(set y 0) (set y (add y 1))`
  pub names_itself : StandFor (StmtThen (Declaration 0 (written 0 IntType) ((local (ident 4 (codes "y")) (Some (Infix 8 operators.Add (Name 8 (codes "y")) (Integer 12 1)))) ∷ [])) NoStmts) (Then (code.Set (i (codes "y")) (code.IntLiteral (pos 0))) (Then (code.Set (i (codes "y")) (code.Binary binary.Add (code.Variable (i (codes "y"))) (code.IntLiteral (pos 1)))) Done))
  -- `{ int y = 1; } int y = 2;` is `(set y 1) (set y'2 2)`
  pub second_of_a_name : StandFor (StmtThen (Block 0 (StmtThen (Declaration 2 (written 2 IntType) ((local (ident 6 (codes "y")) (Some (Integer 10 1))) ∷ [])) NoStmts)) (StmtThen (Declaration 15 (written 15 IntType) ((local (ident 19 (codes "y")) (Some (Integer 23 2))) ∷ [])) NoStmts)) (Then (code.Set (i (codes "y")) (code.IntLiteral (pos 1))) (Then (code.Set (i (codes "y'2")) (code.IntLiteral (pos 2))) Done))
  -- `while (p) x = 1;` is `(while 1 p ((set x 1)))`
  pub a_loop : StandFor (StmtThen (While 0 None (Name 7 (codes "p")) (Evaluate 10 (Assign 10 assignments.Set (Name 10 (codes "x")) (Integer 14 1)))) NoStmts) (Then (code.While 1 (code.Variable (b (codes "p"))) (Then (code.Set (i (codes "x")) (code.IntLiteral (pos 1))) Done)) Done)
  -- `while (p) { if (x == 1) break; if (x == 2) continue; x++; }` is `(block l1 ((while 1 p ((block l2 ((if (eq x 1) ((break l1)) ()) (if (eq x 2) ((break l2)) ()) (set x (add x 1))))))))`
  pub left_and_repeated : StandFor (StmtThen (While 0 None (Name 7 (codes "p")) (Block 10 (StmtThen (If 12 (Infix 16 operators.Equal (Name 16 (codes "x")) (Integer 21 1)) (Break 24 None)) (StmtThen (If 31 (Infix 35 operators.Equal (Name 35 (codes "x")) (Integer 40 2)) (Continue 43 None)) (StmtThen (Evaluate 53 (Postfix 53 counts.Increment (Name 53 (codes "x")))) NoStmts))))) NoStmts) (Then (code.Block 1 (Then (code.While 1 (code.Variable (b (codes "p"))) (Then (code.Block 2 (Then (code.If (code.Binary binary.Equal (code.Variable (i (codes "x"))) (code.IntLiteral (pos 1))) (Then (code.Break 1) Done) Done) (Then (code.If (code.Binary binary.Equal (code.Variable (i (codes "x"))) (code.IntLiteral (pos 2))) (Then (code.Break 2) Done) Done) (Then (code.Set (i (codes "x")) (code.Binary binary.Add (code.Variable (i (codes "x"))) (code.IntLiteral (pos 1)))) Done)))) Done)) Done)) Done)
  -- `for (int i = 0; i < x; i++) o.f = i;` is `(set i 0) (while 1 (lt i x) ((put o A.f i) (set i (add i 1))))`
  pub a_for : StandFor (StmtThen (For 0 None (Declared (written 5 IntType) ((local (ident 9 (codes "i")) (Some (Integer 13 0))) ∷ [])) (Some (Infix 16 operators.Less (Name 16 (codes "i")) (Name 20 (codes "x")))) ((Postfix 23 counts.Increment (Name 23 (codes "i"))) ∷ []) (Evaluate 28 (Assign 28 assignments.Set (Field 28 (Name 28 (codes "o")) (ident 30 (codes "f"))) (Name 34 (codes "i"))))) NoStmts) (Then (code.Set (i (codes "i")) (code.IntLiteral (pos 0))) (Then (code.While 1 (code.Binary binary.Less (code.Variable (i (codes "i"))) (code.Variable (i (codes "x")))) (Then (code.WriteField (code.Variable (r (codes "o"))) 0 (code.Variable (i (codes "i")))) (Then (code.Set (i (codes "i")) (code.Binary binary.Add (code.Variable (i (codes "i"))) (code.IntLiteral (pos 1)))) Done))) Done))
  -- `for (;; x++) continue;` is `(while 1 true ((block l1 ((break l1))) (set x (add x 1))))`
  pub a_for_repeated : StandFor (StmtThen (For 0 None (Evaluated []) None ((Postfix 8 counts.Increment (Name 8 (codes "x"))) ∷ []) (Continue 13 None)) NoStmts) (Then (code.While 1 (code.BoolLiteral true) (Then (code.Block 1 (Then (code.Break 1) Done)) (Then (code.Set (i (codes "x")) (code.Binary binary.Add (code.Variable (i (codes "x"))) (code.IntLiteral (pos 1)))) Done))) Done)
  -- `l: while (p) { while (p) { continue l; } break l; }` is `(block l1 ((while 1 p ((block l2 ((while 2 p ((break l2))) (break l1)))))))`
  pub labels : StandFor (StmtThen (Label 0 None (codes "l") (While 3 None (Name 10 (codes "p")) (Block 13 (StmtThen (While 15 None (Name 22 (codes "p")) (Block 25 (StmtThen (Continue 27 (Some (ident 36 (codes "l")))) NoStmts))) (StmtThen (Break 41 (Some (ident 47 (codes "l")))) NoStmts))))) NoStmts) (Then (code.Block 1 (Then (code.While 1 (code.Variable (b (codes "p"))) (Then (code.Block 2 (Then (code.While 2 (code.Variable (b (codes "p"))) (Then (code.Break 2) Done)) (Then (code.Break 1) Done))) Done)) Done)) Done)
  -- `l: { break l; }` is `(block l1 ((break l1)))`
  pub label_of_a_block : StandFor (StmtThen (Label 0 None (codes "l") (Block 3 (StmtThen (Break 5 (Some (ident 11 (codes "l")))) NoStmts))) NoStmts) (Then (code.Block 1 (Then (code.Break 1) Done)) Done)
  -- `l: x = 1;` is `(set x 1)`
  pub unused_label : StandFor (StmtThen (Label 0 None (codes "l") (Evaluate 3 (Assign 3 assignments.Set (Name 3 (codes "x")) (Integer 7 1)))) NoStmts) (Then (code.Set (i (codes "x")) (code.IntLiteral (pos 1))) Done)
  -- `try { x = 1; } catch (Exception e) { x = 2; } finally { x = 3; }` is `(finally ((catch ((set x 1)) '1 ((if (inst Exception '1) ((set e '1) (set x 2)) ((throwx '1)))))) ((set x 3)))`
  pub handlers : StandFor (StmtThen (TryFinally 0 (StmtThen (Evaluate 6 (Assign 6 assignments.Set (Name 6 (codes "x")) (Integer 10 1))) NoStmts) (HandlerThen (Catch 15 (ident 22 (codes "Exception")) (ident 32 (codes "e")) (StmtThen (Evaluate 37 (Assign 37 assignments.Set (Name 37 (codes "x")) (Integer 41 2))) NoStmts)) NoHandlers) (StmtThen (Evaluate 56 (Assign 56 assignments.Set (Name 56 (codes "x")) (Integer 60 3))) NoStmts)) NoStmts) (Then (code.Finally (Then (code.Catch (Then (code.Set (i (codes "x")) (code.IntLiteral (pos 1))) Done) (r (codes "'1")) (Then (code.If (code.InstanceOf (OfClass 2) (code.Variable (r (codes "'1")))) (Then (code.Set (r (codes "e")) (code.Variable (r (codes "'1")))) (Then (code.Set (i (codes "x")) (code.IntLiteral (pos 2))) Done)) (Then (code.ThrowUnchecked (code.Variable (r (codes "'1")))) Done)) Done)) Done) (Then (code.Set (i (codes "x")) (code.IntLiteral (pos 3))) Done)) Done)
  -- `try { x = 1; } finally { }` is `(finally ((set x 1)) ())`
  pub a_finally : StandFor (StmtThen (TryFinally 0 (StmtThen (Evaluate 6 (Assign 6 assignments.Set (Name 6 (codes "x")) (Integer 10 1))) NoStmts) NoHandlers NoStmts) NoStmts) (Then (code.Finally (Then (code.Set (i (codes "x")) (code.IntLiteral (pos 1))) Done) Done) Done)
  -- `if (p) return x; else throw null;` is `(if p ((return x)) ((throw null)))`
  pub ends : StandFor (StmtThen (IfElse 0 (Name 4 (codes "p")) (Return 7 (Some (Name 14 (codes "x")))) (Throw 22 (Null 28))) NoStmts) (Then (code.If (code.Variable (b (codes "p"))) (Then (code.Return (code.Variable (i (codes "x")))) Done) (Then (code.Throw code.NullLiteral) Done)) Done)

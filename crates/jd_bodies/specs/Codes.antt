-- The code of expressions (JLS 15): operands from left to right, each value that is used again in a temporary.
use Rattle.std.specs.Prelude.{ℕ, pos, neg_ℤ, Bool, true, false, List, [], ◌∷◌, ◌++◌, Option, Some, None}
use Rattle.jd_syntax.specs.JavaTrees as java
use Rattle.jd_syntax.specs.JavaTrees.{JavaExpr, JavaExprs}
use Rattle.jd_syntax.specs.Codes as code
use Rattle.jd_syntax.specs.Codes.{PlainKind, OfClass, IntArray, Expr, Exprs, NoExprs, ExprThen, Stmt, PlainCode, exprs_of, stmts_of}
use Rattle.jd_syntax.specs.Names.{Name}
use Rattle.jd_syntax.specs.declared.code.UnaryOp.TheVariants as unary
use Rattle.jd_syntax.specs.declared.code.BinaryOp.{BinaryOp}
use Rattle.jd_syntax.specs.declared.code.BinaryOp.TheVariants as binary
use Rattle.jd_syntax.specs.declared.java.InfixOperator.{InfixOperator}
use Rattle.jd_syntax.specs.declared.java.InfixOperator.TheVariants as operators
use Rattle.jd_syntax.specs.declared.java.PrefixOperator.{PrefixOperator}
use Rattle.jd_syntax.specs.declared.java.PrefixOperator.TheVariants as prefixes
use Rattle.jd_syntax.specs.declared.java.CountOperator.{CountOperator}
use Rattle.jd_syntax.specs.declared.java.CountOperator.TheVariants as counts
use Rattle.jd_syntax.specs.declared.java.AssignmentOperator.{AssignmentOperator}
use Rattle.jd_syntax.specs.declared.java.AssignmentOperator.TheVariants as assignments
use Rattle.jd_bodies.specs.declared.place.Meaning.{Meaning}
use Rattle.jd_bodies.specs.declared.place.Meaning.TheVariants as meanings
use Rattle.jd_bodies.specs.declared.place.Place.{Place}
use Rattle.jd_bodies.specs.declared.value.Callee.{Callee}
use Rattle.jd_bodies.specs.declared.value.Callee.TheVariants as callees
use Rattle.jd_bodies.specs.declared.value.Variable.{Variable}
use Rattle.jd_bodies.specs.declared.value.Variable.TheVariants as variables
use Rattle.jd_bodies.specs.declared.value.ValueType.{ValueType}
use Rattle.jd_bodies.specs.declared.value.ValueType.TheVariants as types
use Rattle.jd_bodies.specs.Declarations.{Declarations, type_by}
use Rattle.jd_bodies.specs.Expressions.{callee_by, class_before}
use Rattle.jd_bodies.specs.Scopes.{Local, meaning}
use Rattle.jd_bodies.specs.StaticTypes.{static_type}
use Rattle.jd_bodies.specs.Variables.{Progress, temporary, local_name, this_name}

-- what is made of an expression, with what was made on the way
abbrev pub Made : Type 0
Made = Progress × Expr

-- what no body has that is not refused
abbrev pub nothing : Expr
nothing = code.NullLiteral

-- ---- parts

abbrev pub with_one : (Expr → Expr) → Made → Made
with_one f m = (m.0, f m.1)

-- the one part, and then the other
abbrev pub with_two : (Expr → Expr → Expr) → Made → (Progress → Made) → Made
with_two f m other = with_one (f m.1) (other m.0)

abbrev pub with_three : (Expr → Expr → Expr → Expr) → Made → (Progress → Made) → (Progress → Made) → Made
with_three f m second third = with_two (f m.1) (second m.0) third

-- ---- operators

abbrev pub infix_code : InfixOperator → Expr → Expr → Expr
infix_code operators.OrElse a b = code.OrElse a b
infix_code operators.AndAlso a b = code.AndAlso a b
infix_code operators.Equal a b = code.Binary binary.Equal a b
infix_code operators.NotEqual a b = code.Binary binary.NotEqual a b
infix_code operators.Less a b = code.Binary binary.Less a b
infix_code operators.LessOrEqual a b = code.Binary binary.LessOrEqual a b
infix_code operators.Greater a b = code.Binary binary.Greater a b
infix_code operators.GreaterOrEqual a b = code.Binary binary.GreaterOrEqual a b
infix_code operators.Add a b = code.Binary binary.Add a b
infix_code operators.Subtract a b = code.Binary binary.Subtract a b
infix_code operators.Multiply a b = code.Binary binary.Multiply a b
infix_code operators.Divide a b = code.Binary binary.Divide a b
infix_code operators.Remainder a b = code.Binary binary.Remainder a b

-- what an assignment computes of the old value and the right side; nothing where it is `=`
abbrev pub assignment_operation : AssignmentOperator → Option BinaryOp
assignment_operation assignments.Set = None
assignment_operation assignments.Add = Some binary.Add
assignment_operation assignments.Subtract = Some binary.Subtract
assignment_operation assignments.Multiply = Some binary.Multiply
assignment_operation assignments.Divide = Some binary.Divide
assignment_operation assignments.Remainder = Some binary.Remainder

abbrev pub count_operation : CountOperator → BinaryOp
count_operation counts.Increment = binary.Add
count_operation counts.Decrement = binary.Subtract

-- a minus directly before a literal is part of it (JLS 3.10.1)
abbrev pub minus_code : JavaExpr → Expr → Expr
minus_code (java.Integer at n) e = code.IntLiteral (neg_ℤ (pos n))
minus_code other e = code.Unary unary.Negate e

-- a cast between primitive types changes nothing
abbrev pub cast_code : ValueType → Expr → Expr
cast_code (types.Class c) e = code.Cast (OfClass c) e
cast_code types.IntArray e = code.Cast IntArray e
cast_code t e = e

abbrev pub instance_code : ValueType → Expr → Expr
instance_code (types.Class c) e = code.InstanceOf (OfClass c) e
instance_code t e = code.InstanceOf IntArray e

-- ---- names and members

abbrev pub this_code : Expr
this_code = code.Variable this_name

abbrev pub name_code : Progress → List ℕ → Meaning → Expr
name_code p x (meanings.Local t) = code.Variable (local_name p.names x t)
name_code p x (meanings.Field f t) = code.ReadField this_code f
name_code p x (meanings.Constant n) = code.IntLiteral n
name_code p x meanings.Nothing = nothing

-- of a value: its field, the length of an array; a constant is its literal, and the value is dropped
abbrev pub variable_code : Option Variable → Progress → (Progress → Made) → Made
variable_code None p object = (p, nothing)
variable_code (Some (variables.Field f t)) p object = with_one (λ e. code.ReadField e f) (object p)
variable_code (Some (variables.Constant n)) p object = (p, code.IntLiteral n)

abbrev pub constant_code : Option Variable → Expr
constant_code (Some (variables.Constant n)) = code.IntLiteral n
constant_code v = nothing

-- ---- what is assigned

-- a local, by its name; a field of an object, made so and of the first type; an element of an array at an index; or none of these
pub data Target : Type 0 where
  ToLocal : List ℕ → ValueType → Target
  ToField : (Progress → Made) → ValueType → ℕ → ValueType → Target
  ToElement : (Progress → Made) → (Progress → Made) → Target
  NoTarget : Target

abbrev pub name_target : ValueType → List ℕ → Meaning → Target
name_target this x (meanings.Local t) = ToLocal x t
name_target this x (meanings.Field f t) = ToField (λ p. (p, this_code)) this f t
name_target this x m = NoTarget

abbrev pub field_target : (Progress → Made) → ValueType → Option Variable → Target
field_target object t (Some (variables.Field f u)) = ToField object t f u
field_target object t v = NoTarget

module _ (d : Declarations) where
  abbrev pub member_target : (Progress → Made) → List ℕ → Option ℕ → ValueType → Target
  member_target object x None (types.Class c) = field_target object (types.Class c) (d.variable c x)
  member_target object x c t = NoTarget

  abbrev pub member_code : List ℕ → Option ℕ → ValueType → Progress → (Progress → Made) → Made
  member_code x (Some c) t p object = (p, constant_code (d.variable c x))
  member_code x None (types.Class c) p object = variable_code (d.variable c x) p object
  member_code x None t p object = with_one code.LengthOf (object p)

  -- ---- calls

  -- `m(..)`: of the class, or of `this`
  abbrev pub own_call_by : Bool → ℕ → ℕ → Exprs → Expr
  own_call_by true class m es = code.StaticCall m es
  own_call_by false class m es = code.VirtualCall class m this_code es

  abbrev pub own_call_code : ℕ → Callee → Exprs → Expr
  own_call_code class (callees.Routine m) es = own_call_by (d.signature m).static class m es
  own_call_code class c es = nothing

  abbrev pub static_call_code : Callee → Exprs → Expr
  static_call_code (callees.Routine m) es = code.StaticCall m es
  static_call_code c es = nothing

-- ---- assignments (JLS 15.26, 15.14.2, 15.15.1)

abbrev pub variable : Name → Expr
variable x = code.Variable x

abbrev pub one : Progress → Made
one p = (p, code.IntLiteral (pos 1))

-- these statements, and then a value
pub record Steps : Type 0 where
  pub progress : Progress
  pub stmts : List Stmt
  pub value : Expr

abbrev pub steps_code : Steps → Made
steps_code s = (s.progress, code.DoThen (stmts_of s.stmts) s.value)

-- a value in a temporary, before what is done next
abbrev pub keep : ValueType → Made → (Name → Progress → Steps) → Steps
keep t m next =
    let k = temporary t m.0 in
    let s = next k.1 k.0 in
    record { progress = s.progress; stmts = code.Set k.1 m.1 ∷ s.stmts; value = s.value }

abbrev pub finish : Stmt → Expr → Progress → Steps
finish s e p = record { progress = p; stmts = s ∷ []; value = e }

-- `x = v` and the like as values: the value is that of the last temporary
abbrev pub set_value : Target → ValueType → (Progress → Made) → Progress → Steps
set_value (ToLocal x t) vt v p = keep vt (v p) (λ k. finish (code.Set (local_name p.names x t) (variable k)) (variable k))
set_value (ToField object ot f t) vt v p =
    keep ot (object p) (λ o q. keep vt (v q) (λ k. finish (code.WriteField (variable o) f (variable k)) (variable k)))
set_value (ToElement a i) vt v p =
    keep types.IntArray (a p) (λ o q. keep types.Int (i q) (λ j r. keep vt (v r) (λ k. finish (code.WriteElement (variable o) (variable j) (variable k)) (variable k))))
set_value NoTarget vt v p = record { progress = p; stmts = []; value = nothing }

-- `x op= v` and the like as values: the new value
abbrev pub change_value : BinaryOp → Target → (Progress → Made) → Progress → Steps
change_value op (ToLocal x t) v p =
    keep types.Int (with_one (code.Binary op (variable (local_name p.names x t))) (v p)) (λ k. finish (code.Set (local_name p.names x t) (variable k)) (variable k))
change_value op (ToField object ot f t) v p =
    keep ot (object p) (λ o q. keep t (q, code.ReadField (variable o) f)
    (λ u r. keep types.Int (with_one (code.Binary op (variable u)) (v r)) (λ k. finish (code.WriteField (variable o) f (variable k)) (variable k))))
change_value op (ToElement a i) v p =
    keep types.IntArray (a p) (λ o q. keep types.Int (i q) (λ j r. keep types.Int (r, code.ReadElement (variable o) (variable j))
    (λ u s. keep types.Int (with_one (code.Binary op (variable u)) (v s)) (λ k. finish (code.WriteElement (variable o) (variable j) (variable k)) (variable k)))))
change_value op NoTarget v p = record { progress = p; stmts = []; value = nothing }

-- `x++` and the like as values: the old value
abbrev pub old_value : BinaryOp → Target → Progress → Steps
old_value op (ToLocal x t) p =
    keep types.Int (p, variable (local_name p.names x t)) (λ k. finish (code.Set (local_name p.names x t) (code.Binary op (variable (local_name p.names x t)) (code.IntLiteral (pos 1)))) (variable k))
old_value op (ToField object ot f t) p =
    keep ot (object p) (λ o q. keep t (q, code.ReadField (variable o) f)
    (λ u. finish (code.WriteField (variable o) f (code.Binary op (variable u) (code.IntLiteral (pos 1)))) (variable u)))
old_value op (ToElement a i) p =
    keep types.IntArray (a p) (λ o q. keep types.Int (i q) (λ j r. keep types.Int (r, code.ReadElement (variable o) (variable j))
    (λ u. finish (code.WriteElement (variable o) (variable j) (code.Binary op (variable u) (code.IntLiteral (pos 1)))) (variable u))))
old_value op NoTarget p = record { progress = p; stmts = []; value = nothing }

abbrev pub assign_value : Option BinaryOp → Target → ValueType → (Progress → Made) → Progress → Steps
assign_value None target vt v p = set_value target vt v p
assign_value (Some op) target vt v p = change_value op target v p

-- ---- creation (JLS 15.9, 15.10.1): the arguments are evaluated before the object is there

pub record Arguments : Type 0 where
  pub progress : Progress
  pub sets : List Stmt
  pub values : List Expr

abbrev pub argument_in : ValueType → Made → (Progress → Arguments) → Arguments
argument_in t m next =
    let k = temporary t m.0 in
    let r = next k.0 in
    record { progress = r.progress; sets = code.Set k.1 m.1 ∷ r.sets; values = variable k.1 ∷ r.values }

abbrev pub constructor_code : Option ℕ → Expr → List Expr → List Stmt
constructor_code None object values = []
constructor_code (Some m) object values = code.Evaluate (code.ConstructorCall m object (exprs_of values)) ∷ []

abbrev pub created : ℕ → Option ℕ → Arguments → Steps
created c constructor a =
    let u = temporary (types.Class c) a.progress in
    record {
      progress = u.0;
      stmts = a.sets ++ (code.AllocObject u.1 c ∷ constructor_code constructor (variable u.1) a.values);
      value = variable u.1;
    }

abbrev pub created_array : Made → Steps
created_array m = keep types.Int m (λ k p.
    let u = temporary types.IntArray p in
    record { progress = u.0; stmts = code.NewArray u.1 (variable k) ∷ []; value = variable u.1 })

-- ---- expressions

abbrev pub with_list : (List Expr → Expr) → Progress × List Expr → Made
with_list f m = (m.0, f m.1)

abbrev pub list_first : Made → (Progress → Progress × List Expr) → Progress × List Expr
list_first m next =
    let r = next m.0 in
    (r.0, m.1 ∷ r.1)

abbrev pub prefix_code : PrefixOperator → Target → (Expr → Expr) → (Progress → Made) → Progress → Made
prefix_code prefixes.Plus assigned minus part p = part p
prefix_code prefixes.Minus assigned minus part p = with_one minus (part p)
prefix_code prefixes.Not assigned minus part p = with_one (code.Unary unary.Invert) (part p)
prefix_code (prefixes.Count c) assigned minus part p = steps_code (change_value (count_operation c) assigned one p)

-- `e.m(..)` by the method, which where it is static is called behind the object's value (JLS 15.12.4.1)
abbrev pub method_by : Bool → ℕ → ValueType → ℕ → Made → (Progress → Progress × List Expr) → Made
method_by true class t m object arguments =
    let k = temporary t object.0 in
    let r = arguments k.0 in
    (r.0, code.DoThen (stmts_of (code.Set k.1 object.1 ∷ [])) (code.StaticCall m (exprs_of r.1)))
method_by false class t m object arguments =
    let r = arguments object.0 in
    (r.0, code.VirtualCall class m object.1 (exprs_of r.1))

module _ (d : Declarations) where
  abbrev pub method_on : ℕ → Option ℕ → Made → (Progress → Progress × List Expr) → Made
  method_on class None object arguments = (object.0, nothing)
  method_on class (Some m) object arguments = method_by (d.signature m).static class (types.Class class) m object arguments

  -- `C.m(..)` or `e.m(..)`
  abbrev pub called : List ℕ → Option ℕ → ValueType → (Progress → Made) → (Progress → Progress × List Expr) → Progress → Made
  called m (Some c) t object arguments p = with_list (λ r. static_call_code d (callee_by (d.method c m)) (exprs_of r)) (arguments p)
  called m None (types.Class c) object arguments p = method_on c (d.method c m) (object p) arguments
  called m None t object arguments p = (p, nothing)

  abbrev pub new_code : Option ℕ → (Progress → Arguments) → Progress → Made
  new_code None arguments p = (p, nothing)
  new_code (Some c) arguments p = steps_code (created c (d.constructor c) (arguments p))

module _ (d : Declarations) (place : Place) (locals : List Local) where
  abbrev pub type_before : JavaExpr → ValueType
  type_before e = static_type d place locals e

  abbrev mutual
    pub code_of : JavaExpr → Progress → Made
    code_of (java.Integer at n) p = (p, code.IntLiteral (pos n))
    code_of (java.Boolean at b) p = (p, code.BoolLiteral b)
    code_of (java.Null at) p = (p, code.NullLiteral)
    code_of (java.This at) p = (p, this_code)
    code_of (java.Name at x) p = (p, name_code p x (meaning d place locals x))
    code_of (java.Field at e x) p = member_code d x.name (class_before d place locals e) (type_before e) p (code_of e)
    code_of (java.Parenthesized at e) p = code_of e p
    code_of (java.Call at m es) p = with_list (λ r. own_call_code d place.class (callee_by (d.method place.class m)) (exprs_of r)) (codes_of es p)
    code_of (java.MethodCall at e m es) p = called d m.name (class_before d place locals e) (type_before e) (code_of e) (codes_of es) p
    code_of (java.New at c es) p = new_code d (d.class_named c.name) (arguments_of es) p
    code_of (java.NewArray at e) p = steps_code (created_array (code_of e p))
    code_of (java.Index at a i) p = with_two code.ReadElement (code_of a p) (code_of i)
    code_of (java.Prefix at o e) p = prefix_code o (target_of e) (minus_code e) (code_of e) p
    code_of (java.Postfix at c e) p = steps_code (old_value (count_operation c) (target_of e) p)
    code_of (java.Cast at w e) p = with_one (cast_code (type_by d.class_named w.written)) (code_of e p)
    code_of (java.Infix at o a b) p = with_two (infix_code o) (code_of a p) (code_of b)
    code_of (java.InstanceOf at e w) p = with_one (instance_code (type_by d.class_named w.written)) (code_of e p)
    code_of (java.Conditional at c a b) p = with_three code.Conditional (code_of c p) (code_of a) (code_of b)
    code_of (java.Assign at o e v) p = steps_code (assign_value (assignment_operation o) (target_of e) (type_before v) (code_of v) p)

    pub target_of : JavaExpr → Target
    target_of (java.Name at x) = name_target (types.Class place.class) x (meaning d place locals x)
    target_of (java.Field at e x) = member_target d (code_of e) x.name (class_before d place locals e) (type_before e)
    target_of (java.Parenthesized at e) = target_of e
    target_of (java.Index at a i) = ToElement (code_of a) (code_of i)
    target_of e = NoTarget

    pub codes_of : JavaExprs → Progress → Progress × List Expr
    codes_of java.NoExprs p = (p, [])
    codes_of (java.ExprThen e es) p = list_first (code_of e p) (codes_of es)

    -- each argument in a temporary
    pub arguments_of : JavaExprs → Progress → Arguments
    arguments_of java.NoExprs p = record { progress = p; sets = []; values = [] }
    arguments_of (java.ExprThen e es) p = argument_in (type_before e) (code_of e p) (arguments_of es)

-- The code of an expression is resolved, and assigns no special variable.
use Rattle.std.proofs.Common.{◌≡◌, ℕ, ℤ, Bool, true, false, cond, List, [], Option, Some, None, refl}
use Rattle.jd_syntax.specs.JavaTrees as java
use Rattle.jd_syntax.specs.JavaTrees.{JavaExpr, JavaExprs}
use Rattle.jd_syntax.specs.Codes as code
use Rattle.jd_syntax.specs.Codes.{Expr, exprs_of}
use Rattle.jd_syntax.specs.declared.code.BinaryOp.{BinaryOp}
use Rattle.jd_syntax.specs.declared.code.UnaryOp.TheVariants as unary
use Rattle.jd_syntax.specs.declared.java.InfixOperator.{InfixOperator}
use Rattle.jd_syntax.specs.declared.java.InfixOperator.TheVariants as operators
use Rattle.jd_syntax.specs.declared.java.PrefixOperator.TheVariants as prefixes
use Rattle.jd_model.specs.WellFormedHeaps.{in_int}
use Rattle.jd_bodies.specs.declared.place.Meaning.{Meaning}
use Rattle.jd_bodies.specs.declared.place.Meaning.TheVariants as meanings
use Rattle.jd_bodies.specs.declared.place.Place.{Place}
use Rattle.jd_bodies.specs.declared.value.Callee.{Callee}
use Rattle.jd_bodies.specs.declared.value.Callee.TheVariants as callees
use Rattle.jd_bodies.specs.declared.value.Variable.{Variable}
use Rattle.jd_bodies.specs.declared.value.Variable.TheVariants as variables
use Rattle.jd_bodies.specs.declared.value.ValueType.{ValueType}
use Rattle.jd_bodies.specs.declared.value.ValueType.TheVariants as types
use Rattle.jd_bodies.specs.Codes.{Arguments, Made, Target, ToLocal, ToField, ToElement, NoTarget, arguments_of, assign_value, assignment_operation, called, cast_code, change_value, code_of, codes_of, constant_code, count_operation, created, created_array, field_target, infix_code, instance_code, member_code, member_target, method_by, method_on, minus_code, name_code, name_target, new_code, old_value, one, own_call_by, own_call_code, set_value, static_call_code, target_of, type_before, variable_code}
use Rattle.jd_bodies.specs.Declarations.{Declarations, type_by}
use Rattle.jd_bodies.specs.Expressions.{callee_by, class_before}
use Rattle.jd_bodies.specs.Scopes.{Local, local_named, meaning, meaning_by}
use Rattle.jd_bodies.specs.Variables.{Progress, temporary}
use Rattle.jd_resolved_bodies.specs.Laws.{ConstantsFit}
use Rattle.jd_resolved_bodies.specs.Lexical.{AreLexical, IsLexical, IsName}
use Rattle.jd_resolved_bodies.proofs.Parts.{AllGood, Good, GoodArguments, GoodList, GoodPart, GoodSteps, GoodTarget, exprs_good, in_order_good, literal, negative, plain_local, steps_good}

-- ---- assignments

pub set_good : (target : Target) (t : ValueType) (v : Progress → Made) (p : Progress) → GoodTarget target → GoodPart v → GoodSteps (set_value target t v p)
set_good (ToLocal x u) t v p is g =
    let a = g p in (((a.0, (refl, a.1)), ((tt, (plain_local p.names x u is, tt)), tt)), (tt, tt))
set_good (ToField object ot f u) t v p is g =
    let a = is p in
    let b = g (temporary ot (object p).0).0 in
    (((a.0, (refl, a.1)), ((b.0, (refl, b.1)), (((tt, tt), (tt, tt)), tt))), (tt, tt))
set_good (ToElement a i) t v p is g =
    let o = temporary types.IntArray (a p).0 in
    let j = temporary types.Int (i o.0).0 in
    let x = is.0 p in
    let y = is.1 o.0 in
    let z = g j.0 in
    (((x.0, (refl, x.1)), ((y.0, (refl, y.1)), ((z.0, (refl, z.1)), (((tt, tt, tt), (tt, tt, tt)), tt)))), (tt, tt))
set_good NoTarget t v p is g = (tt, (tt, tt))

pub change_good : (op : BinaryOp) (target : Target) (v : Progress → Made) (p : Progress) → GoodTarget target → GoodPart v → GoodSteps (change_value op target v p)
change_good op (ToLocal x u) v p is g =
    let a = g p in ((((tt, a.0), (refl, (tt, a.1))), ((tt, (plain_local p.names x u is, tt)), tt)), (tt, tt))
change_good op (ToField object ot f u) v p is g =
    let o = temporary ot (object p).0 in
    let k = temporary u o.0 in
    let a = is p in
    let b = g k.0 in
    (((a.0, (refl, a.1)), ((tt, (refl, tt)), (((tt, b.0), (refl, (tt, b.1))), (((tt, tt), (tt, tt)), tt)))), (tt, tt))
change_good op (ToElement a i) v p is g =
    let o = temporary types.IntArray (a p).0 in
    let j = temporary types.Int (i o.0).0 in
    let k = temporary types.Int j.0 in
    let x = is.0 p in
    let y = is.1 o.0 in
    let z = g k.0 in
    (((x.0, (refl, x.1)), ((y.0, (refl, y.1)), (((tt, tt), (refl, (tt, tt))), (((tt, z.0), (refl, (tt, z.1))), (((tt, tt, tt), (tt, tt, tt)), tt))))), (tt, tt))
change_good op NoTarget v p is g = (tt, (tt, tt))

pub old_good : (op : BinaryOp) (target : Target) (p : Progress) → GoodTarget target → GoodSteps (old_value op target p)
old_good op (ToLocal x u) p is =
    (((tt, (refl, tt)), (((tt, refl), (plain_local p.names x u is, (tt, tt))), tt)), (tt, tt))
old_good op (ToField object ot f u) p is =
    let a = is p in (((a.0, (refl, a.1)), ((tt, (refl, tt)), (((tt, (tt, refl)), (tt, (tt, tt))), tt))), (tt, tt))
old_good op (ToElement a i) p is =
    let o = temporary types.IntArray (a p).0 in
    let x = is.0 p in
    let y = is.1 o.0 in
    (((x.0, (refl, x.1)), ((y.0, (refl, y.1)), (((tt, tt), (refl, (tt, tt))), (((tt, tt, (tt, refl)), (tt, tt, (tt, tt))), tt)))), (tt, tt))
old_good op NoTarget p is = (tt, (tt, tt))

pub assign_good : (o : Option BinaryOp) (target : Target) (t : ValueType) (v : Progress → Made) (p : Progress) → GoodTarget target → GoodPart v → GoodSteps (assign_value o target t v p)
assign_good None target t v p is g = set_good target t v p is g
assign_good (Some op) target t v p is g = change_good op target v p is g

pub one_good : GoodPart one
one_good p = (refl, tt)

-- ---- operators

infix_good : (o : InfixOperator) (a b : Expr) → Good a → Good b → Good (infix_code o a b)
infix_good operators.OrElse a b g h = ((g.0, h.0), (g.1, h.1))
infix_good operators.AndAlso a b g h = ((g.0, h.0), (g.1, h.1))
infix_good operators.Equal a b g h = ((g.0, h.0), (g.1, h.1))
infix_good operators.NotEqual a b g h = ((g.0, h.0), (g.1, h.1))
infix_good operators.Less a b g h = ((g.0, h.0), (g.1, h.1))
infix_good operators.LessOrEqual a b g h = ((g.0, h.0), (g.1, h.1))
infix_good operators.Greater a b g h = ((g.0, h.0), (g.1, h.1))
infix_good operators.GreaterOrEqual a b g h = ((g.0, h.0), (g.1, h.1))
infix_good operators.Add a b g h = ((g.0, h.0), (g.1, h.1))
infix_good operators.Subtract a b g h = ((g.0, h.0), (g.1, h.1))
infix_good operators.Multiply a b g h = ((g.0, h.0), (g.1, h.1))
infix_good operators.Divide a b g h = ((g.0, h.0), (g.1, h.1))
infix_good operators.Remainder a b g h = ((g.0, h.0), (g.1, h.1))

cast_good : (t : ValueType) (e : Expr) → Good e → Good (cast_code t e)
cast_good (types.Class c) e g = g
cast_good types.IntArray e g = g
cast_good types.Int e g = g
cast_good types.Boolean e g = g
cast_good types.Null e g = g
cast_good types.Missing e g = g

instance_good : (t : ValueType) (e : Expr) → Good e → Good (instance_code t e)
instance_good (types.Class c) e g = g
instance_good types.IntArray e g = g
instance_good types.Int e g = g
instance_good types.Boolean e g = g
instance_good types.Null e g = g
instance_good types.Missing e g = g

-- ---- names and members

abbrev Fits : Option Variable → Type 0
Fits v = (n : ℤ) → v ≡ Some (variables.Constant n) → in_int n ≡ true

named_good : (p : Progress) (x : List ℕ) (t : Option ValueType) (v : Option Variable) → Fits v → Good (name_code p x (meaning_by t v))
named_good p x (Some t) v fits = (tt, tt)
named_good p x None (Some (variables.Field f t)) fits = (tt, tt)
named_good p x None (Some (variables.Constant n)) fits = (fits n refl, tt)
named_good p x None None fits = (tt, tt)

variable_good : (v : Option Variable) (p : Progress) (object : Progress → Made) → Fits v → GoodPart object → Good (variable_code v p object).1
variable_good None p object fits g = (tt, tt)
variable_good (Some (variables.Field f t)) p object fits g = g p
variable_good (Some (variables.Constant n)) p object fits g = (fits n refl, tt)

constant_good : (v : Option Variable) → Fits v → Good (constant_code v)
constant_good None fits = (tt, tt)
constant_good (Some (variables.Field f t)) fits = (tt, tt)
constant_good (Some (variables.Constant n)) fits = (fits n refl, tt)

name_target_good : (this : ValueType) (x : List ℕ) (m : Meaning) → IsName x → GoodTarget (name_target this x m)
name_target_good this x (meanings.Local t) is = is
name_target_good this x (meanings.Field f t) is = λ p. (tt, tt)
name_target_good this x (meanings.Constant n) is = tt
name_target_good this x meanings.Nothing is = tt

field_target_good : (object : Progress → Made) (t : ValueType) (v : Option Variable) → GoodPart object → GoodTarget (field_target object t v)
field_target_good object t None g = tt
field_target_good object t (Some (variables.Field f u)) g = g
field_target_good object t (Some (variables.Constant n)) g = tt

-- ---- calls

method_good : (b : Bool) (class : ℕ) (t : ValueType) (m : ℕ) (object : Made) (arguments : Progress → Progress × List Expr) → Good object.1 → GoodList arguments → Good (method_by b class t m object arguments).1
method_good true class t m object arguments g h =
    let k = temporary t object.0 in
    let r = exprs_good (arguments k.0).1 (h k.0) in
    (((g.0, tt), r.0), (((refl, g.1), tt), r.1))
method_good false class t m object arguments g h = let r = exprs_good (arguments object.0).1 (h object.0) in ((g.0, r.0), (g.1, r.1))

created_good : (c : ℕ) (constructor : Option ℕ) (a : Arguments) → GoodArguments a → GoodSteps (created c constructor a)
created_good c None a g = (in_order_good [] a.sets _ g.0 ((tt, refl), tt), (tt, tt))
created_good c (Some m) a g =
    let r = exprs_good a.values g.1 in (in_order_good [] a.sets _ g.0 ((tt, refl), (((tt, r.0), (tt, r.1)), tt)), (tt, tt))

-- a minus before what is no literal
signed : (b : Bool) (x : Expr) → Good x → Good (cond b (code.Unary unary.Negate x) x)
signed true x g = g
signed false x g = g

module _ (d : Declarations) (constants : ConstantsFit d) where
  fits : (c : ℕ) (x : List ℕ) → Fits (d.variable c x)
  fits c x n e = constants c x n e

  own_call_good : (class : ℕ) (c : Callee) (es : List Expr) → AllGood es → Good (own_call_code d class c (exprs_of es))
  own_call_good class (callees.Routine m) es g = by (d.signature m).static
    where
      by : (b : Bool) → Good (own_call_by d b class m (exprs_of es))
      by true = exprs_good es g
      by false = let r = exprs_good es g in ((tt, r.0), (tt, r.1))
  own_call_good class callees.Nothing es g = (tt, tt)
  own_call_good class callees.Anything es g = (tt, tt)

  static_call_good : (c : Callee) (es : List Expr) → AllGood es → Good (static_call_code d c (exprs_of es))
  static_call_good (callees.Routine m) es g = exprs_good es g
  static_call_good callees.Nothing es g = (tt, tt)
  static_call_good callees.Anything es g = (tt, tt)

  member_good : (x : List ℕ) (c : Option ℕ) (t : ValueType) (p : Progress) (object : Progress → Made) → GoodPart object → Good (member_code d x c t p object).1
  member_good x (Some c) t p object g = constant_good (d.variable c x) (fits c x)
  member_good x None (types.Class c) p object g = variable_good (d.variable c x) p object (fits c x) g
  member_good x None types.IntArray p object g = g p
  member_good x None types.Int p object g = g p
  member_good x None types.Boolean p object g = g p
  member_good x None types.Null p object g = g p
  member_good x None types.Missing p object g = g p

  member_target_good : (object : Progress → Made) (x : List ℕ) (c : Option ℕ) (t : ValueType) → GoodPart object → GoodTarget (member_target d object x c t)
  member_target_good object x (Some c) t g = tt
  member_target_good object x None (types.Class c) g = field_target_good object (types.Class c) (d.variable c x) g
  member_target_good object x None types.IntArray g = tt
  member_target_good object x None types.Int g = tt
  member_target_good object x None types.Boolean g = tt
  member_target_good object x None types.Null g = tt
  member_target_good object x None types.Missing g = tt

  method_on_good : (class : ℕ) (m : Option ℕ) (object : Made) (arguments : Progress → Progress × List Expr) → Good object.1 → GoodList arguments → Good (method_on d class m object arguments).1
  method_on_good class None object arguments g h = (tt, tt)
  method_on_good class (Some m) object arguments g h = method_good (d.signature m).static class (types.Class class) m object arguments g h

  called_good : (m : List ℕ) (c : Option ℕ) (t : ValueType) (object : Progress → Made) (arguments : Progress → Progress × List Expr) (p : Progress) → GoodPart object → GoodList arguments → Good (called d m c t object arguments p).1
  called_good m (Some c) t object arguments p g h = static_call_good (callee_by (d.method c m)) (arguments p).1 (h p)
  called_good m None (types.Class c) object arguments p g h = method_on_good c (d.method c m) (object p) arguments (g p) h
  called_good m None types.IntArray object arguments p g h = (tt, tt)
  called_good m None types.Int object arguments p g h = (tt, tt)
  called_good m None types.Boolean object arguments p g h = (tt, tt)
  called_good m None types.Null object arguments p g h = (tt, tt)
  called_good m None types.Missing object arguments p g h = (tt, tt)

  new_good : (c : Option ℕ) (arguments : Progress → Arguments) (p : Progress) → ((q : Progress) → GoodArguments (arguments q)) → Good (new_code d c arguments p).1
  new_good None arguments p g = (tt, tt)
  new_good (Some c) arguments p g = steps_good (created c (d.constructor c) (arguments p)) (created_good c (d.constructor c) (arguments p) (g p))

  module _ (place : Place) (locals : List Local) where
    abbrev made : JavaExpr → Progress → Expr
    made e p = (code_of d place locals e p).1

    mutual
      pub good : (b : Bool) (e : JavaExpr) → IsLexical b e → (p : Progress) → Good (cond b (minus_code e (made e p)) (made e p))
      good true (java.Integer at n) l p = (negative n l, tt)
      good false (java.Integer at n) l p = (literal n l, tt)
      good b (java.Boolean at v) l p = signed b (made (java.Boolean at v) p) (tt, tt)
      good b (java.Null at) l p = signed b (made (java.Null at) p) (tt, tt)
      good b (java.This at) l p = signed b (made (java.This at) p) (tt, tt)
      good b (java.Name at x) l p = signed b (made (java.Name at x) p) (named_good p x (local_named locals x) (d.variable place.class x) (fits place.class x))
      good b (java.Field at e x) l p =
          signed b (made (java.Field at e x) p) (member_good x.name (class_before d place locals e) (type_before d place locals e) p (code_of d place locals e) (good false e l))
      good b (java.Parenthesized at e) l p = signed b (made (java.Parenthesized at e) p) (good false e l p)
      good b (java.Call at m es) l p =
          signed b (made (java.Call at m es) p) (own_call_good place.class (callee_by (d.method place.class m)) (codes_of d place locals es p).1 (all_good es l p))
      good b (java.MethodCall at e m es) l p =
          signed b (made (java.MethodCall at e m es) p)
          (called_good m.name (class_before d place locals e) (type_before d place locals e) (code_of d place locals e) (codes_of d place locals es) p (good false e l.0) (all_good es l.1))
      good b (java.New at c es) l p =
          signed b (made (java.New at c es) p) (new_good (d.class_named c.name) (arguments_of d place locals es) p (arguments_good es l))
      good b (java.NewArray at e) l p =
          signed b (made (java.NewArray at e) p)
          (let a = good false e l p in steps_good (created_array (code_of d place locals e p)) (((a.0, (refl, a.1)), ((tt, (refl, tt)), tt)), (tt, tt)))
      good b (java.Index at a i) l p =
          signed b (made (java.Index at a i) p) (let x = good false a l.0 p in let y = good false i l.1 (code_of d place locals a p).0 in ((x.0, y.0), (x.1, y.1)))
      good b (java.Prefix at prefixes.Plus e) l p = signed b (made (java.Prefix at prefixes.Plus e) p) (good false e l p)
      good b (java.Prefix at prefixes.Minus e) l p = signed b (made (java.Prefix at prefixes.Minus e) p) (good true e l p)
      good b (java.Prefix at prefixes.Not e) l p = signed b (made (java.Prefix at prefixes.Not e) p) (good false e l p)
      good b (java.Prefix at (prefixes.Count c) e) l p =
          signed b (made (java.Prefix at (prefixes.Count c) e) p)
          (steps_good (change_value (count_operation c) (target_of d place locals e) one p) (change_good (count_operation c) (target_of d place locals e) one p (target_good e l) one_good))
      good b (java.Postfix at c e) l p =
          signed b (made (java.Postfix at c e) p) (steps_good (old_value (count_operation c) (target_of d place locals e) p) (old_good (count_operation c) (target_of d place locals e) p (target_good e l)))
      good b (java.Cast at w e) l p = signed b (made (java.Cast at w e) p) (cast_good (type_by d.class_named w.written) (made e p) (good false e l p))
      good b (java.Infix at o x y) l p =
          signed b (made (java.Infix at o x y) p) (infix_good o (made x p) (made y (code_of d place locals x p).0) (good false x l.0 p) (good false y l.1 (code_of d place locals x p).0))
      good b (java.InstanceOf at e w) l p = signed b (made (java.InstanceOf at e w) p) (instance_good (type_by d.class_named w.written) (made e p) (good false e l p))
      good b (java.Conditional at c x y) l p =
          let q = (code_of d place locals c p).0 in
          let f = good false c l.0 p in
          let g = good false x l.1 q in
          let h = good false y l.2 (code_of d place locals x q).0 in
          signed b (made (java.Conditional at c x y) p) ((f.0, g.0, h.0), (f.1, g.1, h.1))
      good b (java.Assign at o e v) l p =
          signed b (made (java.Assign at o e v) p)
          (steps_good (assign_value (assignment_operation o) (target_of d place locals e) (type_before d place locals v) (code_of d place locals v) p)
          (assign_good (assignment_operation o) (target_of d place locals e) (type_before d place locals v) (code_of d place locals v) p (target_good e l.0) (good false v l.1)))

      pub target_good : (e : JavaExpr) → IsLexical false e → GoodTarget (target_of d place locals e)
      target_good (java.Name at x) l = name_target_good (types.Class place.class) x (meaning d place locals x) l
      target_good (java.Field at e x) l = member_target_good (code_of d place locals e) x.name (class_before d place locals e) (type_before d place locals e) (good false e l)
      target_good (java.Parenthesized at e) l = target_good e l
      target_good (java.Index at a i) l = (good false a l.0, good false i l.1)
      target_good (java.Integer at n) l = tt
      target_good (java.Boolean at v) l = tt
      target_good (java.Null at) l = tt
      target_good (java.This at) l = tt
      target_good (java.Call at m es) l = tt
      target_good (java.MethodCall at e m es) l = tt
      target_good (java.New at c es) l = tt
      target_good (java.NewArray at e) l = tt
      target_good (java.Prefix at o e) l = tt
      target_good (java.Postfix at c e) l = tt
      target_good (java.Cast at w e) l = tt
      target_good (java.Infix at o x y) l = tt
      target_good (java.InstanceOf at e w) l = tt
      target_good (java.Conditional at c x y) l = tt
      target_good (java.Assign at o e v) l = tt

      pub all_good : (es : JavaExprs) → AreLexical es → GoodList (codes_of d place locals es)
      all_good java.NoExprs l p = tt
      all_good (java.ExprThen e es) l p = (good false e l.0 p, all_good es l.1 (code_of d place locals e p).0)

      pub arguments_good : (es : JavaExprs) → AreLexical es → (p : Progress) → GoodArguments (arguments_of d place locals es p)
      arguments_good java.NoExprs l p = (tt, tt)
      arguments_good (java.ExprThen e es) l p =
          let a = good false e l.0 p in
          let k = temporary (type_before d place locals e) (code_of d place locals e p).0 in
          let r = arguments_good es l.1 k.0 in
          (((a.0, (refl, a.1)), r.0), ((tt, tt), r.1))

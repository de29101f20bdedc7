-- Literals and variables that expressions are: a variable is one in scope, and `this` is refused.
use Rattle.std.proofs.Common.{List, None, Option, Some, Result, Ok, Err, refl, ap, length, map, not, sym, true, true≢false, ◌++◌, ◌∙◌, ◌≡◌, ◌≤◌, ℕ, Bool, false}
use Rattle.std.specs.List.{find}
use Rattle.std.specs.Str.{bytes_eq}
use Rattle.jd_base.specs.declared.sort.Sort.{Sort}
use Rattle.jd_bodies.specs.declared.fault.Cause.{Cause}
use Rattle.jd_bodies.specs.declared.fault.Fault.{Fault}
use Rattle.jd_bodies.specs.declared.given.Given.{Given}
use Rattle.jd_bodies.specs.declared.place.Place.{Place}
use Rattle.jd_bodies.specs.declared.value.Callee.{Callee}
use Rattle.jd_bodies.specs.declared.value.Callee.TheVariants as callees
use Rattle.jd_bodies.specs.declared.value.ValueType.{ValueType}
use Rattle.jd_bodies.specs.declared.value.ValueType.TheVariants as types
use Rattle.jd_bodies.specs.declared.value.Variable.{Variable}
use Rattle.jd_bodies.specs.declared.value.Variable.TheVariants as variables
use Rattle.jd_bodies.specs.Codes.{Arguments, Made, arguments_of, called, cast_code, code_of, codes_of, constant_code, infix_code, instance_code, member_code, method_by, method_on, minus_code, name_code, new_code, own_call_by, own_call_code, prefix_code, static_call_code, target_of, type_before, variable_code, Target}
use Rattle.jd_bodies.specs.Declarations.{Declarations, type_by}
use Rattle.jd_bodies.specs.Expressions.{at_of, callee_by, class_before, given, prefix_gives, related, value_at, valued, wanted, written_type}
use Rattle.jd_bodies.specs.Judgements.{and_then, only_if}
use Rattle.jd_bodies.specs.Scopes.{Local, local_named, meaning_by}
use Rattle.jd_bodies.specs.Variables.{Progress, count_of, local_name, local_text}
use Rattle.jd_first_form.specs.Steps.{is_simple}
use Rattle.jd_local_texts.specs.Laws.{TextsOfLocalsAreApart}
use Rattle.jd_model.specs.ResolvedBodies.{IsResolvedExpr}
use Rattle.jd_programs.specs.Programs.{variable_name}
use Rattle.jd_syntax.specs.Codes as code
use Rattle.jd_syntax.specs.Codes.{Expr, Exprs}
use Rattle.jd_syntax.specs.JavaTrees as java
use Rattle.jd_syntax.specs.JavaTrees.{JavaExpr}
use Rattle.jd_syntax.specs.Names.{Name}
use Rattle.jd_syntax.specs.declared.java.InfixOperator.{InfixOperator}
use Rattle.jd_syntax.specs.declared.java.InfixOperator.TheVariants as operators
use Rattle.jd_syntax.specs.declared.java.PrefixOperator.{PrefixOperator}
use Rattle.jd_syntax.specs.declared.java.PrefixOperator.TheVariants as prefixes
use Rattle.jd_tforms.specs.Known.{ExprKnown, IsVariable}
use Rattle.jd_tforms.specs.Sorted.{Returns, expr_sort, expr_sorted, is_some_sort, is_value}
use Rattle.jd_tgrammar.specs.NameTables.{NameTable}
use Rattle.jd_straight_bodies.proofs.Found.{IsFound, Stands, find_kept, limit, written_whole}
use Rattle.jd_straight_bodies.proofs.Words.{literal_expr, of_value, variable_expr, variable_is}

pub through : {A B : Type 0} (f : A → Result B Fault) (r : Result A Fault) (b : B) → and_then f r ≡ Ok b → (a : A) × (r ≡ Ok a) × (f a ≡ Ok b)
through f (Ok a) b e = (a, refl, e)
through f (Err x) b e = absurd cc

pub given_of : (at : ℕ) (r : Result Given Fault) (t : ValueType) → valued at r ≡ Ok t → (g : Given) × (r ≡ Ok g)
given_of at r t e = let h = through (value_at at) r t e in (h.0, h.1)

no_this : (b : Bool) (at : ℕ) (cause : Cause) (g h : Given) → b ≡ true → only_if (not b) at cause g ≡ Ok h → ⊥
no_this true at cause g h static e = cc
no_this false at cause g h static e = true≢false (sym static)

-- ---- variables that are made, in a table of names

-- a variable by its word, also as an expression, whose values Java has
abbrev pub KnownVariable : NameTable → Name → Type 0
KnownVariable names x = IsVariable names x × ExprKnown names (code.Variable x) × (is_value x.sort ≡ true)

-- the table has these variables first
pub record IsTable (names : NameTable) (p : Progress) : Type 0 where
  pub rest : List Name
  pub is : names.variables ≡ map variable_name p.variables ++ rest

pub found_known : TextsOfLocalsAreApart → (names : NameTable) (p : Progress) → IsTable names p → length p.names ≤ limit → (x : List ℕ) (t : ValueType) → IsFound p x t → KnownVariable names (local_name p.names x t)
found_known texts names p table few x t f =
    let k = count_of x p.names in
    let lt = written_whole x p.names few in
    let word = texts.word x k lt f.word in
    let is = variable_is names (local_name p.names x t) word
    (ap (find (λ (v : Name). bytes_eq v.text (local_text x k))) table.is ∙ find_kept (λ (v : Name). bytes_eq v.text (local_text x k)) (map variable_name p.variables) table.rest (local_name p.names x t) f.there) in
    (is, variable_expr names (local_name p.names x t) word (texts.no_literal x k lt f.some f.word) is, of_value t)

-- ---- what an expression is, if it is a variable

module _ (names : NameTable) where
  abbrev pub IsFine : Expr → Type 0
  IsFine (code.Variable x) = KnownVariable names x
  IsFine e = Unit {0}

  -- a simple one that is known, and has the sort
  pub simple_known : (r : Returns) (s : Sort) (e : Expr) → is_simple s e ≡ true → IsResolvedExpr e → IsFine e → ExprKnown names e × (is_some_sort s (expr_sort names e) ≡ true) × (expr_sorted names r e ≡ true)
  simple_known r s (code.IntLiteral z) simple fits fine = (literal_expr names z fits, simple, refl)
  simple_known r s (code.BoolLiteral b) simple fits fine = (tt, simple, refl)
  simple_known r s code.NullLiteral simple fits fine = (tt, simple, refl)
  simple_known r s (code.Variable x) simple fits fine = (fine.1, simple, fine.2)
  simple_known r s e simple fits fine = absurd (true≢false (sym simple))

  minus_fine : (e : JavaExpr) (c : Expr) → IsFine (minus_code e c)
  minus_fine (java.Integer at n) c = tt
  minus_fine e c = tt

  cast_fine : (t : ValueType) (e : Expr) → IsFine e → IsFine (cast_code t e)
  cast_fine (types.Class c) e g = tt
  cast_fine types.IntArray e g = tt
  cast_fine types.Int e g = g
  cast_fine types.Boolean e g = g
  cast_fine types.Null e g = g
  cast_fine types.Missing e g = g

  instance_fine : (t : ValueType) (e : Expr) → IsFine (instance_code t e)
  instance_fine (types.Class c) e = tt
  instance_fine t e = tt

  infix_fine : (o : InfixOperator) (a b : Expr) → IsFine (infix_code o a b)
  infix_fine operators.OrElse a b = tt
  infix_fine operators.AndAlso a b = tt
  infix_fine operators.Equal a b = tt
  infix_fine operators.NotEqual a b = tt
  infix_fine operators.Less a b = tt
  infix_fine operators.LessOrEqual a b = tt
  infix_fine operators.Greater a b = tt
  infix_fine operators.GreaterOrEqual a b = tt
  infix_fine operators.Add a b = tt
  infix_fine operators.Subtract a b = tt
  infix_fine operators.Multiply a b = tt
  infix_fine operators.Divide a b = tt
  infix_fine operators.Remainder a b = tt

  variable_fine : (v : Option Variable) (p : Progress) (object : Progress → Made) → IsFine (variable_code v p object).1
  variable_fine None p object = tt
  variable_fine (Some (variables.Field f t)) p object = tt
  variable_fine (Some (variables.Constant n)) p object = tt

  constant_fine : (v : Option Variable) → IsFine (constant_code v)
  constant_fine None = tt
  constant_fine (Some (variables.Field f t)) = tt
  constant_fine (Some (variables.Constant n)) = tt

  method_fine : (b : Bool) (class : ℕ) (t : ValueType) (m : ℕ) (object : Made) (arguments : Progress → Progress × List Expr) → IsFine (method_by b class t m object arguments).1
  method_fine true class t m object arguments = tt
  method_fine false class t m object arguments = tt

  module _ (d : Declarations) where
    member_fine : (x : List ℕ) (c : Option ℕ) (t : ValueType) (p : Progress) (object : Progress → Made) → IsFine (member_code d x c t p object).1
    member_fine x (Some c) t p object = constant_fine (d.variable c x)
    member_fine x None (types.Class c) p object = variable_fine (d.variable c x) p object
    member_fine x None t p object = tt

    own_fine : (b : Bool) (class m : ℕ) (es : Exprs) → IsFine (own_call_by d b class m es)
    own_fine true class m es = tt
    own_fine false class m es = tt

    own_call_fine : (class : ℕ) (c : Callee) (es : Exprs) → IsFine (own_call_code d class c es)
    own_call_fine class (callees.Routine m) es = own_fine (d.signature m).static class m es
    own_call_fine class c es = tt

    static_fine : (c : Callee) (es : Exprs) → IsFine (static_call_code d c es)
    static_fine (callees.Routine m) es = tt
    static_fine c es = tt

    method_on_fine : (class : ℕ) (m : Option ℕ) (object : Made) (arguments : Progress → Progress × List Expr) → IsFine (method_on d class m object arguments).1
    method_on_fine class None object arguments = tt
    method_on_fine class (Some m) object arguments = method_fine (d.signature m).static class (types.Class class) m object arguments

    called_fine : (m : List ℕ) (c : Option ℕ) (t : ValueType) (object : Progress → Made) (arguments : Progress → Progress × List Expr) (p : Progress) → IsFine (called d m c t object arguments p).1
    called_fine m (Some c) t object arguments p = static_fine (callee_by (d.method c m)) _
    called_fine m None (types.Class c) object arguments p = method_on_fine c (d.method c m) (object p) arguments
    called_fine m None t object arguments p = tt

    new_fine : (c : Option ℕ) (arguments : Progress → Arguments) (p : Progress) → IsFine (new_code d c arguments p).1
    new_fine None arguments p = tt
    new_fine (Some c) arguments p = tt

    module _ (texts : TextsOfLocalsAreApart) (place : Place) (static : place.is_static ≡ true) (locals : List Local) (p : Progress) (table : IsTable names p) (few : length p.names ≤ limit) (stands : Stands p locals) where
      pub local_known : (x : List ℕ) (t : ValueType) → local_named locals x ≡ Some t → KnownVariable names (local_name p.names x t)
      local_known x t e = found_known texts names p table few x t (stands.found x t e)

      name_fine : (x : List ℕ) (o : Option ValueType) (v : Option Variable) → local_named locals x ≡ o → IsFine (name_code p x (meaning_by o v))
      name_fine x (Some t) v e = local_known x t e
      name_fine x None None e = tt
      name_fine x None (Some (variables.Field f t)) e = tt
      name_fine x None (Some (variables.Constant n)) e = tt

      prefix_fine : (o : PrefixOperator) (at : ℕ) (e : JavaExpr) (target : Target) (part : Progress → Made) (r : Result Given Fault) (g : Given) → prefix_gives d o at r ≡ Ok g → ((h : Given) → r ≡ Ok h → IsFine (part p).1) → IsFine (prefix_code o target (minus_code e) part p).1
      prefix_fine prefixes.Plus at e _ part r g is fine =
          let h = through (λ t. and_then (λ u. _) (wanted d types.Int at t)) (valued at r) g is in
          let i = given_of at r h.0 h.1 in
          fine i.0 i.1
      prefix_fine prefixes.Minus at e _ part r g is fine = minus_fine e (part p).1
      prefix_fine prefixes.Not at e _ part r g is fine = tt
      prefix_fine (prefixes.Count c) at e _ part r g is fine = tt

      pub expr_fine : (e : JavaExpr) (g : Given) → given d place locals e ≡ Ok g → IsFine (code_of d place locals e p).1
      expr_fine (java.Integer at n) g is = tt
      expr_fine (java.Boolean at b) g is = tt
      expr_fine (java.Null at) g is = tt
      expr_fine (java.This at) g is = absurd (no_this place.is_static at _ _ g static is)
      expr_fine (java.Name at x) g is = name_fine x (local_named locals x) (d.variable place.class x) refl
      expr_fine (java.Field at e x) g is = member_fine x.name (class_before d place locals e) (type_before d place locals e) p (code_of d place locals e)
      expr_fine (java.Parenthesized at e) g is = let h = through _ (given d place locals e) g is in expr_fine e h.0 h.1
      expr_fine (java.Call at m es) g is = own_call_fine place.class (callee_by (d.method place.class m)) _
      expr_fine (java.MethodCall at e m es) g is =
          called_fine m.name (class_before d place locals e) (type_before d place locals e) (code_of d place locals e) (codes_of d place locals es) p
      expr_fine (java.New at c es) g is = new_fine (d.class_named c.name) (arguments_of d place locals es) p
      expr_fine (java.NewArray at e) g is = tt
      expr_fine (java.Index at a i) g is = tt
      expr_fine (java.Prefix at o e) g is = prefix_fine o (at_of e) e (target_of d place locals e) (code_of d place locals e) (given d place locals e) g is (λ h. expr_fine e h)
      expr_fine (java.Postfix at c e) g is = tt
      expr_fine (java.Cast at w e) g is =
          let h = through (λ t. and_then (λ u. related d at u t t) (valued (at_of e) (given d place locals e))) (written_type d w) g is in
          let i = through (λ u. related d at u h.0 h.0) (valued (at_of e) (given d place locals e)) g h.2 in
          let j = given_of (at_of e) (given d place locals e) i.0 i.1 in
          cast_fine (type_by d.class_named w.written) (code_of d place locals e p).1 (expr_fine e j.0 j.1)
      expr_fine (java.Infix at o a b) g is = infix_fine o _ _
      expr_fine (java.InstanceOf at e w) g is = instance_fine (type_by d.class_named w.written) (code_of d place locals e p).1
      expr_fine (java.Conditional at c a b) g is = tt
      expr_fine (java.Assign at o e v) g is = tt

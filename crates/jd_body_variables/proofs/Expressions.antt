-- The making of an expression adds variables behind those that are there.
use Rattle.std.proofs.Common.{ℕ, Bool, true, false, List, Option, Some, None}
use Rattle.jd_syntax.specs.JavaTrees as java
use Rattle.jd_syntax.specs.JavaTrees.{JavaExpr, JavaExprs}
use Rattle.jd_syntax.specs.Codes.{Expr}
use Rattle.jd_syntax.specs.declared.code.BinaryOp.{BinaryOp}
use Rattle.jd_syntax.specs.declared.java.PrefixOperator.{PrefixOperator}
use Rattle.jd_syntax.specs.declared.java.PrefixOperator.TheVariants as prefixes
use Rattle.jd_bodies.specs.declared.place.Meaning.{Meaning}
use Rattle.jd_bodies.specs.declared.place.Meaning.TheVariants as meanings
use Rattle.jd_bodies.specs.declared.place.Place.{Place}
use Rattle.jd_bodies.specs.declared.value.Variable.{Variable}
use Rattle.jd_bodies.specs.declared.value.Variable.TheVariants as variables
use Rattle.jd_bodies.specs.declared.value.ValueType.{ValueType}
use Rattle.jd_bodies.specs.declared.value.ValueType.TheVariants as types
use Rattle.jd_bodies.specs.Codes.{Arguments, Made, Target, ToLocal, ToField, ToElement, NoTarget, arguments_of, assign_value, assignment_operation, called, change_value, code_of, codes_of, count_operation, field_target, member_code, member_target, method_by, method_on, minus_code, name_target, new_code, old_value, one, prefix_code, set_value, target_of, type_before, variable_code}
use Rattle.jd_bodies.specs.Declarations.{Declarations}
use Rattle.jd_bodies.specs.Expressions.{class_before}
use Rattle.jd_bodies.specs.Scopes.{Local, meaning}
use Rattle.jd_bodies.specs.Variables.{Progress, temporary}
use Rattle.jd_body_variables.proofs.Growing.{Grows, joined, kept, stays}

module _ (test : List ℕ → Bool) (L : Type 0) where
  abbrev pub GrowsPart : (Progress → Made) → Type 0
  GrowsPart f = (p : Progress) → Grows test L p (f p).0

  abbrev pub GrowsList : (Progress → Progress × List Expr) → Type 0
  GrowsList f = (p : Progress) → Grows test L p (f p).0

  abbrev pub GrowsArguments : (Progress → Arguments) → Type 0
  GrowsArguments f = (p : Progress) → Grows test L p (f p).progress

  abbrev pub GrowsTarget : Target → Type 0
  GrowsTarget (ToLocal x t) = Unit {0}
  GrowsTarget (ToField object ot f t) = GrowsPart object
  GrowsTarget (ToElement a i) = GrowsPart a × GrowsPart i
  GrowsTarget NoTarget = Unit {0}

  -- a part behind others, and in a temporary
  pub then_part : (f : Progress → Made) (p q : Progress) → GrowsPart f → Grows test L p q → Grows test L p (f q).0
  then_part f p q g h = joined test L p q (f q).0 h (g q)

  pub then_list : (f : Progress → Progress × List Expr) (p q : Progress) → GrowsList f → Grows test L p q → Grows test L p (f q).0
  then_list f p q g h = joined test L p q (f q).0 h (g q)

  pub then_kept : (t : ValueType) (f : Progress → Made) (p q : Progress) → GrowsPart f → Grows test L p q → Grows test L p (temporary t (f q).0).0
  then_kept t f p q g h = kept test L t p (f q).0 (then_part f p q g h)

  pub one_grows : GrowsPart one
  one_grows p = stays test L p

  -- ---- assignments

  set_grows : (target : Target) (t : ValueType) (v : Progress → Made) (p : Progress) → GrowsTarget target → GrowsPart v → Grows test L p (set_value target t v p).progress
  set_grows (ToLocal x u) t v p is g = then_kept t v p p g (stays test L p)
  set_grows (ToField object ot f u) t v p is g =
      let o = temporary ot (object p).0 in then_kept t v p o.0 g (then_kept ot object p p is (stays test L p))
  set_grows (ToElement a i) t v p is g =
      let o = temporary types.IntArray (a p).0 in
      let j = temporary types.Int (i o.0).0 in
      then_kept t v p j.0 g (then_kept types.Int i p o.0 is.1 (then_kept types.IntArray a p p is.0 (stays test L p)))
  set_grows NoTarget t v p is g = stays test L p

  change_grows : (op : BinaryOp) (target : Target) (v : Progress → Made) (p : Progress) → GrowsTarget target → GrowsPart v → Grows test L p (change_value op target v p).progress
  change_grows op (ToLocal x u) v p is g = then_kept types.Int v p p g (stays test L p)
  change_grows op (ToField object ot f u) v p is g =
      let o = temporary ot (object p).0 in
      let k = temporary u o.0 in
      then_kept types.Int v p k.0 g (kept test L u p o.0 (then_kept ot object p p is (stays test L p)))
  change_grows op (ToElement a i) v p is g =
      let o = temporary types.IntArray (a p).0 in
      let j = temporary types.Int (i o.0).0 in
      let k = temporary types.Int j.0 in
      then_kept types.Int v p k.0 g (kept test L types.Int p j.0 (then_kept types.Int i p o.0 is.1 (then_kept types.IntArray a p p is.0 (stays test L p))))
  change_grows op NoTarget v p is g = stays test L p

  old_grows : (op : BinaryOp) (target : Target) (p : Progress) → GrowsTarget target → Grows test L p (old_value op target p).progress
  old_grows op (ToLocal x u) p is = kept test L types.Int p p (stays test L p)
  old_grows op (ToField object ot f u) p is =
      let o = temporary ot (object p).0 in kept test L u p o.0 (then_kept ot object p p is (stays test L p))
  old_grows op (ToElement a i) p is =
      let o = temporary types.IntArray (a p).0 in
      let j = temporary types.Int (i o.0).0 in
      kept test L types.Int p j.0 (then_kept types.Int i p o.0 is.1 (then_kept types.IntArray a p p is.0 (stays test L p)))
  old_grows op NoTarget p is = stays test L p

  assign_grows : (o : Option BinaryOp) (target : Target) (t : ValueType) (v : Progress → Made) (p : Progress) → GrowsTarget target → GrowsPart v → Grows test L p (assign_value o target t v p).progress
  assign_grows None target t v p is g = set_grows target t v p is g
  assign_grows (Some op) target t v p is g = change_grows op target v p is g

  -- ---- names and members

  variable_grows : (v : Option Variable) (p : Progress) (object : Progress → Made) → GrowsPart object → Grows test L p (variable_code v p object).0
  variable_grows None p object g = stays test L p
  variable_grows (Some (variables.Field f t)) p object g = g p
  variable_grows (Some (variables.Constant n)) p object g = stays test L p

  name_target_grows : (this : ValueType) (x : List ℕ) (m : Meaning) → GrowsTarget (name_target this x m)
  name_target_grows this x (meanings.Local t) = tt
  name_target_grows this x (meanings.Field f t) = λ p. stays test L p
  name_target_grows this x (meanings.Constant n) = tt
  name_target_grows this x meanings.Nothing = tt

  field_target_grows : (object : Progress → Made) (t : ValueType) (v : Option Variable) → GrowsPart object → GrowsTarget (field_target object t v)
  field_target_grows object t None g = tt
  field_target_grows object t (Some (variables.Field f u)) g = g
  field_target_grows object t (Some (variables.Constant n)) g = tt

  prefix_grows : (o : PrefixOperator) (target : Target) (minus : Expr → Expr) (part : Progress → Made) (p : Progress) → GrowsTarget target → GrowsPart part → Grows test L p (prefix_code o target minus part p).0
  prefix_grows prefixes.Plus _ minus part p is g = g p
  prefix_grows prefixes.Minus _ minus part p is g = g p
  prefix_grows prefixes.Not _ minus part p is g = g p
  prefix_grows (prefixes.Count c) target minus part p is g = change_grows (count_operation c) target one p is one_grows

  -- ---- calls, behind what is made so far

  method_grows : (b : Bool) (class : ℕ) (t : ValueType) (m : ℕ) (p : Progress) (object : Made) (arguments : Progress → Progress × List Expr) → Grows test L p object.0 → GrowsList arguments → Grows test L p (method_by b class t m object arguments).0
  method_grows true class t m p object arguments g h = let k = temporary t object.0 in then_list arguments p k.0 h (kept test L t p object.0 g)
  method_grows false class t m p object arguments g h = then_list arguments p object.0 h g

  module _ (d : Declarations) where
    member_grows : (x : List ℕ) (c : Option ℕ) (t : ValueType) (p : Progress) (object : Progress → Made) → GrowsPart object → Grows test L p (member_code d x c t p object).0
    member_grows x (Some c) t p object g = stays test L p
    member_grows x None (types.Class c) p object g = variable_grows (d.variable c x) p object g
    member_grows x None types.IntArray p object g = g p
    member_grows x None types.Int p object g = g p
    member_grows x None types.Boolean p object g = g p
    member_grows x None types.Null p object g = g p
    member_grows x None types.Missing p object g = g p

    member_target_grows : (object : Progress → Made) (x : List ℕ) (c : Option ℕ) (t : ValueType) → GrowsPart object → GrowsTarget (member_target d object x c t)
    member_target_grows object x (Some c) t g = tt
    member_target_grows object x None (types.Class c) g = field_target_grows object (types.Class c) (d.variable c x) g
    member_target_grows object x None types.IntArray g = tt
    member_target_grows object x None types.Int g = tt
    member_target_grows object x None types.Boolean g = tt
    member_target_grows object x None types.Null g = tt
    member_target_grows object x None types.Missing g = tt

    method_on_grows : (class : ℕ) (m : Option ℕ) (p : Progress) (object : Made) (arguments : Progress → Progress × List Expr) → Grows test L p object.0 → GrowsList arguments → Grows test L p (method_on d class m object arguments).0
    method_on_grows class None p object arguments g h = g
    method_on_grows class (Some m) p object arguments g h = method_grows (d.signature m).static class (types.Class class) m p object arguments g h

    called_grows : (m : List ℕ) (c : Option ℕ) (t : ValueType) (object : Progress → Made) (arguments : Progress → Progress × List Expr) (p : Progress) → GrowsPart object → GrowsList arguments → Grows test L p (called d m c t object arguments p).0
    called_grows m (Some c) t object arguments p g h = h p
    called_grows m None (types.Class c) object arguments p g h = method_on_grows c (d.method c m) p (object p) arguments (g p) h
    called_grows m None types.IntArray object arguments p g h = stays test L p
    called_grows m None types.Int object arguments p g h = stays test L p
    called_grows m None types.Boolean object arguments p g h = stays test L p
    called_grows m None types.Null object arguments p g h = stays test L p
    called_grows m None types.Missing object arguments p g h = stays test L p

    new_grows : (c : Option ℕ) (arguments : Progress → Arguments) (p : Progress) → GrowsArguments arguments → Grows test L p (new_code d c arguments p).0
    new_grows None arguments p g = stays test L p
    new_grows (Some c) arguments p g = kept test L (types.Class c) p (arguments p).progress (g p)

    module _ (place : Place) (locals : List Local) where
      mutual
        pub code_grows : (e : JavaExpr) (p : Progress) → Grows test L p (code_of d place locals e p).0
        code_grows (java.Integer at n) p = stays test L p
        code_grows (java.Boolean at b) p = stays test L p
        code_grows (java.Null at) p = stays test L p
        code_grows (java.This at) p = stays test L p
        code_grows (java.Name at x) p = stays test L p
        code_grows (java.Field at e x) p = member_grows x.name (class_before d place locals e) (type_before d place locals e) p (code_of d place locals e) (code_grows e)
        code_grows (java.Parenthesized at e) p = code_grows e p
        code_grows (java.Call at m es) p = codes_grow es p
        code_grows (java.MethodCall at e m es) p =
            called_grows m.name (class_before d place locals e) (type_before d place locals e) (code_of d place locals e) (codes_of d place locals es) p (code_grows e) (codes_grow es)
        code_grows (java.New at c es) p = new_grows (d.class_named c.name) (arguments_of d place locals es) p (arguments_grow es)
        code_grows (java.NewArray at e) p =
            let k = temporary types.Int (code_of d place locals e p).0 in kept test L types.IntArray p k.0 (kept test L types.Int p (code_of d place locals e p).0 (code_grows e p))
        code_grows (java.Index at a i) p = then_part (code_of d place locals i) p (code_of d place locals a p).0 (code_grows i) (code_grows a p)
        code_grows (java.Prefix at o e) p = prefix_grows o (target_of d place locals e) (minus_code e) (code_of d place locals e) p (target_grows e) (code_grows e)
        code_grows (java.Postfix at c e) p = old_grows (count_operation c) (target_of d place locals e) p (target_grows e)
        code_grows (java.Cast at w e) p = code_grows e p
        code_grows (java.Infix at o a b) p = then_part (code_of d place locals b) p (code_of d place locals a p).0 (code_grows b) (code_grows a p)
        code_grows (java.InstanceOf at e w) p = code_grows e p
        code_grows (java.Conditional at c a b) p =
            let q = (code_of d place locals c p).0 in
            then_part (code_of d place locals b) p (code_of d place locals a q).0 (code_grows b) (then_part (code_of d place locals a) p q (code_grows a) (code_grows c p))
        code_grows (java.Assign at o e v) p =
            assign_grows (assignment_operation o) (target_of d place locals e) (type_before d place locals v) (code_of d place locals v) p (target_grows e) (code_grows v)

        pub target_grows : (e : JavaExpr) → GrowsTarget (target_of d place locals e)
        target_grows (java.Name at x) = name_target_grows (types.Class place.class) x (meaning d place locals x)
        target_grows (java.Field at e x) = member_target_grows (code_of d place locals e) x.name (class_before d place locals e) (type_before d place locals e) (code_grows e)
        target_grows (java.Parenthesized at e) = target_grows e
        target_grows (java.Index at a i) = (code_grows a, code_grows i)
        target_grows (java.Integer at n) = tt
        target_grows (java.Boolean at v) = tt
        target_grows (java.Null at) = tt
        target_grows (java.This at) = tt
        target_grows (java.Call at m es) = tt
        target_grows (java.MethodCall at e m es) = tt
        target_grows (java.New at c es) = tt
        target_grows (java.NewArray at e) = tt
        target_grows (java.Prefix at o e) = tt
        target_grows (java.Postfix at c e) = tt
        target_grows (java.Cast at w e) = tt
        target_grows (java.Infix at o x y) = tt
        target_grows (java.InstanceOf at e w) = tt
        target_grows (java.Conditional at c x y) = tt
        target_grows (java.Assign at o e v) = tt

        pub codes_grow : (es : JavaExprs) → GrowsList (codes_of d place locals es)
        codes_grow java.NoExprs p = stays test L p
        codes_grow (java.ExprThen e es) p = then_list (codes_of d place locals es) p (code_of d place locals e p).0 (codes_grow es) (code_grows e p)

        arguments_grow : (es : JavaExprs) → GrowsArguments (arguments_of d place locals es)
        arguments_grow java.NoExprs p = stays test L p
        arguments_grow (java.ExprThen e es) p =
            let k = temporary (type_before d place locals e) (code_of d place locals e p).0 in
            joined test L p k.0 (arguments_of d place locals es k.0).progress (kept test L (type_before d place locals e) p (code_of d place locals e p).0 (code_grows e p)) (arguments_grow es k.0)

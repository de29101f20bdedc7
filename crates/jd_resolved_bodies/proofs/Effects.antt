-- The code of expressions that stand as statements, and of declared locals, is resolved.
use Rattle.std.proofs.Common.{ℕ, Bool, true, false, List, [], ◌∷◌, Option, Some, None, refl}
use Rattle.jd_syntax.specs.JavaTypes.{PlainIdentifier, PlainWritten}
use Rattle.jd_syntax.specs.JavaTrees as java
use Rattle.jd_syntax.specs.JavaTrees.{JavaExpr, JavaExprs, JavaDeclarator, JavaForStart}
use Rattle.jd_syntax.specs.Codes as code
use Rattle.jd_syntax.specs.Codes.{Expr}
use Rattle.jd_syntax.specs.Names.{Name}
use Rattle.jd_syntax.specs.declared.code.BinaryOp.{BinaryOp}
use Rattle.jd_syntax.specs.declared.java.PrefixOperator.{PrefixOperator}
use Rattle.jd_syntax.specs.declared.java.PrefixOperator.TheVariants as prefixes
use Rattle.jd_model.specs.ResolvedBodies.{NotSpecial}
use Rattle.jd_bodies.specs.declared.place.Place.{Place}
use Rattle.jd_bodies.specs.declared.value.ValueType.{ValueType}
use Rattle.jd_bodies.specs.declared.value.ValueType.TheVariants as types
use Rattle.jd_bodies.specs.Bodies.{assign_lines, behind_default, call_lines, change_lines, declaration, declared_lines, default, default_set, effect_lines, effects_lines, in_scope, initial_lines, prefix_lines, set_lines, start, static_on}
use Rattle.jd_bodies.specs.Codes.{Made, Target, ToLocal, ToField, ToElement, NoTarget, assignment_operation, code_of, codes_of, count_operation, one, target_of, type_before}
use Rattle.jd_bodies.specs.Declarations.{Declarations, type_by}
use Rattle.jd_bodies.specs.Expressions.{class_before}
use Rattle.jd_bodies.specs.Jumps.{names}
use Rattle.jd_bodies.specs.Scopes.{Local}
use Rattle.jd_bodies.specs.Variables.{Progress, local_name, temporary, with_local}
use Rattle.jd_resolved_bodies.specs.Laws.{ConstantsFit}
use Rattle.jd_resolved_bodies.specs.Lexical.{AreDeclarators, AreLexical, EachLexical, IsLexical, IsName, IsStart, MaybeLexical}
use Rattle.jd_resolved_bodies.proofs.Parts.{Good, GoodPart, GoodStmts, GoodTarget, exprs_good, in_order_good, plain_local}
use Rattle.jd_resolved_bodies.proofs.Expressions.{all_good, good, one_good, target_good}

-- ---- assignments as statements, inside blocks of these labels

module _ (labels : List ℕ) where
  set_lines_good : (target : Target) (v : Progress → Made) (p : Progress) → GoodTarget target → GoodPart v → GoodStmts labels (set_lines target v p).1
  set_lines_good (ToLocal x t) v p is g = let a = g p in ((a.0, (plain_local p.names x t is, a.1)), tt)
  set_lines_good (ToField object ot f t) v p is g = let a = is p in let b = g (object p).0 in (((a.0, b.0), (a.1, b.1)), tt)
  set_lines_good (ToElement a i) v p is g =
      let o = a p in
      let j = i o.0 in
      let x = is.0 p in
      let y = is.1 o.0 in
      let z = g j.0 in
      (((x.0, y.0, z.0), (x.1, y.1, z.1)), tt)
  set_lines_good NoTarget v p is g = tt

  change_lines_good : (op : BinaryOp) (target : Target) (v : Progress → Made) (p : Progress) → GoodTarget target → GoodPart v → GoodStmts labels (change_lines op target v p).1
  change_lines_good op (ToLocal x t) v p is g = let a = g p in (((tt, a.0), (plain_local p.names x t is, (tt, a.1))), tt)
  change_lines_good op (ToField object ot f t) v p is g =
      let o = temporary ot (object p).0 in
      let u = temporary t o.0 in
      let a = is p in
      let b = g u.0 in
      ((a.0, (refl, a.1)), ((tt, (refl, tt)), (((tt, (tt, b.0)), (tt, (tt, b.1))), tt)))
  change_lines_good op (ToElement a i) v p is g =
      let o = temporary types.IntArray (a p).0 in
      let j = temporary types.Int (i o.0).0 in
      let u = temporary types.Int j.0 in
      let x = is.0 p in
      let y = is.1 o.0 in
      let z = g u.0 in
      ((x.0, (refl, x.1)), ((y.0, (refl, y.1)), (((tt, tt), (refl, (tt, tt))), (((tt, tt, (tt, z.0)), (tt, tt, (tt, z.1))), tt))))
  change_lines_good op NoTarget v p is g = tt

  assign_lines_good : (o : Option BinaryOp) (target : Target) (v : Progress → Made) (p : Progress) → GoodTarget target → GoodPart v → GoodStmts labels (assign_lines o target v p).1
  assign_lines_good None target v p is g = set_lines_good target v p is g
  assign_lines_good (Some op) target v p is g = change_lines_good op target v p is g

  prefix_lines_good : (o : PrefixOperator) (target : Target) (p : Progress) → GoodTarget target → GoodStmts labels (prefix_lines o target p).1
  prefix_lines_good (prefixes.Count c) target p is = change_lines_good (count_operation c) target one p is one_good
  prefix_lines_good prefixes.Plus _ p is = tt
  prefix_lines_good prefixes.Minus _ p is = tt
  prefix_lines_good prefixes.Not _ p is = tt

  -- what is evaluated is dropped
  evaluated : (e : Expr) → Good e → GoodStmts labels (code.Evaluate e ∷ [])
  evaluated e g = ((g.0, g.1), tt)

default_good : (t : ValueType) → Good (default t)
default_good types.Int = (refl, tt)
default_good types.Boolean = (tt, tt)
default_good types.Null = (tt, tt)
default_good types.IntArray = (tt, tt)
default_good (types.Class c) = (tt, tt)
default_good types.Missing = (tt, tt)

default_set_good : (labels : List ℕ) (x : Name) (t : ValueType) → NotSpecial x → GoodStmts labels (default_set x t)
default_set_good labels x t is = let g = default_good t in ((g.0, (is, g.1)), tt)

module _ (d : Declarations) (constants : ConstantsFit d) (place : Place) (labels : List ℕ) where
  call_lines_good : (locals : List Local) (m : Option ℕ) (e : JavaExpr) (es : JavaExprs) (whole : JavaExpr) (p : Progress) → IsLexical false e → AreLexical es → Good (code_of d place locals whole p).1 → GoodStmts labels (call_lines d place locals m e es whole p).1
  call_lines_good locals None e es whole p l k g = evaluated labels (code_of d place locals whole p).1 g
  call_lines_good locals (Some m) e es whole p l k g =
      let a = good d constants place locals false e l p in
      let q = temporary (type_before d place locals e) (code_of d place locals e p).0 in
      let r = exprs_good (codes_of d place locals es q.0).1 (all_good d constants place locals es k q.0) in
      ((a.0, (refl, a.1)), ((r.0, r.1), tt))

  dropped : (locals : List Local) (e : JavaExpr) → IsLexical false e → (p : Progress) → GoodStmts labels (code.Evaluate (code_of d place locals e p).1 ∷ [])
  dropped locals e l p = evaluated labels (code_of d place locals e p).1 (good d constants place locals false e l p)

  pub effect_good : (locals : List Local) (e : JavaExpr) → IsLexical false e → (p : Progress) → GoodStmts labels (effect_lines d place locals e p).1
  effect_good locals (java.Assign at o e v) l p =
      assign_lines_good labels (assignment_operation o) (target_of d place locals e) (code_of d place locals v) p (target_good d constants place locals e l.0) (good d constants place locals false v l.1)
  effect_good locals (java.Prefix at prefixes.Plus e) l p = tt
  effect_good locals (java.Prefix at prefixes.Minus e) l p = tt
  effect_good locals (java.Prefix at prefixes.Not e) l p = tt
  effect_good locals (java.Prefix at (prefixes.Count c) e) l p = prefix_lines_good labels (prefixes.Count c) (target_of d place locals e) p (target_good d constants place locals e l)
  effect_good locals (java.Postfix at c e) l p = change_lines_good labels (count_operation c) (target_of d place locals e) one p (target_good d constants place locals e l) one_good
  effect_good locals (java.MethodCall at e m es) l p =
      call_lines_good locals (static_on d m.name (class_before d place locals e) (type_before d place locals e)) e es (java.MethodCall at e m es) p l.0 l.1 (good d constants place locals false (java.MethodCall at e m es) l p)
  effect_good locals (java.Integer at n) l p = dropped locals (java.Integer at n) l p
  effect_good locals (java.Boolean at v) l p = dropped locals (java.Boolean at v) l p
  effect_good locals (java.Null at) l p = dropped locals (java.Null at) l p
  effect_good locals (java.This at) l p = dropped locals (java.This at) l p
  effect_good locals (java.Name at x) l p = dropped locals (java.Name at x) l p
  effect_good locals (java.Field at e x) l p = dropped locals (java.Field at e x) l p
  effect_good locals (java.Parenthesized at e) l p = dropped locals (java.Parenthesized at e) l p
  effect_good locals (java.Call at m es) l p = dropped locals (java.Call at m es) l p
  effect_good locals (java.New at c es) l p = dropped locals (java.New at c es) l p
  effect_good locals (java.NewArray at e) l p = dropped locals (java.NewArray at e) l p
  effect_good locals (java.Index at a i) l p = dropped locals (java.Index at a i) l p
  effect_good locals (java.Cast at w e) l p = dropped locals (java.Cast at w e) l p
  effect_good locals (java.Infix at o a b) l p = dropped locals (java.Infix at o a b) l p
  effect_good locals (java.InstanceOf at e w) l p = dropped locals (java.InstanceOf at e w) l p
  effect_good locals (java.Conditional at c a b) l p = dropped locals (java.Conditional at c a b) l p

  pub effects_good : (locals : List Local) (es : List JavaExpr) → EachLexical es → (p : Progress) → GoodStmts labels (effects_lines d place locals es p).1
  effects_good locals [] l p = tt
  effects_good locals (e ∷ es) l p = in_order_good labels (effect_lines d place locals e p).1 _ (effect_good locals e l.0 p) (effects_good locals es l.1 (effect_lines d place locals e p).0)

  -- ---- declared locals

  initial_good : (locals : List Local) (x : PlainIdentifier) (t : ValueType) (e : Option JavaExpr) (p : Progress) → IsName x.name → MaybeLexical e → GoodStmts labels (initial_lines d place locals x t e p).1
  initial_good locals x t None p is l = default_set_good labels (local_name p.names x.name t) t (plain_local p.names x.name t is)
  initial_good locals x t (Some e) p is l = by (names x.name e) (good d constants place locals false e l p)
    where
      by : (b : Bool) → Good (code_of d place locals e p).1 → GoodStmts labels (behind_default b (local_name p.names x.name t) t ((code_of d place locals e p).0, code.Set (local_name p.names x.name t) (code_of d place locals e p).1 ∷ [])).1
      by true g = in_order_good labels (default_set (local_name p.names x.name t) t) (code.Set (local_name p.names x.name t) (code_of d place locals e p).1 ∷ []) (default_set_good labels (local_name p.names x.name t) t (plain_local p.names x.name t is)) ((g.0, (plain_local p.names x.name t is, g.1)), tt)
      by false g = ((g.0, (plain_local p.names x.name t is, g.1)), tt)

  declared_good : (t : ValueType) (xs : List JavaDeclarator) (locals : List Local) (p : Progress) → AreDeclarators xs → GoodStmts labels (declared_lines d place t xs locals p).lines.1
  declared_good t [] locals p l = tt
  declared_good t (x ∷ xs) locals p l =
      let inner = in_scope d place x.name t locals in
      let q = with_local x.name.name t p in
      in_order_good labels (initial_lines d place inner x.name t x.value q).1 _ (initial_good inner x.name t x.value q l.0 l.1) (declared_good t xs inner (initial_lines d place inner x.name t x.value q).0 l.2)

  pub declaration_good : (w : PlainWritten) (xs : List JavaDeclarator) (locals : List Local) (p : Progress) → AreDeclarators xs → GoodStmts labels (declaration d place w xs locals p).lines.1
  declaration_good w xs locals p l = declared_good (type_by d.class_named w.written) xs locals p l

  pub start_good : (first : JavaForStart) (locals : List Local) (p : Progress) → IsStart first → GoodStmts labels (start d place first locals p).lines.1
  start_good (java.Declared w xs) locals p l = declaration_good w xs locals p l
  start_good (java.Evaluated es) locals p l = effects_good locals es l p

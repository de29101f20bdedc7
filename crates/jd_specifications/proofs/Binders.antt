-- Each bound variable of what JML stands for has its binder.
use Rattle.std.proofs.Common.{◌≡◌, ◌+◌, ◌<◌, ℕ, zero, suc, Bool, true, false, if◌then◌else◌, List, [], ◌∷◌, Option, Some, None, subst, arith}
use Rattle.std.specs.Str.{bytes_eq}
use Rattle.jd_syntax.specs.SpecTrees as written
use Rattle.jd_syntax.specs.SpecTrees.{PlainSpec, PlainLocation}
use Rattle.jd_syntax.specs.declared.java.InfixOperator.{InfixOperator}
use Rattle.jd_syntax.specs.declared.java.InfixOperator.TheVariants as operators
use Rattle.jd_syntax.specs.declared.spec.SpecPrefix.{SpecPrefix}
use Rattle.jd_syntax.specs.declared.spec.SpecPrefix.TheVariants as prefixes
use Rattle.jd_syntax.specs.declared.spec.Quantifier.{Quantifier}
use Rattle.jd_syntax.specs.declared.spec.Quantifier.TheVariants as quantifiers
use Rattle.jd_bodies.specs.declared.value.ValueType.{ValueType}
use Rattle.jd_bodies.specs.declared.value.ValueType.TheVariants as types
use Rattle.jd_bodies.specs.declared.value.Variable.{Variable as Member}
use Rattle.jd_bodies.specs.declared.value.Variable.TheVariants as members
use Rattle.jd_bodies.specs.Declarations.{Declarations}
use Rattle.jd_model.specs.Closed.{IsBelow}
use Rattle.jd_jml_meaning.specs.Resolved as jml
use Rattle.jd_jml_meaning.specs.Resolved.{JmlExpr, QuantifiedType}
use Rattle.jd_jml_meaning.specs.Scopes.{Scoped, LocationScoped}
use Rattle.jd_specifications.specs.Resolution.{Known, AnArgument, AVariable, TheException, ABinder, Entry, binders_then, found, looked_up, own_member, named, operation, sign, quantified, quantified_in, bound_value, member, class_before, static_type, bound, field, resolved, location}
use Rattle.jd_specifications.specs.Laws.{binders}

-- ---- names

is_below : (n c : ℕ) → n < c → IsBelow n c
is_below n zero lt = omega (arith, lt)
is_below zero (suc c) lt = tt
is_below (suc n) (suc c) lt = is_below n c (omega (arith, lt))

abbrev SomeScoped : ℕ → Option JmlExpr → Type 0
SomeScoped c None = Unit {0}
SomeScoped c (Some e) = Scoped c e

found_scoped : (n m : ℕ) (x : List ℕ) (k : Known) (t : ValueType) → Scoped (n + binders_then k m) (found n (record { name = x; known = k; type = t }))
found_scoped n m x (AnArgument i) t = tt
found_scoped n m x (AVariable y) t = tt
found_scoped n m x TheException t = tt
found_scoped n m x ABinder t = is_below n (n + suc m) (omega arith)

one_of : (b : Bool) (c : ℕ) (e : JmlExpr) (o : Option JmlExpr) → Scoped c e → SomeScoped c o → SomeScoped c (if b then Some e else o)
one_of true c e o s r = s
one_of false c e o s r = r

inside : (k : Known) (n m : ℕ) → binders_then k n + m ≡ n + binders_then k m
inside (AnArgument i) n m = omega arith
inside (AVariable y) n m = omega arith
inside TheException n m = omega arith
inside ABinder n m = omega arith

from_zero : (n : ℕ) → 0 + n ≡ n
from_zero n = omega arith

looked_scoped : (n : ℕ) (es : List Entry) (x : List ℕ) → SomeScoped (n + binders es) (looked_up n es x)
looked_scoped n [] x = tt
looked_scoped n (e ∷ es) x =
    one_of (bytes_eq e.name x) (n + binders_then e.known (binders es)) (found n e) (looked_up (binders_then e.known n) es x)
    (found_scoped n (binders es) e.name e.known e.type)
    (subst (λ c. SomeScoped c (looked_up (binders_then e.known n) es x)) (inside e.known n (binders es)) (looked_scoped (binders_then e.known n) es x))

own_scoped : (c : ℕ) (e : JmlExpr) (v : Option Member) → Scoped c e → Scoped c (own_member e v)
own_scoped c e None s = tt
own_scoped c e (Some (members.Field f t)) s = s
own_scoped c e (Some (members.Constant n)) s = tt

named_scoped : (c : ℕ) (o : Option JmlExpr) (v : Option Member) → SomeScoped c o → Scoped c (named o v)
named_scoped c (Some e) v s = s
named_scoped c None v s = own_scoped c jml.This v tt

-- ---- operators

operation_scoped : (c : ℕ) (o : InfixOperator) (b : Bool) (x y : JmlExpr) → Scoped c x → Scoped c y → Scoped c (operation o b x y)
operation_scoped c operators.OrElse b x y s t = (s, t)
operation_scoped c operators.AndAlso b x y s t = (s, t)
operation_scoped c operators.Equal true x y s t = (s, t)
operation_scoped c operators.Equal false x y s t = (s, t)
operation_scoped c operators.NotEqual true x y s t = (s, t)
operation_scoped c operators.NotEqual false x y s t = (s, t)
operation_scoped c operators.Less b x y s t = (s, t)
operation_scoped c operators.LessOrEqual b x y s t = (s, t)
operation_scoped c operators.Greater b x y s t = (s, t)
operation_scoped c operators.GreaterOrEqual b x y s t = (s, t)
operation_scoped c operators.Add b x y s t = (s, t)
operation_scoped c operators.Subtract b x y s t = (s, t)
operation_scoped c operators.Multiply b x y s t = (s, t)
operation_scoped c operators.Divide b x y s t = (s, t)
operation_scoped c operators.Remainder b x y s t = (s, t)

sign_scoped : (c : ℕ) (o : SpecPrefix) (x : JmlExpr) → Scoped c x → Scoped c (sign o x)
sign_scoped c prefixes.Plus x s = s
sign_scoped c prefixes.Minus x s = s
sign_scoped c prefixes.Not x s = s

quantified_scoped : (c : ℕ) (q : Quantifier) (t : QuantifiedType) (e : JmlExpr) → Scoped (suc c) e → Scoped c (quantified q t e)
quantified_scoped c quantifiers.ForAll t e s = s
quantified_scoped c quantifiers.Exists t e s = s

quantified_in_scoped : (c : ℕ) (q : Quantifier) (t : QuantifiedType) (r e : JmlExpr) → Scoped (suc c) r → Scoped (suc c) e → Scoped c (quantified_in q t r e)
quantified_in_scoped c quantifiers.ForAll t r e s u = (s, u)
quantified_in_scoped c quantifiers.Exists t r e s u = (s, u)

module _ (d : Declarations) where
  member_scoped : (c : ℕ) (x : List ℕ) (t : ValueType) (e : JmlExpr) → Scoped c e → Scoped c (member d x t e)
  member_scoped c x (types.Class k) e s = own_scoped c e (d.variable k x) s
  member_scoped c x types.Int e s = s
  member_scoped c x types.Boolean e s = s
  member_scoped c x types.Null e s = s
  member_scoped c x types.IntArray e s = s
  member_scoped c x types.Missing e s = s

  module _ (class : ℕ) (result : ValueType) where
    field_scoped : (c : ℕ) (x : List ℕ) (o : Option ℕ) (t : ValueType) (e : JmlExpr) → Scoped c e → Scoped c (field d class result x o t e)
    field_scoped c x (Some k) t e s = own_scoped c e (d.variable k x) s
    field_scoped c x None t e s = member_scoped c x t e s

    pub scoped : (es : List Entry) (e : PlainSpec) → Scoped (binders es) (resolved d class result es e)
    scoped es (written.Integer at n) = tt
    scoped es (written.Boolean at b) = tt
    scoped es (written.Null at) = tt
    scoped es (written.This at) = tt
    scoped es (written.Result at) = tt
    scoped es (written.Name at x) = named_scoped (binders es) (looked_up 0 es x) (d.variable class x) (subst (λ c. SomeScoped c (looked_up 0 es x)) (from_zero (binders es)) (looked_scoped 0 es x))
    scoped es (written.Field at e x) = field_scoped (binders es) x.name (class_before d class result es e) (static_type d class result es e) (resolved d class result es e) (scoped es e)
    scoped es (written.Parenthesized at e) = scoped es e
    scoped es (written.Call at m xs) = tt
    scoped es (written.MethodCall at e m xs) = tt
    scoped es (written.Index at a i) = (scoped es a, scoped es i)
    scoped es (written.Prefix at o e) = sign_scoped (binders es) o (resolved d class result es e) (scoped es e)
    scoped es (written.Cast at w e) = scoped es e
    scoped es (written.Infix at o a b) = operation_scoped (binders es) o _ (resolved d class result es a) (resolved d class result es b) (scoped es a) (scoped es b)
    scoped es (written.InstanceOf at e w) = scoped es e
    scoped es (written.Conditional at c a b) = (scoped es c, scoped es a, scoped es b)
    scoped es (written.Implies at a b) = (scoped es a, scoped es b)
    scoped es (written.Equivalent at a b) = (scoped es a, scoped es b)
    scoped es (written.Old at e) = scoped es e
    scoped es (written.Fresh at e) = scoped es e
    scoped es (written.InvariantFor at e) = scoped es e
    scoped es (written.Quantified at q t x e) = quantified_scoped (binders es) q _ _ (scoped (bound d class result x (bound_value d t) es) e)
    scoped es (written.QuantifiedIn at q t x r e) = quantified_in_scoped (binders es) q _ _ _ (scoped (bound d class result x (bound_value d t) es) r) (scoped (bound d class result x (bound_value d t) es) e)
    scoped es (written.Sum at x a b e) = (scoped es a, scoped es b, scoped (bound d class result x types.Int es) e)

    pub location_scoped : (es : List Entry) (l : PlainLocation) → LocationScoped (binders es) (location d class result es l)
    location_scoped es (written.Nothing at) = tt
    location_scoped es (written.Everything at) = tt
    location_scoped es (written.OwnField at x) = tt
    location_scoped es (written.FieldOf at e x) = scoped es e
    location_scoped es (written.AllFields at e) = scoped es e
    location_scoped es (written.Element at a i) = (scoped es a, scoped es i)
    location_scoped es (written.Range at a i j) = (scoped es a, scoped es i, scoped es j)
    location_scoped es (written.AllElements at a) = scoped es a

-- The code of members, calls and assignments, by what their names stand for.
use Rattle.std.proofs.Common.{◌≡◌, ℕ, List, Option, Some, None, refl, sym, ap, subst, ◌∙◌}
use Rattle.jd_syntax.specs.Codes as code
use Rattle.jd_syntax.specs.JavaTypes.{PlainIdentifier}
use Rattle.jd_syntax.specs.JavaTrees as java
use Rattle.jd_syntax.specs.JavaTrees.{JavaExpr, JavaExprs}
use Rattle.jd_syntax.specs.declared.java.AssignmentOperator.{AssignmentOperator}
use Rattle.jd_syntax.specs.declared.java.CountOperator.{CountOperator}
use Rattle.jd_syntax.specs.declared.java.PrefixOperator.TheVariants as prefixes
use Rattle.jd_syntax.specs.declared.code.BinaryOp.{BinaryOp}
use Rattle.jd_bodies.specs.declared.place.Place.{Place}
use Rattle.jd_bodies.specs.declared.value.ValueType.{ValueType}
use Rattle.jd_bodies.specs.Codes.{Made, Target, assign_value, assignment_operation, arguments_of, called, change_value, code_of, codes_of, count_operation, member_code, member_target, new_code, old_value, one, steps_code, target_of, type_before, with_three}
use Rattle.jd_bodies.specs.Declarations.{Declarations}
use Rattle.jd_bodies.specs.Expressions.{class_before}
use Rattle.jd_bodies.specs.Scopes.{Local}
use Rattle.jd_bodies.specs.Variables.{Progress}
use Rattle.jd_expression_code.specs.Assigning.{PlainBegun, assign_by, begun, change_by, changed, count_by, counted, elements_begun, kept_written, no_steps, reading, set_by}
use Rattle.jd_expression_code.specs.Decided.{called_by, member_by, targeted_by}
use Rattle.jd_expression_code.specs.declared.members.Called.{Called}
use Rattle.jd_expression_code.specs.declared.members.Member.{Member}
use Rattle.jd_expression_code.specs.declared.members.Targeted.{Targeted}
use Rattle.jd_expression_code.proofs.Splitting.{assign_splits, change_splits, count_splits}

module _ (d : Declarations) (place : Place) (locals : List Local) where
  abbrev Code : JavaExpr → Progress → Made
  Code = code_of d place locals

  -- `e.x`
  pub field_told : (e o : JavaExpr) (at : ℕ) (x : PlainIdentifier) (name : List ℕ) (class : Option ℕ) (t : ValueType) (m : Member) (q : Progress) → e ≡ java.Field at o x → name ≡ x.name
      → class ≡ class_before d place locals o → t ≡ type_before d place locals o
      → ((p : Progress) (object : Progress → Made) → member_by m p object ≡ member_code d name class t p object)
      → member_by m q (Code o) ≡ Code e q
  field_told e o at x name class t m q is named before typed told =
      told q (Code o) ∙ ap (λ n. member_code d n class t q (Code o)) named ∙ ap (λ c. member_code d x.name c t q (Code o)) before ∙ ap (λ u. member_code d x.name (class_before d place locals o) u q (Code o)) typed
      ∙ sym (ap (λ (y : JavaExpr). Code y q) is)

  -- `e.m(..)`
  pub call_told : (e o : JavaExpr) (es : JavaExprs) (at : ℕ) (x : PlainIdentifier) (name : List ℕ) (class : Option ℕ) (t : ValueType) (m : Called) (q : Progress) → e ≡ java.MethodCall at o x es → name ≡ x.name
      → class ≡ class_before d place locals o → t ≡ type_before d place locals o
      → ((object : Progress → Made) (arguments : Progress → Progress × List code.Expr) (p : Progress) → called_by d m object arguments p ≡ called d name class t object arguments p)
      → called_by d m (Code o) (codes_of d place locals es) q ≡ Code e q
  call_told e o es at x name class t m q is named before typed told =
      told (Code o) (codes_of d place locals es) q
      ∙ ap (λ n. called d n class t (Code o) (codes_of d place locals es) q) named
      ∙ ap (λ c. called d x.name c t (Code o) (codes_of d place locals es) q) before
      ∙ ap (λ u. called d x.name (class_before d place locals o) u (Code o) (codes_of d place locals es) q) typed
      ∙ sym (ap (λ (y : JavaExpr). Code y q) is)

  -- `new C(..)`
  pub new_told : (e : JavaExpr) (es : JavaExprs) (at : ℕ) (x : PlainIdentifier) (name : List ℕ) (class : Option ℕ) (q : Progress) → e ≡ java.New at x es → name ≡ x.name → class ≡ d.class_named name
      → new_code d class (arguments_of d place locals es) q ≡ Code e q
  new_told e es at x name class q is named before =
      ap (λ c. new_code d c (arguments_of d place locals es) q) (before ∙ ap d.class_named named) ∙ sym (ap (λ (y : JavaExpr). Code y q) is)

  -- `e = v` and the like
  pub assign_told : (e a v : JavaExpr) (at : ℕ) (operator : AssignmentOperator) (o : Option BinaryOp) (t : ValueType) (q : Progress) → e ≡ java.Assign at operator a v → o ≡ assignment_operation operator → t ≡ type_before d place locals v
      → steps_code (assign_by o t (Code v) (begun (target_of d place locals a) q).0 (begun (target_of d place locals a) q).1) ≡ Code e q
  assign_told e a v at operator o t q is told typed =
      ap steps_code (sym (assign_splits o (target_of d place locals a) t (Code v) q))
      ∙ ap (λ k. steps_code (assign_value k (target_of d place locals a) t (Code v) q)) told
      ∙ ap (λ u. steps_code (assign_value (assignment_operation operator) (target_of d place locals a) u (Code v) q)) typed
      ∙ sym (ap (λ (y : JavaExpr). Code y q) is)

  -- `++e` and `--e`
  pub count_told : (e a : JavaExpr) (at : ℕ) (c : CountOperator) (o : BinaryOp) (q : Progress) → e ≡ java.Prefix at (prefixes.Count c) a → o ≡ count_operation c
      → steps_code (change_by o one (begun (target_of d place locals a) q).0 (begun (target_of d place locals a) q).1) ≡ Code e q
  count_told e a at c o q is told =
      ap steps_code (sym (change_splits o (target_of d place locals a) one q)) ∙ ap (λ k. steps_code (change_value k (target_of d place locals a) one q)) told ∙ sym (ap (λ (y : JavaExpr). Code y q) is)

  -- `e++` and `e--`
  pub postfix_told : (e a : JavaExpr) (at : ℕ) (c : CountOperator) (o : BinaryOp) (q : Progress) → e ≡ java.Postfix at c a → o ≡ count_operation c
      → steps_code (count_by o (begun (target_of d place locals a) q).0 (begun (target_of d place locals a) q).1) ≡ Code e q
  postfix_told e a at c o q is told =
      ap steps_code (sym (count_splits o (target_of d place locals a) q)) ∙ ap (λ k. steps_code (old_value k (target_of d place locals a) q)) told ∙ sym (ap (λ (y : JavaExpr). Code y q) is)

  -- `e.x` that is assigned
  pub target_told : (e o : JavaExpr) (at : ℕ) (x : PlainIdentifier) (name : List ℕ) (class : Option ℕ) (t : ValueType) (m : Option Targeted) → e ≡ java.Field at o x → name ≡ x.name
      → class ≡ class_before d place locals o → t ≡ type_before d place locals o
      → ((object : Progress → Made) → targeted_by object m ≡ member_target d object name class t)
      → targeted_by (Code o) m ≡ target_of d place locals e
  target_told e o at x name class t m is named before typed told =
      told (Code o) ∙ ap (λ n. member_target d (Code o) n class t) named ∙ ap (λ c. member_target d (Code o) x.name c t) before ∙ ap (λ u. member_target d (Code o) x.name (class_before d place locals o) u) typed
      ∙ sym (ap (λ (y : JavaExpr). target_of d place locals y) is)

  -- ---- what holds of what is behind an assignment holds of the whole

  abbrev Begun : JavaExpr → Progress → Progress × Option PlainBegun
  Begun a q = begun (target_of d place locals a) q

  pub count_none : (Q : Made → Type 0) (e a : JavaExpr) (at : ℕ) (c : CountOperator) (q : Progress) → e ≡ java.Prefix at (prefixes.Count c) a → None ≡ (Begun a q).1 → Q (steps_code (no_steps (Begun a q).0)) → Q (Code e q)
  count_none Q e a at c q is none given = subst Q (count_told e a at c (count_operation c) q is refl) (subst (λ b. Q (steps_code (change_by (count_operation c) one (Begun a q).0 b))) none given)

  pub count_some : (Q : Made → Type 0) (e a : JavaExpr) (at : ℕ) (c : CountOperator) (o : BinaryOp) (q : Progress) (b : PlainBegun) → e ≡ java.Prefix at (prefixes.Count c) a → o ≡ count_operation c → Some b ≡ (Begun a q).1
      → Q (steps_code (changed o (reading b (Begun a q).0).1 (one (reading b (Begun a q).0).0))) → Q (Code e q)
  count_some Q e a at c o q b is told some given = subst Q (count_told e a at c o q is told) (subst (λ x. Q (steps_code (change_by o one (Begun a q).0 x))) some given)

  pub postfix_none : (Q : Made → Type 0) (e a : JavaExpr) (at : ℕ) (c : CountOperator) (q : Progress) → e ≡ java.Postfix at c a → None ≡ (Begun a q).1 → Q (steps_code (no_steps (Begun a q).0)) → Q (Code e q)
  postfix_none Q e a at c q is none given = subst Q (postfix_told e a at c (count_operation c) q is refl) (subst (λ b. Q (steps_code (count_by (count_operation c) (Begun a q).0 b))) none given)

  pub postfix_some : (Q : Made → Type 0) (e a : JavaExpr) (at : ℕ) (c : CountOperator) (o : BinaryOp) (q : Progress) (b : PlainBegun) → e ≡ java.Postfix at c a → o ≡ count_operation c → Some b ≡ (Begun a q).1
      → Q (steps_code (counted o b (Begun a q).0)) → Q (Code e q)
  postfix_some Q e a at c o q b is told some given = subst Q (postfix_told e a at c o q is told) (subst (λ x. Q (steps_code (count_by o (Begun a q).0 x))) some given)

  no_value : (o : Option BinaryOp) (t : ValueType) (v : Progress → Made) (p : Progress) → no_steps p ≡ assign_by o t v p None
  no_value None t v p = refl
  no_value (Some o) t v p = refl

  pub assign_none : (Q : Made → Type 0) (e a v : JavaExpr) (at : ℕ) (operator : AssignmentOperator) (q : Progress) → e ≡ java.Assign at operator a v → None ≡ (Begun a q).1 → Q (steps_code (no_steps (Begun a q).0)) → Q (Code e q)
  assign_none Q e a v at operator q is none given =
      subst Q (assign_told e a v at operator (assignment_operation operator) (type_before d place locals v) q is refl refl)
      (subst (λ b. Q (steps_code (assign_by (assignment_operation operator) (type_before d place locals v) (Code v) (Begun a q).0 b))) none
      (subst (λ s. Q (steps_code s)) (no_value (assignment_operation operator) (type_before d place locals v) (Code v) (Begun a q).0) given))

  pub assign_set : (Q : Made → Type 0) (e a v : JavaExpr) (at : ℕ) (operator : AssignmentOperator) (t : ValueType) (q : Progress) (b : PlainBegun) → e ≡ java.Assign at operator a v → None ≡ assignment_operation operator → t ≡ type_before d place locals v
      → Some b ≡ (Begun a q).1 → Q (steps_code (kept_written t b (Code v (Begun a q).0))) → Q (Code e q)
  assign_set Q e a v at operator t q b is told typed some given = subst Q (assign_told e a v at operator None t q is told typed) (subst (λ x. Q (steps_code (set_by t (Code v) (Begun a q).0 x))) some given)

  pub assign_change : (Q : Made → Type 0) (e a v : JavaExpr) (at : ℕ) (operator : AssignmentOperator) (o : BinaryOp) (q : Progress) (b : PlainBegun) → e ≡ java.Assign at operator a v → Some o ≡ assignment_operation operator
      → Some b ≡ (Begun a q).1 → Q (steps_code (changed o (reading b (Begun a q).0).1 (Code v (reading b (Begun a q).0).0))) → Q (Code e q)
  assign_change Q e a v at operator o q b is told some given =
      subst Q (assign_told e a v at operator (Some o) (type_before d place locals v) q is told refl) (subst (λ x. Q (steps_code (change_by o (Code v) (Begun a q).0 x))) some given)

  pub conditional_told : (Q : Made → Type 0) (e c a b : JavaExpr) (at : ℕ) (q : Progress) → e ≡ java.Conditional at c a b → Q (with_three code.Conditional (Code c q) (Code a) (Code b)) → Q (Code e q)
  conditional_told Q e c a b at q is given = subst (λ (y : JavaExpr). Q (Code y q)) (sym is) given

  pub index_told : (Q : Progress × Option PlainBegun → Type 0) (e a i : JavaExpr) (at : ℕ) (q : Progress) → e ≡ java.Index at a i → Q (elements_begun (Code a q) (Code i)) → Q (Begun e q)
  index_told Q e a i at q is given = subst (λ (y : JavaExpr). Q (Begun y q)) (sym is) given

  pub told_of : (Q : Made → Type 0) (e x : JavaExpr) (q : Progress) → e ≡ x → Q (Code x q) → Q (Code e q)
  told_of Q e x q is given = subst (λ (y : JavaExpr). Q (Code y q)) (sym is) given

  pub called_told : (Q : Made → Type 0) (e o : JavaExpr) (es : JavaExprs) (at : ℕ) (x : PlainIdentifier) (name : List ℕ) (class : Option ℕ) (t : ValueType) (m n : Called) (q : Progress) → e ≡ java.MethodCall at o x es → name ≡ x.name
      → class ≡ class_before d place locals o → t ≡ type_before d place locals o
      → ((object : Progress → Made) (arguments : Progress → Progress × List code.Expr) (p : Progress) → called_by d m object arguments p ≡ called d name class t object arguments p)
      → m ≡ n → Q (called_by d n (Code o) (codes_of d place locals es) q) → Q (Code e q)
  called_told Q e o es at x name class t m n q is named before typed told same given =
      subst Q (call_told e o es at x name class t m q is named before typed told) (subst (λ k. Q (called_by d k (Code o) (codes_of d place locals es) q)) (sym same) given)

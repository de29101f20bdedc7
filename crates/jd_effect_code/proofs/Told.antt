-- What holds of the statements of a form holds of those of an expression that is it.
use Rattle.std.proofs.Common.{◌≡◌, ℕ, Option, List, sym, ap, ◌∙◌, subst}
use Rattle.jd_syntax.specs.JavaTrees as java
use Rattle.jd_syntax.specs.JavaTrees.{JavaExpr, JavaExprs}
use Rattle.jd_syntax.specs.JavaTypes.{PlainIdentifier}
use Rattle.jd_bodies.specs.Bodies.{Lines, call_lines, effect_lines, static_on}
use Rattle.jd_bodies.specs.Codes.{type_before}
use Rattle.jd_bodies.specs.Declarations.{Declarations}
use Rattle.jd_bodies.specs.Expressions.{class_before}
use Rattle.jd_bodies.specs.Scopes.{Local}
use Rattle.jd_bodies.specs.Variables.{Progress}
use Rattle.jd_bodies.specs.declared.place.Place.{Place}
use Rattle.jd_bodies.specs.declared.value.ValueType.{ValueType}

module _ (d : Declarations) (place : Place) (ls : List Local) where
  pub told_of : (Q : Lines → Type 0) (e x : JavaExpr) (q : Progress) → e ≡ x → Q (effect_lines d place ls x q) → Q (effect_lines d place ls e q)
  told_of Q e x q is given = subst (λ (y : JavaExpr). Q (effect_lines d place ls y q)) (sym is) given

  -- a call, by the method that it is found to be
  pub call_told : (Q : Lines → Type 0) (e o : JavaExpr) (es : JavaExprs) (at : ℕ) (x : PlainIdentifier) (name : List ℕ) (class : Option ℕ) (t : ValueType) (m n : Option ℕ) (q : Progress) → e ≡ java.MethodCall at o x es → name ≡ x.name
      → class ≡ class_before d place ls o → t ≡ type_before d place ls o → m ≡ static_on d name class t → m ≡ n → Q (call_lines d place ls n o es e q) → Q (effect_lines d place ls e q)
  call_told Q e o es at x name class t m n q is named before typed told same given =
      told_of Q e (java.MethodCall at o x es) q is
      (subst (λ k. Q (call_lines d place ls k o es (java.MethodCall at o x es) q))
      (sym same ∙ told ∙ ap (λ k. static_on d k class t) named ∙ ap (λ c. static_on d x.name c t) before ∙ ap (λ u. static_on d x.name (class_before d place ls o) u) typed)
      (subst (λ (y : JavaExpr). Q (call_lines d place ls n o es y q)) is given))

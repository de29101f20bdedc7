-- What is no literal.
use Rattle.std.proofs.Common.{◌≡◌, Bool, true, false, ℤ, Option, Some, None, option_map, refl, sym, ap, ◌∙◌}
use Rattle.std.proofs.lemmas.Option.{none-some}
use Rattle.jd_syntax.specs.declared.java.InfixOperator.{InfixOperator}
use Rattle.jd_syntax.specs.declared.java.InfixOperator.TheVariants as operators
use Rattle.jd_bodies.specs.declared.value.Variable.{Variable}
use Rattle.jd_jml_meaning.specs.Resolved as jml
use Rattle.jd_jml_meaning.specs.Resolved.{JmlExpr}
use Rattle.jd_specifications.specs.Resolution.{named, operation}
use Rattle.jd_jml_known.specs.declared.names.Meaning.{Meaning}
use Rattle.jd_jml_known.specs.declared.names.Meaning.TheVariants as meanings
use Rattle.jd_jml_known.specs.Members.{literal_of}
use Rattle.jd_jml_known.specs.Scopes.{meaning_view, saturated}

pub operation_no_literal : (o : InfixOperator) (b : Bool) (x y : JmlExpr) → None ≡ literal_of (operation o b x y)
operation_no_literal operators.OrElse b x y = refl
operation_no_literal operators.AndAlso b x y = refl
operation_no_literal operators.Equal true x y = refl
operation_no_literal operators.Equal false x y = refl
operation_no_literal operators.NotEqual true x y = refl
operation_no_literal operators.NotEqual false x y = refl
operation_no_literal operators.Less b x y = refl
operation_no_literal operators.LessOrEqual b x y = refl
operation_no_literal operators.Greater b x y = refl
operation_no_literal operators.GreaterOrEqual b x y = refl
operation_no_literal operators.Add b x y = refl
operation_no_literal operators.Subtract b x y = refl
operation_no_literal operators.Multiply b x y = refl
operation_no_literal operators.Divide b x y = refl
operation_no_literal operators.Remainder b x y = refl

meaning_no_literal : (m : Meaning) → None ≡ literal_of (meaning_view m)
meaning_no_literal (meanings.Argument k) = refl
meaning_no_literal (meanings.Variable x) = refl
meaning_no_literal meanings.Exception = refl
meaning_no_literal (meanings.Bound n t) = refl

same_literal : (e : JmlExpr) → literal_of (saturated e) ≡ literal_of e
same_literal (jml.IntegerLiteral z) = refl
same_literal (jml.BoundVariable n s) = refl
same_literal e = refl

abbrev literal_in : Option JmlExpr → Option ℤ
literal_in None = None
literal_in (Some e) = literal_of e

-- what stands for a name in scope is none
pub name_no_literal : (m : Meaning) (o : Option JmlExpr) (v : Option Variable) → Some (meaning_view m) ≡ option_map saturated o → None ≡ literal_of (named o v)
name_no_literal m (Some e) v is = meaning_no_literal m ∙ ap literal_in is ∙ same_literal e
name_no_literal m None v is = absurd (none-some (meaning_view m) (sym is))

-- where nothing is in scope, the member decides
pub member_decides : (o : Option JmlExpr) (v : Option Variable) → None ≡ option_map saturated o → named o v ≡ named None v
member_decides None v is = refl
member_decides (Some e) v is = absurd (none-some (saturated e) is)

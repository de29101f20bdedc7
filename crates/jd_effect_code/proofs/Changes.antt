-- A change is what is done before its value, and what is done behind it.
use Rattle.std.proofs.Common.{◌≡◌, [], Some, None, refl, sym, subst}
use Rattle.jd_syntax.specs.declared.code.BinaryOp.{BinaryOp}
use Rattle.jd_bodies.specs.Bodies.{Lines, change_lines}
use Rattle.jd_bodies.specs.Codes.{Made, Target, ToLocal, ToField, ToElement, NoTarget}
use Rattle.jd_bodies.specs.Variables.{Progress}
use Rattle.jd_expression_code.specs.Assigning.{PlainBegun, begun, reading}
use Rattle.jd_effect_code.specs.Changing.{lines_by, lines_from}

splits : (op : BinaryOp) (target : Target) (v : Progress → Made) (p : Progress) → change_lines op target v p ≡ lines_by op v (begun target p).0 (begun target p).1
splits op (ToLocal x t) v p = refl
splits op (ToField object ot f t) v p = refl
splits op (ToElement a i) v p = refl
splits op NoTarget v p = refl

-- what holds of what is behind an assignment holds of the whole

pub change_none : (Q : Lines → Type 0) (op : BinaryOp) (target : Target) (v : Progress → Made) (p : Progress) → None ≡ (begun target p).1 → Q ((begun target p).0, []) → Q (change_lines op target v p)
change_none Q op target v p none given = subst Q (sym (splits op target v p)) (subst (λ b. Q (lines_by op v (begun target p).0 b)) none given)

pub change_some : (Q : Lines → Type 0) (op : BinaryOp) (target : Target) (v : Progress → Made) (p : Progress) (b : PlainBegun) → Some b ≡ (begun target p).1 → Q (lines_from op v (reading b (begun target p).0)) → Q (change_lines op target v p)
change_some Q op target v p b some given = subst Q (sym (splits op target v p)) (subst (λ x. Q (lines_by op v (begun target p).0 x)) some given)

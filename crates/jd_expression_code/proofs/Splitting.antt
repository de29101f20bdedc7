-- An assignment is what is done before its value, and what is done behind it.
use Rattle.std.proofs.Common.{◌≡◌, Option, Some, None, refl}
use Rattle.jd_syntax.specs.declared.code.BinaryOp.{BinaryOp}
use Rattle.jd_bodies.specs.declared.value.ValueType.{ValueType}
use Rattle.jd_bodies.specs.Codes.{Made, Target, ToLocal, ToField, ToElement, NoTarget, set_value, change_value, old_value, assign_value}
use Rattle.jd_bodies.specs.Variables.{Progress}
use Rattle.jd_expression_code.specs.Assigning.{assign_by, begun, change_by, count_by, set_by}

pub set_splits : (target : Target) (t : ValueType) (v : Progress → Made) (p : Progress) → set_value target t v p ≡ set_by t v (begun target p).0 (begun target p).1
set_splits (ToLocal x t) vt v p = refl
set_splits (ToField object ot f t) vt v p = refl
set_splits (ToElement a i) vt v p = refl
set_splits NoTarget vt v p = refl

pub change_splits : (op : BinaryOp) (target : Target) (v : Progress → Made) (p : Progress) → change_value op target v p ≡ change_by op v (begun target p).0 (begun target p).1
change_splits op (ToLocal x t) v p = refl
change_splits op (ToField object ot f t) v p = refl
change_splits op (ToElement a i) v p = refl
change_splits op NoTarget v p = refl

pub count_splits : (op : BinaryOp) (target : Target) (p : Progress) → old_value op target p ≡ count_by op (begun target p).0 (begun target p).1
count_splits op (ToLocal x t) p = refl
count_splits op (ToField object ot f t) p = refl
count_splits op (ToElement a i) p = refl
count_splits op NoTarget p = refl

pub assign_splits : (o : Option BinaryOp) (target : Target) (t : ValueType) (v : Progress → Made) (p : Progress) → assign_value o target t v p ≡ assign_by o t v (begun target p).0 (begun target p).1
assign_splits None target t v p = set_splits target t v p
assign_splits (Some op) target t v p = change_splits op target v p

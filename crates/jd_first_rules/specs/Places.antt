-- What stands at a place is one.
use Rattle.std.proofs.Common.{◌≡◌, Some, None, sym, ap, ◌∙◌}
use Rattle.jd_term.specs.Formulas.{PlainFormula}
use Rattle.jd_model.specs.Sequents.{PlainSequent, PlainPlace}
use Rattle.jd_model.specs.Places.{FormulaPart, at_place}

pub no_some : {A : Type 0} {x : A} → None ≡ Some x → ⊥
no_some h = cc

pub some_same : {A : Type 0} {x y : A} → Some x ≡ Some y → x ≡ y
some_same h = cc

pub formula_same : {x y : PlainFormula} → FormulaPart x ≡ FormulaPart y → x ≡ y
formula_same h = cc

-- the formula at a place
pub one_formula : (s : PlainSequent) (p q : PlainPlace) (a b : PlainFormula) → p ≡ q → at_place s p ≡ Some (FormulaPart a) → at_place s q ≡ Some (FormulaPart b) → a ≡ b
one_formula s p q a b e f g = formula_same (some_same (sym f ∙ ap (at_place s) e ∙ g))

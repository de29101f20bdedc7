-- Formulas without binders: no quantifier and no bounded sum.
use Rattle.std.specs.Prelude.{Bool, true, false, ◌&&◌}
use Rattle.jd_term.specs.Folds.{Gathering, fold_formula, fold_loc, fold_pairs, fold_term}
use Rattle.jd_term.specs.Formulas.{Pairs, PlainFormula, Forall, Exists}
use Rattle.jd_term.specs.Terms.{PlainTerm, PlainLoc, Sum}

-- the term is no sum, and none stands inside
abbrev pub is_no_sum : PlainTerm → Bool → Bool
is_no_sum (Sum t u v) inside = false
is_no_sum t inside = inside

-- the formula has no quantifier, and no binder stands inside
abbrev pub is_no_quantifier : PlainFormula → Bool → Bool
is_no_quantifier (Forall s a) inside = false
is_no_quantifier (Exists s a) inside = false
is_no_quantifier a inside = inside

-- code has no binder
abbrev pub no_binders : Gathering Bool
no_binders = record {
  none = true;
  join = λ a b. a && b;
  term = is_no_sum;
  loc = λ l inside. inside;
  formula = is_no_quantifier;
  pair = λ x inside. inside;
  code = λ c. true;
}

abbrev pub has_no_sum : PlainTerm → Bool
has_no_sum t = fold_term no_binders t

abbrev pub loc_has_no_sum : PlainLoc → Bool
loc_has_no_sum l = fold_loc no_binders l

-- no right side has a sum
abbrev pub pairs_have_no_sum : Pairs → Bool
pairs_have_no_sum u = fold_pairs no_binders u

abbrev pub has_no_binder : PlainFormula → Bool
has_no_binder a = fold_formula no_binders a

use Rattle.std.proofs.Common.{map, ◌++◌, ◌∷◌, ◌≡◌, []}
use Rattle.std.proofs.lemmas.Result.{IfOk-at_ok, IfOk-weaker}
use Rattle.jd_spelled_trees.specs.Places.{AreSpelled}
use Rattle.jd_spelled_trees.specs.Spelled.{IsSpelled}
use Rattle.jd_term.specs.Formulas.{formula_view}
use Rattle.rule_rows.proofs.Spelled.{one_more_view}
use Rattle.rule_rows.proofs.sequents.and_formula.Goals as goal

pub returns-in_ok-made-in-Ok : goal.returns-in_ok-made-in-Ok
returns-in_ok-made-in-Ok c = λ q m r.
    IfOk-weaker c.with.result (λ v. v.items ≡ c.in_ok-made-in-Ok.field-0.items ++ (c.in-Ok.formula ∷ [])) (λ v. AreSpelled q (map formula_view v.items))
    (λ v e. one_more_view formula_view q c.in_ok-made-in-Ok.field-0.items v.items c.in-Ok.formula e
    (IfOk-at_ok (λ v. AreSpelled q (map formula_view v.items)) c.in_ok-made-in-Ok.was m) (IfOk-at_ok (λ f. IsSpelled q (formula_view f)) c.in-Ok.is r)) c.with.ensures

-- Where rows that assume something may stand.
use Rattle.std.proofs.Common.{List, arith, length, map, refl, true, ◌<◌, ◌≡◌, ◌∷◌, []}
use Rattle.jd_model.specs.Sequents.{PlainPlace, PlainSequent}
use Rattle.jd_model.specs.declared.sequent.Side.{Side}
use Rattle.jd_schema_trees.specs.TacletViews.{assumption}
use Rattle.jd_schema_trees.specs.declared.formula.SFormula.{SFormula}
use Rattle.jd_taclet_scripts.specs.Places.{is_calm_place}
use Rattle.jd_taclet_stages.specs.Stages.{may_stand}

pub stands_without : (xs : List (Side × SFormula)) (s : PlainSequent) (q : PlainPlace) → length xs ≡ 0 → may_stand (map assumption xs) s q ≡ true
stands_without [] s q none = refl
stands_without (x ∷ xs) s q none = absurd (omega (arith, none))

pub stands_calmly : (xs : List (Side × SFormula)) (s : PlainSequent) (q : PlainPlace) → 0 < length xs → may_stand (map assumption xs) s q ≡ is_calm_place s q
stands_calmly [] s q some = absurd (omega (arith, some))
stands_calmly (x ∷ xs) s q some = refl

pub ruleset may = (stands_without, stands_calmly)

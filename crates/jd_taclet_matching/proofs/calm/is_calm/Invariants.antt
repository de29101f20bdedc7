use Rattle.std.proofs.Common.{◌≡◌, drop}
use Rattle.jd_model.specs.Places.{FormulaPart}
use Rattle.jd_taclet_scripts.specs.Places.{is_calm}
use Rattle.jd_term.specs.Formulas.{formula_view}
use Rattle.jd_taclet_matching.proofs.calm.is_calm.Given as goal

abbrev pub invariant-loop-number : goal.invariant-loop-number
invariant-loop-number l = is_calm (drop l.number-index l.path) (FormulaPart (formula_view l.around)) ≡ is_calm l.path (FormulaPart (formula_view l.initial.around))

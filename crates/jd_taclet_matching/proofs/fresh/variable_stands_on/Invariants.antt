use Rattle.std.proofs.Common.{◌≡◌, drop, map}
use Rattle.std.specs.List.{list_any}
use Rattle.jd_syntax.specs.Names.{var_view}
use Rattle.jd_term.specs.Formulas.{formula_view}
use Rattle.jd_term.specs.Occurs.{occurs_var_in}
use Rattle.jd_taclet_matching.proofs.fresh.variable_stands_on.Given as goal

abbrev pub invariant-loop-f : goal.invariant-loop-f
invariant-loop-f l = list_any (occurs_var_in (var_view l.x)) (map formula_view (drop l.f-index l.formulas)) ≡ list_any (occurs_var_in (var_view l.x)) (map formula_view l.formulas)

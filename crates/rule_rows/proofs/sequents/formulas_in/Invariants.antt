use Rattle.std.proofs.Common.{IfOk, map}
use Rattle.jd_spelled_trees.specs.Places.{AreSpelled}
use Rattle.jd_term.specs.Formulas.{formula_view}
use Rattle.jd_tparse.specs.Names.{table_of}
use Rattle.rule_rows.proofs.sequents.formulas_in.Given as goal

abbrev pub invariant-loop-part : goal.invariant-loop-part
invariant-loop-part l = IfOk l.formulas (λ v. AreSpelled (table_of l.names) (map formula_view v.items))

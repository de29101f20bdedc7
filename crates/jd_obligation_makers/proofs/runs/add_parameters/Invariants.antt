use Rattle.std.proofs.Common.{◌≡◌, ◌++◌, map, drop}
use Rattle.jd_term.specs.Formulas.{pair_view}
use Rattle.jd_oblig.specs.CaseObligations.{parameter_pair}
use Rattle.jd_obligation_makers.specs.Starts.{decl_name}
use Rattle.jd_obligation_makers.proofs.runs.add_parameters.Given as goal

-- what is there, and what those that are left add
abbrev pub invariant-loop-v : goal.invariant-loop-v
invariant-loop-v l = map pair_view l.to.items ++ map parameter_pair (map decl_name (drop l.v-index l.vars)) ≡ map pair_view l.fn.to.items ++ map parameter_pair (map decl_name l.fn.vars)

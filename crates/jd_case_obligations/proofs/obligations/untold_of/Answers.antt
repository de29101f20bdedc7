use Rattle.std.proofs.Common.{ap, option_map, sym, ◌∙◌}
use Rattle.jd_oblig.specs.KeptByObligations.{sort_of_result}
use Rattle.jd_case_obligations.specs.Listed.{keeps_invariant}
use Rattle.jd_case_obligations.proofs.obligations.untold_of.Goals as goal

pub returns : goal.returns
returns c = λ k head. record {
  outcome = ap (option_map sort_of_result) head.outcome ∙ c.sort_of_outcome.ensures;
  keeps = ap keeps_invariant head.role ∙ sym c.keeps_invariant.ensures;
}

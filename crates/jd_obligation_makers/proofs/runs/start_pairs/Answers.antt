use Rattle.std.proofs.Common.{ap, map}
use Rattle.jd_term.specs.Formulas.{pair_view}
use Rattle.jd_term.specs.Terms.{NullTerm}
use Rattle.std.proofs.Common.{refl}
use Rattle.jd_obligation_makers.proofs.Beginnings.{all_pairs}
use Rattle.jd_obligation_makers.proofs.runs.start_pairs.Goals as goal

pub returns : goal.returns
returns c =
    all_pairs _ _ _ _ _ _ _ (ap (map pair_view) c.new-pairs.ensures.items) (c.in_ok-add_pair.ensures _ _ c.heap_variable.ensures c.heap.ensures) c.in_ok-add_arguments.ensures
    (c.in_ok-add_pair-2.ensures _ NullTerm c.thrown_variable.ensures refl)

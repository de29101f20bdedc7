use Rattle.std.proofs.Common.{◌≡◌, drop, map}
use Rattle.jd_taclet_stages.specs.Steadiness.{index_in_pairs}
use Rattle.jd_term.specs.Formulas.{pair_view}
use Rattle.jd_told_tables.proofs.steady.index_in_pairs.Given as goal

abbrev pub invariant-loop-p : goal.invariant-loop-p
invariant-loop-p l = index_in_pairs l.index (map pair_view l.pairs) ≡ index_in_pairs l.index (map pair_view (drop l.p-index l.pairs))

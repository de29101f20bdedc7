use Rattle.std.proofs.Common.{◌≡◌, drop, map}
use Rattle.jd_term.specs.Formulas.{pair_view}
use Rattle.jd_tforms.specs.Sorted.{pairs_sorted}
use Rattle.jd_tsorts.proofs.formulas.are_sorted_pairs.Given as goal

-- what is left decides
abbrev pub invariant-loop-pair : goal.invariant-loop-pair
invariant-loop-pair g l =
    pairs_sorted (g.N.NameMeanings.table l.names) (map pair_view l.pairs) ≡ pairs_sorted (g.N.NameMeanings.table l.names) (map pair_view (drop l.pair-index l.pairs))

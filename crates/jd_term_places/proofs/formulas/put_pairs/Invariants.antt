use Rattle.std.proofs.Common.{◌++◌, ◌≡◌, drop, map}
use Rattle.jd_term.specs.Formulas.{pair_view}
use Rattle.jd_term.specs.TermViews.{term_view}
use Rattle.jd_term_places.proofs.Pairs.{pairs_from}
use Rattle.jd_term_places.proofs.formulas.put_pairs.Given as goal

abbrev pub invariant-loop-i : goal.invariant-loop-i
invariant-loop-i l =
    map pair_view l.made.items ++ pairs_from l.number l.i l.path (term_view l.new) (map pair_view (drop l.i l.pairs))
    ≡ pairs_from l.number 0 l.path (term_view l.new) (map pair_view l.pairs)

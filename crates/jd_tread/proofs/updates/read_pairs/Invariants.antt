use Rattle.std.proofs.Common.{◌≡◌, map}
use Rattle.jd_syntax.specs.Sxs.{bracketed_list, sx_view}
use Rattle.jd_term.specs.Formulas.{pair_view}
use Rattle.jd_tforms.specs.Reading.{all_pairs, reads}
use Rattle.jd_tread.proofs.Many.{pairs_from}
use Rattle.jd_tread.proofs.updates.read_pairs.Given as goal

-- what is read so far, and what the rest adds
abbrev pub invariant-loop-part : goal.invariant-loop-part
invariant-loop-part g l =
    all_pairs (g.N.NameMeanings.table l.names) l.binders (reads (g.N.NameMeanings.table l.names) (bracketed_list (map sx_view l.parts)))
    ≡ pairs_from (g.N.NameMeanings.table l.names) l.binders l.parts l.part-index (map pair_view l.pairs.items)

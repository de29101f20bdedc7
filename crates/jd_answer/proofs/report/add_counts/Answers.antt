use Rattle.jd_answer.proofs.Texts.{four_parts}
use Rattle.jd_answer.proofs.report.add_counts.Goals as goal

pub returns : goal.returns
returns c =
    four_parts _ _ _ _ _ _ _ _ _ c.in_ok-extend_from_slice.ensures.items c.in_ok-add_decimal.ensures c.in_ok-extend_from_slice-2.ensures.items c.in_ok-add_decimal-2.ensures

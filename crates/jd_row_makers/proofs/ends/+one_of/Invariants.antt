use Rattle.std.proofs.Common.{length}
use Rattle.jd_row_makers.proofs.ends.+one_of.Given as goal

abbrev pub decreases-one_of : goal.decreases-one_of
decreases-one_of l = length l.others.now

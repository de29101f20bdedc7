use Rattle.std.proofs.Common.{◌+◌, ◌*◌, length}
use Rattle.jd_term_places.proofs.formulas.+put_below.Given as goal

abbrev pub decreases-put_below : goal.decreases-put_below
decreases-put_below l = 3 * length l.path.now

abbrev pub decreases-put_behind : goal.decreases-put_behind
decreases-put_behind l = 3 * length l.rest.now + 2

abbrev pub decreases-formula_part : goal.decreases-formula_part
decreases-formula_part l = 3 * length l.path.now + 1

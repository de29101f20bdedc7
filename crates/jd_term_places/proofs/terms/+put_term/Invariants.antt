use Rattle.std.proofs.Common.{◌+◌, ◌*◌, length}
use Rattle.jd_term_places.proofs.terms.+put_term.Given as goal

abbrev pub decreases-put_term : goal.decreases-put_term
decreases-put_term l = 2 * length l.path.now

abbrev pub decreases-put_loc : goal.decreases-put_loc
decreases-put_loc l = 2 * length l.path.now

abbrev pub decreases-term_part : goal.decreases-term_part
decreases-term_part l = 2 * length l.path.now + 1

abbrev pub decreases-loc_part : goal.decreases-loc_part
decreases-loc_part l = 2 * length l.path.now + 1

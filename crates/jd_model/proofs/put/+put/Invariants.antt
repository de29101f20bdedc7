use Rattle.std.proofs.Common.{◌+◌, ◌*◌, length}
use Rattle.jd_model.proofs.put.+put.Given as goal

abbrev pub decreases-put : goal.decreases-put
decreases-put l = 2 * length l.path.now

abbrev pub decreases-put_part : goal.decreases-put_part
decreases-put_part l = 2 * length l.rest.now + 1

abbrev pub decreases-put_parts : goal.decreases-put_parts
decreases-put_parts l = 2 * length l.rest.now + 1

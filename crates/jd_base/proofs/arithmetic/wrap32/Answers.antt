use Rattle.std.proofs.Common.{rules, ◌≡◌, ℕ, ℤ, pos, to_z, of_z}
use Rattle.std.specs.Int.{int_wrap, w32}
use Rattle.jd_base.proofs.Wrapping.{wrapped}
use Rattle.jd_base.proofs.arithmetic.wrap32.Goals as goal

-- src/arithmetic.rt:7:1
pub returns : goal.returns
returns c = wrapped c.args.a c.rem_euclid.result c.cast_signed.result c.rem_euclid.ensures.upper_bound c.ranges.a c.rem_euclid.ensures.value c.cast_signed.ensures

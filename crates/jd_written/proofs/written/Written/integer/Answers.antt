use Rattle.std.proofs.Common.{ap, ◌∙◌, to_z-of_z}
use Rattle.std.specs.Fmt.{signed_decimal}
use Rattle.jd_written.specs.Written.{integer_text}
use Rattle.jd_written.proofs.Integers.{signed_is}
use Rattle.jd_written.proofs.Writing.{word_as}
use Rattle.jd_written.proofs.written.Written.integer.Goals as goal

pub returns : goal.returns
returns c =
    word_as c.word.result c.args.self.now c.word.new.self c.as_bytes.result.now (integer_text c.args.n)
    (c.as_bytes.ensures.value ∙ (c.format.ensures.text ∙ (ap signed_decimal (to_z-of_z c.ranges.n) ∙ signed_is c.args.n c.ranges.n))) c.word.ensures

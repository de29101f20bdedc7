use Rattle.std.proofs.Common.{◌++◌, ap, ◌∙◌, arith}
use Rattle.jd_written.proofs.Integers.{decimal_is}
use Rattle.jd_written.proofs.written.add_number.Goals as goal

pub returns : goal.returns
returns c = c.in_ok-extend_from_slice.ensures.items ∙ ap (λ d. c.args.text.now.items ++ d) (c.as_bytes.ensures.value ∙ (c.format.ensures.text ∙ decimal_is c.args.n (omega (arith, c.ranges.n))))

use Rattle.std.proofs.Common.{ap, subst, ◌∙◌, to_z-of_z}
use Rattle.std.specs.Fmt.{signed_decimal}
use Rattle.jd_bracketed.specs.Tokens.{Word}
use Rattle.jd_written.specs.Written.{write}
use Rattle.jd_written.proofs.Integers.{signed_is}
use Rattle.jd_print.specs.Printings.{Holds}
use Rattle.jd_print.proofs.printing.Printing.integer.Goals as goal

pub returns : goal.returns
returns c = λ t h.
    subst (λ w. Holds c.word.result (write t (Word w)))
    (c.as_bytes.ensures.value ∙ (c.format.ensures.text ∙ (ap signed_decimal (to_z-of_z c.ranges.n) ∙ signed_is c.args.n c.ranges.n)))
    (c.word.ensures t h)

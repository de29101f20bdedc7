use Rattle.std.proofs.Common.{◌++◌, subst, ◌∙◌, arith}
use Rattle.jd_bracketed.specs.Tokens.{Word}
use Rattle.jd_written.specs.Written.{write}
use Rattle.jd_written.proofs.Integers.{decimal_is}
use Rattle.jd_print.specs.Printings.{Holds}
use Rattle.jd_print.proofs.printing.Printing.marked.Goals as goal

pub returns : goal.returns
returns c = λ t h.
    subst (λ w. Holds c.more.result (write t (Word (c.args.mark.now ++ w))))
    (c.as_bytes.ensures.value ∙ (c.format.ensures.text ∙ decimal_is c.args.n (omega (arith, c.ranges.n))))
    (c.more.ensures t c.args.mark.now (c.word.ensures t h))

use Rattle.jd_print.proofs.Parts.{arguments_are_smaller}
use Rattle.jd_print.proofs.printing.Printing.+code.Goals as goal

-- the arguments are parts of the call
pub expr-exprs-requires : goal.expr-exprs-requires
expr-exprs-requires g t c κs within = (arguments_are_smaller _ _ _ _ c.args.expr.now c.deref-in-VirtualCall-2.result.now t c.in-VirtualCall.is c.deref-in-VirtualCall-2.ensures.value c.decreases, within)

use Rattle.std.proofs.Common.{◌+◌, ◌*◌}
use Rattle.jd_tforms.specs.Shapes.{is_digit}
use Rattle.jd_twords.proofs.Numbers.{each, digit_range, value_more, too_big, soon_too_big}
use Rattle.jd_twords.proofs.shapes.value_of.Goals as goal

pub returns-then-value-greatest : goal.returns-then-value-greatest
returns-then-value-greatest c = soon_too_big c.args.digits.now c.loop-byte.byte-index c.loop-byte.value c.args.greatest c.loop-byte-test.true c.loop-byte.invariant.is c.if-value-greatest.true

pub overflow_sub-byte : goal.overflow_sub-byte
overflow_sub-byte c = (digit_range _ (each is_digit c.args.digits.now c.requires.digits c.loop-byte.byte-index c.loop-byte-test.true)).0

pub returns-then-value-greatest-2 : goal.returns-then-value-greatest-2
returns-then-value-greatest-2 c = too_big c.args.digits.now (c.loop-byte.byte-index + 1) (c.loop-byte.value * 10 + c.from.result) c.args.greatest (value_more c.args.digits.now c.loop-byte.byte-index c.loop-byte.value c.from.result c.requires.digits c.loop-byte-test.true c.loop-byte.invariant.is c.from.ensures) c.if-value-greatest-2.true

pub loop-byte-preserved : goal.loop-byte-preserved
loop-byte-preserved c = record {
  is = value_more c.args.digits.now c.loop-byte.byte-index c.loop-byte.value c.from.result c.requires.digits c.loop-byte-test.true c.loop-byte.invariant.is c.from.ensures;
  small = c.if-value-greatest-2.false;
}

use Rattle.std.proofs.Common.{◌+◌, ◌*◌}
use Rattle.jd_lex.specs.Bytes.{is_digit}
use Rattle.jd_lex.proofs.Heads.{all_of_at, digit_range, value_more, too_big, soon_too_big}
use Rattle.jd_lex.proofs.runs.value_of.Goals as goal

pub returns-then-value-limit : goal.returns-then-value-limit
returns-then-value-limit c = soon_too_big c.args.digits.now c.loop-byte.byte-index c.loop-byte.value c.args.limit c.loop-byte-test.true c.loop-byte.invariant.is c.if-value-limit.true

pub overflow_sub-byte : goal.overflow_sub-byte
overflow_sub-byte c = (digit_range _ (all_of_at is_digit c.args.digits.now c.requires.digits c.loop-byte.byte-index c.loop-byte-test.true)).0

pub returns-then-value-limit-2 : goal.returns-then-value-limit-2
returns-then-value-limit-2 c = too_big c.args.digits.now (c.loop-byte.byte-index + 1) (c.loop-byte.value * 10 + c.from.result) c.args.limit (value_more c.args.digits.now c.loop-byte.byte-index c.loop-byte.value c.from.result c.requires.digits c.loop-byte-test.true c.loop-byte.invariant.is c.from.ensures) c.if-value-limit-2.true

pub loop-byte-preserved : goal.loop-byte-preserved
loop-byte-preserved c = record {
  is = value_more c.args.digits.now c.loop-byte.byte-index c.loop-byte.value c.from.result c.requires.digits c.loop-byte-test.true c.loop-byte.invariant.is c.from.ensures;
  small = c.if-value-limit-2.false;
}

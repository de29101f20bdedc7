use Rattle.std.proofs.Common.{◌≡◌, arith, subst}
use Rattle.jd_reach.proofs.Bits.{IsJoined, none_joined, one_more_joined, rows_joined}
use Rattle.jd_reach.proofs.rows.join.Goals as goal

pub loop-word-init : goal.loop-word-init
loop-word-init c = none_joined c.args.width c.args.into c.args.from c.args.words.now

pub loop-word-preserved : goal.loop-word-preserved
loop-word-preserved c = one_more_joined c.args.width c.args.into c.args.from c.args.words.now c.loop-word.words c.loop-word.word c.loop-word.auto.words c.requires.into c.loop-word-test.true c.loop-word.invariant

pub returns : goal.returns
returns c =
    let all : c.loop-word.word ≡ c.args.width = omega arith in
    rows_joined c.args.width c.args.into c.args.from c.args.words.now c.loop-word.words (subst (IsJoined c.args.width c.args.into c.args.from c.args.words.now c.loop-word.words) all c.loop-word.invariant)

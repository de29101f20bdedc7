use Rattle.std.proofs.Common.{arith}
use Rattle.jd_lex.proofs.Heads.{closes_at, no_close}
use Rattle.jd_lex.proofs.runs.close_at.Goals as goal

pub returns-then-bytes-n-eq47 : goal.returns-then-bytes-n-eq47
returns-then-bytes-n-eq47 c = closes_at c.args.bytes.now c.loop-n.n c.loop-n-test.true (c.if-bytes-n-eq42.true, c.if-bytes-n-eq47.true) c.loop-n.invariant.never

pub returns : goal.returns
returns c = no_close c.args.bytes.now (λ k lt h. c.loop-n.invariant.never k (omega (arith, lt, c.loop-n-test.false)) h)

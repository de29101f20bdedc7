use Rattle.std.proofs.Common.{length, rules}
use Rattle.jd_lex.specs.Lens.{test_of}
use Rattle.jd_lex.proofs.Heads.{run_head}
use Rattle.jd_lex.proofs.runs.run_len.Goals as goal

pub returns-then-not-is_of : goal.returns-then-not-is_of
returns-then-not-is_of c = run_head (test_of c.args.kind) c.args.bytes.now c.loop-n.n (search rules) c.loop-n.invariant (λ lt. search (rules, c.if-not-is_of))

pub returns : goal.returns
returns c = run_head (test_of c.args.kind) c.args.bytes.now (length c.args.bytes.now) (search rules) (search (rules, c.loop-n)) (λ lt. search rules)

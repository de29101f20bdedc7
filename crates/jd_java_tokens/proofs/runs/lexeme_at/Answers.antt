use Rattle.jd_java_tokens.proofs.RunsOfSpecs.{run_at}
use Rattle.jd_java_tokens.proofs.runs.lexeme_at.Goals as goal

pub returns-then-token-clause-first : goal.returns-then-token-clause-first
returns-then-token-clause-first c = run_at c.args.tokens.now c.index-tokens-number.result c.args.number c.jml_len.result c.requires.within c.index-tokens-number.is c.if-token.true c.jml_len.ensures.counted

use Rattle.std.proofs.Common.{sym, ◌∙◌}
use Rattle.jd_lex.proofs.Alone.{begins_alone_len}
use Rattle.jd_lex.proofs.signs.sign_len.Goals as goal

pub returns-then-begins_alone : goal.returns-then-begins_alone
returns-then-begins_alone c = begins_alone_len c.args.jml c.args.bytes.now (sym c.begins_alone.ensures ∙ c.if-begins_alone.true)

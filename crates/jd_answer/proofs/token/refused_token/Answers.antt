use Rattle.std.proofs.Common.{◌<◌, subst}
use Rattle.jd_answer.proofs.token.refused_token.Goals as goal

pub token_answer-requires : goal.token_answer-requires
token_answer-requires c =
    subst (λ n. c.in-Refused.refused.file < n) c.requires.2 (c.one_refusal.ensures.in_files c.requires.0 _ (rw c.in-Refused.is at c.requires.1))

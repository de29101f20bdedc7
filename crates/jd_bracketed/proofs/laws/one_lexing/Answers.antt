use Rattle.std.proofs.Common.{false}
use Rattle.jd_bracketed.proofs.Spelling.{all_spelled, read_so}
use Rattle.jd_bracketed.proofs.laws.one_lexing.Goals as goal

pub returns-clause-spelled : goal.returns-clause-spelled
returns-clause-spelled c = all_spelled

pub returns-clause-only : goal.returns-clause-only
returns-clause-only c = λ tokens bytes h. read_so tokens false 0 bytes h

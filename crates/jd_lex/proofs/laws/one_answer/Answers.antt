use Rattle.jd_lex.specs.Lexing.{IsJavaPart}
use Rattle.jd_lex.proofs.Rows.{one_whole}
use Rattle.jd_lex.proofs.Once.{one_java_part}
use Rattle.jd_lex.proofs.First.{spelled_or_fault}
use Rattle.jd_lex.proofs.Marks.{one_first}
use Rattle.jd_lex.proofs.laws.one_answer.Goals as goal

pub returns-clause-one_list : goal.returns-clause-one_list
returns-clause-one_list c = λ bytes xs ys h k. one_whole IsJavaPart one_java_part 0 bytes xs ys h.parts k.parts

pub returns-clause-no_fault : goal.returns-clause-no_fault
returns-clause-no_fault c = λ bytes xs f h k. spelled_or_fault bytes xs f h k

pub returns-clause-one_first : goal.returns-clause-one_first
returns-clause-one_first c = λ bytes f g h k. one_first bytes f g h k

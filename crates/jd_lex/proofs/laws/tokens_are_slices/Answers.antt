use Rattle.std.proofs.Common.{[], refl}
use Rattle.jd_lex.proofs.Slices.{java_placed, placed_slices, placed_order}
use Rattle.jd_lex.proofs.laws.tokens_are_slices.Goals as goal

pub returns-clause-slices : goal.returns-clause-slices
returns-clause-slices c = λ bytes ts h. placed_slices [] bytes 0 ts refl (java_placed bytes ts h.parts)

pub returns-clause-in_order : goal.returns-clause-in_order
returns-clause-in_order c = λ bytes ts h. placed_order bytes 0 ts (java_placed bytes ts h.parts)

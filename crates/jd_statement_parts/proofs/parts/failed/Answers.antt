use Rattle.jd_statement_parts.proofs.Standing.{nothing_known}
use Rattle.jd_statement_parts.proofs.parts.failed.Goals as goal

pub returns-clause-stands : goal.returns-clause-stands
returns-clause-stands c = λ s q ls. nothing_known c.fail.new.self s ls q c.fail.ensures.failed

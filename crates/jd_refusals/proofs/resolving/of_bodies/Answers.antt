use Rattle.jd_check.specs.First as first
use Rattle.jd_refusals.specs.Refusals.{refused_view}
use Rattle.jd_refusals.proofs.FirstTold.{body_first}
use Rattle.jd_refusals.proofs.resolving.of_bodies.Goals as goal

pub returns-in-Refused : goal.returns-in-Refused
returns-in-Refused c = λ units refused.
    body_first units (first.refused_view c.in-Refused.r) (refused_view c.body_token.result) c.body_token.ensures (rw c.in-Refused.is at refused)

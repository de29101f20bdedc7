use Rattle.std.proofs.Common.{ap, map, ◌∙◌}
use Rattle.jd_obligation_makers.specs.Starts.{decl_name}
use Rattle.jd_case_obligations.proofs.Exits.{are_parts, made, whole}
use Rattle.jd_case_obligations.proofs.obligations.obligation.Goals as goal

pub returns-in-Ok : goal.returns-in-Ok
returns-in-Ok c = λ units p fields k b tables row untold running.
    let first = ap (map decl_name) c.first_of-arguments.ensures ∙ running.variables in
    whole units p fields k b _ _ _ _ _ _ _ _ row
    (made _ _ _ c.in-Ok.ensures.0 (c.obligation_name.ensures units tables))
    (made _ _ _ c.in-Ok.ensures.1 c.copies.ensures)
    (made _ _ _ c.in-Ok.ensures.2 c.constants.ensures)
    (c.parameters_of.ensures b.receiver b.parameters running.receiver first)
    (made _ _ _ c.in-Ok.ensures.3 (c.sequent.ensures b _ (record { receiver = running.receiver; variables = first; code = running.code }) (are_parts p fields k b _ _ row untold.outcome untold.keeps)))

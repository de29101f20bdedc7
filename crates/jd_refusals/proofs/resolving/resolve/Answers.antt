use Rattle.std.proofs.Common.{map, sym, subst}
use Rattle.jd_check.specs.Building.{body_view}
use Rattle.jd_jmlcheck.specs.Views.{refusal_view}
use Rattle.jd_refusals.specs.Resolving.{IsTold}
use Rattle.jd_refusals.proofs.FirstTold.{jml_first, no_body, none_first}
use Rattle.jd_refusals.proofs.resolving.resolve.Goals as goal

pub returns-in-Err-clause-err : goal.returns-in-Err-clause-err
returns-in-Err-clause-err c = λ units tables. c.of_bodies.ensures units (c.in-Err.ensures.err units tables)

pub returns-in-Ok-check_specs-clause-ok : goal.returns-in-Ok-check_specs-clause-ok
returns-in-Ok-check_specs-clause-ok c = λ units tables.
    let said = c.in-Ok-check_specs.ensures units tables in
    let bodies = c.in-Ok.ensures.ok units tables in
    record { bodies_ = bodies; specs_ = said.1; none = none_first units (no_body units (map body_view c.in-Ok.bodies.bodies.items) bodies) said.0 }

pub returns-in-Err-check_specs-clause-err : goal.returns-in-Err-check_specs-clause-err
returns-in-Err-check_specs-clause-err c = λ units tables.
    let none = no_body units (map body_view c.in-Ok.bodies.bodies.items) (c.in-Ok.ensures.ok units tables) in
    subst (IsTold units) (sym c.of_specs.ensures) (jml_first units none (refusal_view c.in-Err-check_specs.refusal) (c.in-Err-check_specs.ensures units tables))

use Rattle.jd_bodies.specs.Bodies.{scope_names}
use Rattle.jd_bodies.specs.Variables.{with_loop}
use Rattle.jd_statement_parts.proofs.Standing.{moves_on, there}
use Rattle.jd_statement_parts.proofs.loops.entered.Goals as goal

pub returns-clause-stands : goal.returns-clause-stands
returns-clause-stands g c = λ q ls h.
    moves_on c.args.p.now c.enter_loop.new.self (g.S.InScope.scope c.args.scope.now).locals ls q (with_loop (scope_names q ls) q) c.enter_loop.ensures.works h (λ k. c.enter_loop.ensures.progress q (scope_names q ls) k (c.scope_names-names.ensures q ls h))

pub returns-clause-number : goal.returns-clause-number
returns-clause-number g c = λ q ls h. c.enter_loop.ensures.number q (scope_names q ls) (there c.args.p.now (g.S.InScope.scope c.args.scope.now).locals ls q h)

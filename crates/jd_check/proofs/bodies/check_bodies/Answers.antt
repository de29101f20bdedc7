use Rattle.std.proofs.lemmas.Result.{IfErr-weaker}
use Rattle.jd_check.proofs.Refusing.{refused_by}
use Rattle.jd_check.proofs.bodies.check_bodies.Goals as goal

pub returns-in-Ok-clause-err : goal.returns-in-Ok-clause-err
returns-in-Ok-clause-err c = λ units tables. IfErr-weaker c.checked.result _ _ (λ e h. refused_by _ units e (c.in-Ok.ensures units tables) h) (c.checked.ensures.err units tables)

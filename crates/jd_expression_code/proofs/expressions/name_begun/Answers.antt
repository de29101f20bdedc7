use Rattle.std.proofs.Common.{subst, sym}
use Rattle.jd_bodies.specs.Codes.{name_target, this_code}
use Rattle.jd_bodies.specs.declared.place.Meaning.{Meaning}
use Rattle.jd_bodies.specs.declared.value.ValueType.TheVariants as types
use Rattle.jd_code_makers.specs.Held.{Holds}
use Rattle.jd_expression_code.specs.Assigning.{GivesBegun, begun}
use Rattle.jd_expression_code.proofs.expressions.name_begun.Goals as goal

pub returns-in-Field-clause-progress : goal.returns-in-Field-clause-progress
returns-in-Field-clause-progress c = λ q h.
    subst (λ (m : Meaning). Holds c.field_begun.new.p (begun (name_target (types.Class c.args.class) c.args.x.now m) q).0) (sym c.in-Field.is) (c.field_begun.ensures.progress (q, this_code) h)

pub returns-in-Field-clause-begun : goal.returns-in-Field-clause-begun
returns-in-Field-clause-begun c = λ q h.
    subst (λ (m : Meaning). GivesBegun c.field_begun.result (begun (name_target (types.Class c.args.class) c.args.x.now m) q).1) (sym c.in-Field.is) (c.field_begun.ensures.begun (q, this_code) h c.this.ensures)

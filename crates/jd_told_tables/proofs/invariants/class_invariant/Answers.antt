use Rattle.std.proofs.Common.{ap, arith, subst, ◌∙◌}
use Rattle.jd_model.specs.Conjunctions.{conjunction}
use Rattle.jd_sequent.specs.Obligations.{task_view}
use Rattle.jd_term.specs.Formulas.{PlainFormula}
use Rattle.jd_term.specs.Makers.{GivesFormula}
use Rattle.jd_told_tables.proofs.Inherited.{invariant_along}
use Rattle.jd_told_tables.proofs.invariants.class_invariant.Goals as goal

pub returns : goal.returns
returns c =
    subst (λ (a : PlainFormula). GivesFormula c.conjoined.result a)
    (ap conjunction c.in_ok-invariants_of_class.ensures ∙ invariant_along (task_view c.args.task.now) c.args.class.0 _ _ (omega (arith, c.if-class-class_count.false, c.class_count.ensures)))
    c.conjoined.ensures

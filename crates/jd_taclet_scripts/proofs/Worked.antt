-- The worked steps are steps of their rows.
use Rattle.std.proofs.Common.{codes, inl, inr, refl, subst, ⊎_elim, ◌≡◌, ◌∷◌, []}
use Rattle.std.proofs.lemmas.Option.{same_Some}
use Rattle.jd_model.specs.declared.sequent.Side.TheVariants.{Left, Right}
use Rattle.jd_patterns.specs.Patterns.{LiteralVar}
use Rattle.jd_sequent.specs.Obligations.{PlainTask}
use Rattle.jd_taclet_scripts.specs.Laws.{HasOneGoal, IsInShape}
use Rattle.jd_taclet_scripts.specs.Steps.{IsTacletStep}
use Rattle.jd_taclet_scripts.specs.WorkedSteps.{StepsAreWorked, close, close_step, fold_step, with_both, with_sum, with_value, worked_instance, worked_rows}
use Rattle.jd_taclets.specs.Taclets.{AtFormula, AtTerm, OnRight}
use Rattle.jd_taclets.specs.WorkedRows.{fold_add}

not_left : Right ≡ Left → ⊥
not_left e = cc

no_formula : OnRight ≡ AtFormula → ⊥
no_formula e = cc

no_term : OnRight ≡ AtTerm → ⊥
no_term e = cc

close_shape : IsInShape close
close_shape f e k = absurd (⊎_elim no_formula no_term k)

fold_shape : IsInShape fold_add
fold_shape f e k = subst (HasOneGoal fold_add) (same_Some _ f e) (LiteralVar (codes "m+n"), refl)

closed : (t : PlainTask) → IsTacletStep worked_rows t with_both close_step []
closed t = record {
  row = close;
  named = refl;
  is_step = record {
    instance = worked_instance;
    found = (refl, refl, refl);
    may_stand = inr refl;
    assumed = ((refl, refl, refl, λ e. not_left e.0), tt);
    conds = tt;
    given = record { each = tt; count = refl };
    find_fits = tt;
    assumed_fit = (tt, tt);
    constants_new = tt;
    variables_new = tt;
    premises_are = refl;
  };
}

folded : (t : PlainTask) → IsTacletStep worked_rows t with_sum fold_step (with_value ∷ [])
folded t = record {
  row = fold_add;
  named = refl;
  is_step = record {
    instance = worked_instance;
    found = refl;
    may_stand = inl refl;
    assumed = tt;
    conds = ((refl, refl), tt);
    given = record { each = tt; count = refl };
    find_fits = (tt, tt);
    assumed_fit = tt;
    constants_new = tt;
    variables_new = tt;
    premises_are = refl;
  };
}

pub worked : StepsAreWorked
worked = record { shapes = (fold_shape, (close_shape, tt)); closed = closed; folded = folded }

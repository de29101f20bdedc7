-- The instances of the first rules are sound steps.
use Rattle.std.proofs.Common.{subst, ◌⊎◌, inl, inr}
use Rattle.jd_model.specs.Validity.{AllValid}
use Rattle.jd_first_steps.specs.Instances.{IsClose, IsRow, IsRewrite}
use Rattle.jd_first_steps.specs.SoundSteps.{IsValidStep, InstancesAreSound}
use Rattle.jd_first_steps.proofs.WholeFormulas.{rows_are_sound, taken_apart, close_valid}
use Rattle.jd_first_steps.proofs.Places.{rewriting_is_sound}
use Rattle.jd_first_steps.proofs.Replacements.{rewrites_keep_truth}
use Rattle.jd_first_steps.proofs.SortedSteps.{sequents_stay_sorted}

pub instances_are_sound : InstancesAreSound
instances_are_sound t s p ps w e program k stands d m usable = by e.step program.setting d m
  where
    by : IsClose e.rule s p ps ⊎ (IsRow e.rule s p ps ⊎ IsRewrite e.rule s p ps) → IsValidStep s ps
    by (inl h) = λ g d m valid. close_valid g d m s h.index h.assumed h.formula h.on_right h.on_left
    by (inr (inl h)) = λ g d m valid. rows_are_sound s h.place.side h.place.index h.formula h.goals h.found (taken_apart e.rule h.place.side h.formula h.goals h.row) g d m (subst (AllValid g d m) h.premises valid)
    by (inr (inr h)) = λ g d m valid.
        rewriting_is_sound s h.place h.before h.after h.found
        (rewrites_keep_truth e.rule h.before h.after (sequents_stay_sorted.found s h.place h.before w h.found) h.rewrites)
        g d m (subst (AllValid g d m) h.premises valid)

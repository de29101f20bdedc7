-- The laws of the rules as one set.
use Rattle.std.proofs.Common.{All, List, None, Option, Some, length, refl, ◌<◌, ◌≡◌, ◌^◌, ℕ}
use Rattle.jd_first_rules.specs.Laws as first
use Rattle.jd_first_rules.specs.NoCause.{no_cause}
use Rattle.jd_first_steps.proofs.Sound.{instances_are_sound}
use Rattle.jd_model.specs.Sequents.{PlainSequent}
use Rattle.jd_sequent.specs.Obligations.{PlainTask, names_of}
use Rattle.jd_sequent.specs.Rules.{LeadsWithinLimits}
use Rattle.jd_sequent.specs.TaskMeaning.{StepIsSound}
use Rattle.jd_sequent.specs.Trees.{PlainStep}
use Rattle.jd_spelled_first_steps.proofs.Instances.{first_instances_keep_spelled}
use Rattle.jd_spelled_first_steps.proofs.ToSorted.{spelled_formulas_are_sorted}
use Rattle.jd_spelled_trees.specs.Places.{IsSpelledSequent}
use Rattle.jd_table_steps.proofs.Rows.{rows_are_rules}
use Rattle.jd_table_steps.proofs.Tables as table
use Rattle.jd_table_steps.specs.Tables.{rule_rows}
use Rattle.jd_taclet_scripts.specs.Steps.{row_named}
use Rattle.jd_taclets.specs.Taclets.{Taclet}
use Rattle.jd_rules.specs.Steps.{CauseOf, IsRuleStep, IsStepOf, IsTaken, RuleCause}

-- each that is taken, with what holds of all
pub each_with : {A : Type 0} (P : A → Type 0) (l : List A) (Q : Type 0) → Q → All P l → All (λ x. Q × P x) l
each_with P l Q q all k d lt = (q, all k d lt)

module _ (t : PlainTask) (s : PlainSequent) (p : PlainStep) where
  sound_of : (o : Option Taclet) → row_named rule_rows p.rule ≡ o → (ps : List PlainSequent) → IsTaken t s → IsStepOf o t s p ps → StepIsSound t s ps
  sound_of (Some r) named ps taken is = table.sound rule_rows rows_are_rules t s p ps taken.0 (record { row = r; named = named; is_step = is })
  sound_of None named ps taken is = instances_are_sound t s p ps (spelled_formulas_are_sorted.sequent (names_of t) s taken.0) is

  pub sound : (ps : List PlainSequent) → IsTaken t s → IsRuleStep t s p ps → StepIsSound t s ps
  sound ps taken is = sound_of (row_named rule_rows p.rule) refl ps taken is

  keeps_of : (o : Option Taclet) → row_named rule_rows p.rule ≡ o → (ps : List PlainSequent) → IsTaken t s → LeadsWithinLimits (IsStepOf o t) s p ps → All (IsSpelledSequent (names_of t)) ps
  keeps_of (Some r) named ps taken leads = table.keeps rule_rows rows_are_rules t s p ps taken.0 (record { row = r; named = named; is_step = leads.0 }, leads.1)
  keeps_of None named ps taken leads = first_instances_keep_spelled table.spelled_places (names_of t) taken.1 s p ps taken.0 leads.0 leads.1

  pub keeps : (ps : List PlainSequent) → IsTaken t s → LeadsWithinLimits (IsRuleStep t) s p ps → All (IsTaken t) ps
  keeps ps taken leads =
      let all = keeps_of (row_named rule_rows p.rule) refl ps taken leads in
      λ k d lt. (all k d lt, taken.1)

  cause_of : (o : Option Taclet) → row_named rule_rows p.rule ≡ o → (ps : List PlainSequent) (n : ℕ) → LeadsWithinLimits (IsStepOf o t) s p ps → CauseOf o t s p n → ⊥
  cause_of (Some r) named ps n leads c = table.row_has_no_cause rule_rows rows_are_rules t s p ps n r named leads c
  cause_of None named ps n leads c = no_cause s p ps n leads c

  pub has_no_cause : (ps : List PlainSequent) (n : ℕ) → LeadsWithinLimits (IsRuleStep t) s p ps → RuleCause t s p n → ⊥
  has_no_cause ps n leads c = cause_of (row_named rule_rows p.rule) refl ps n leads c

  one_way_of : (o : Option Taclet) → row_named rule_rows p.rule ≡ o → (ps qs : List PlainSequent) → IsStepOf o t s p ps → IsStepOf o t s p qs → ps ≡ qs
  one_way_of (Some r) named ps qs x y = table.one_way rule_rows rows_are_rules t s p ps qs (record { row = r; named = named; is_step = x }) (record { row = r; named = named; is_step = y })
  one_way_of None named ps qs x y = first.one_way s p ps qs x y

  pub one_way : (ps qs : List PlainSequent) → IsRuleStep t s p ps → IsRuleStep t s p qs → ps ≡ qs
  one_way ps qs x y = one_way_of (row_named rule_rows p.rule) refl ps qs x y

  few_of : (o : Option Taclet) → row_named rule_rows p.rule ≡ o → (ps : List PlainSequent) → IsStepOf o t s p ps → length ps < 2 ^ 32
  few_of (Some r) named ps is = table.few rule_rows rows_are_rules t s p ps (record { row = r; named = named; is_step = is })
  few_of None named ps is = first.few s p ps is

  pub few : (ps : List PlainSequent) → IsRuleStep t s p ps → length ps < 2 ^ 32
  few ps is = few_of (row_named rule_rows p.rule) refl ps is

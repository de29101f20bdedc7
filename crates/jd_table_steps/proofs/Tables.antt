-- Steps by the rows of a table at a sequent that the grammar spells.
use Rattle.std.proofs.Common.{All, Bool, List, None, Option, Some, arith, cond, false, length, subst, suc, sym, true, zero, ◌<◌, ◌≡◌, ◌^◌, ◌∷◌, ℕ, [], ◌∙◌, ap, nat_lt}
use Rattle.std.proofs.lemmas.Bool.{and_parts, ltb-true}
use Rattle.std.proofs.lemmas.List.{length-map}
use Rattle.std.proofs.lemmas.Option.{same_Some}
use Rattle.std.specs.List.{list_all}
use Rattle.std.specs.Str.{bytes_eq}
use Rattle.jd_model.specs.Sequents.{PlainPlace, PlainSequent}
use Rattle.jd_model.specs.Programs.{Program}
use Rattle.jd_pattern_laws.proofs.AllLaws.{matching}
use Rattle.jd_patterns.specs.Instances.{Instance}
use Rattle.jd_schema_matching.specs.Tested.{tests}
use Rattle.jd_sequent.specs.Obligations.{PlainTask, names_of}
use Rattle.jd_sequent.specs.Rules.{LeadsWithinLimits}
use Rattle.jd_sequent.specs.TaskMeaning.{StepIsSound}
use Rattle.jd_sequent.specs.Trees.{PlainStep}
use Rattle.jd_spelled_steps.proofs.Steps.{conditions_hold, steps_have_instances, steps_keep}
use Rattle.jd_spelled_trees.proofs.Places.{formula_at, taken_is_closed, term_at}
use Rattle.jd_spelled_trees.specs.Laws.{PlacesAreSpelled}
use Rattle.jd_spelled_trees.specs.Places.{IsSpelledSequent}
use Rattle.jd_taclet_scripts.proofs.Rows.{steps_are_sound, steps_are_steps}
use Rattle.jd_taclet_scripts.specs.Causes.{OfRow, RowCause, TacletCause}
use Rattle.jd_taclet_scripts.specs.Laws.{AllInShape, IsInShape, TacletStepsAreSound}
use Rattle.jd_taclet_scripts.specs.Steps.{IsStepOfRow, IsTacletStep, premises_of, row_named}
use Rattle.jd_taclet_stages.proofs.Stages.{steps_are_determined}
use Rattle.jd_taclet_stages.specs.Ready.{is_ready}
use Rattle.jd_taclet_steps.proofs.Places.{places}
use Rattle.jd_taclet_steps.proofs.PutTerms.{replaced}
use Rattle.jd_taclet_steps.proofs.Soundness.{steps_sound}
use Rattle.jd_taclet_steps.proofs.TermPlaces.{term_places}
use Rattle.jd_taclets.specs.Taclets.{AllFinds, AreFinds, IsFind, Taclet, TacletGoal, TacletKind}
use Rattle.jd_tforms.proofs.Answering.{answers}
use Rattle.jd_told_programs.proofs.Told.{told_is_that}
use Rattle.jd_told_programs.specs.Told.{told_setting}
use Rattle.jd_table_steps.specs.Tables.{AreSpelledRules}
use Rattle.jd_table_steps.specs.Usable.{IsUsable}
use Rattle.jd_table_steps.specs.Laws.{TableStepsAreRuleSteps}
use Rattle.jd_table_steps.proofs.Causing.{none_holds}

-- ---- the laws below

pub taclet_steps_sound : TacletStepsAreSound
taclet_steps_sound = steps_are_sound (steps_are_steps places term_places replaced answers (λ t p q task. told_is_that t p q task)) steps_sound

pub spelled_places : PlacesAreSpelled
spelled_places = record { formula = formula_at places term_places replaced; term = term_at places term_places replaced }

-- ---- what a row of the table has

-- all rows have it
abbrev HaveAll : (Taclet → Type 0) → List Taclet → Type 0
HaveAll P [] = Unit {0}
HaveAll P (r ∷ rs) = P r × HaveAll P rs

one_of : (P : Taclet → Type 0) (rows : List Taclet) → HaveAll P rows → (name : List ℕ) (r : Taclet) → row_named rows name ≡ Some r → P r
one_of P [] h name r e = absurd (none e)
  where
    none : {A : Type 0} {x : A} → None ≡ Some x → ⊥
    none e = cc
one_of P (x ∷ rows) h name r e = by (bytes_eq x.name name) (one_of P rows h.1 name r) e
  where
    by : (b : Bool) → (row_named rows name ≡ Some r → P r) → cond b (Some x) (row_named rows name) ≡ Some r → P r
    by true more e = subst P (same_Some x r e) h.0
    by false more e = more e

-- what a test tells, and what stands of finds and shapes
record IsUsual (r : Taclet) : Type 0 where
  ready : is_ready r ≡ true
  find : IsFind r.find
  finds : AreFinds r.assumes
  shape : IsInShape r
  few : nat_lt (length r.goals) 100 ≡ true

all_usual : (rows : List Taclet) → list_all is_ready rows ≡ true → AllFinds rows → AllInShape rows → list_all (λ r. nat_lt (length r.goals) 100) rows ≡ true → HaveAll IsUsual rows
all_usual [] ready finds shapes few = tt
all_usual (r ∷ rs) ready finds shapes few =
    let a = and_parts (is_ready r) (list_all is_ready rs) ready in
    let b = and_parts (nat_lt (length r.goals) 100) (list_all (λ q. nat_lt (length q.goals) 100) rs) few in
    (record { ready = a.0; find = finds.0.0; finds = finds.0.1; shape = shapes.0; few = b.0 }, all_usual rs a.1 finds.1 shapes.1 b.1)

few_premises : (p : Program) (σ : Instance) (s : PlainSequent) (k : TacletKind) (place : Option PlainPlace) (goals : List TacletGoal) → length (premises_of p σ s k place goals) ≡ length goals
few_premises p σ s k None goals = length-map goals _
few_premises p σ s k (Some q) goals = length-map goals _

module _ (rows : List Taclet) (are : AreSpelledRules rows) where
  usual : (name : List ℕ) (r : Taclet) → row_named rows name ≡ Some r → IsUsual r
  usual name r named = one_of IsUsual rows (all_usual rows are.rules.ready are.rules.finds are.rules.shapes are.few) name r named

  pub usable : (t : PlainTask) (s : PlainSequent) → IsSpelledSequent (names_of t) s → (step : PlainStep) (r : Taclet) → row_named rows step.rule ≡ Some r → IsUsable r t s step
  usable t s spelled step r named =
      let u = usual step.rule r named in
      record {
        ready = u.ready;
        find = u.find;
        finds = u.finds;
        shape = u.shape;
        met = (conditions_hold spelled_places answers).of_table rows are.met step.rule r named t s spelled step;
        have = λ σ is. (steps_have_instances spelled_places answers).of_table rows are.keep step.rule r named t s spelled step σ is;
      }

  -- ---- the laws of rules

  pub sound : (t : PlainTask) (s : PlainSequent) (p : PlainStep) (ps : List PlainSequent) → IsSpelledSequent (names_of t) s → IsTacletStep rows t s p ps → StepIsSound t s ps
  sound t s p ps spelled is = taclet_steps_sound rows are.rules.means are.rules.shapes t s (taken_is_closed (names_of t) s spelled) p ps is

  pub keeps : (t : PlainTask) (s : PlainSequent) (p : PlainStep) (ps : List PlainSequent) → IsSpelledSequent (names_of t) s → LeadsWithinLimits (IsTacletStep rows t) s p ps → All (IsSpelledSequent (names_of t)) ps
  keeps t s p ps spelled leads = (steps_keep spelled_places answers).of_table rows are.keep t s spelled p ps leads.0 leads.1

  same_row : (name : List ℕ) (q r : Taclet) → row_named rows name ≡ Some q → row_named rows name ≡ Some r → q ≡ r
  same_row name q r e f = same_Some q r (sym e ∙ f)

  pub one_way : (t : PlainTask) (s : PlainSequent) (p : PlainStep) (ps qs : List PlainSequent) → IsTacletStep rows t s p ps → IsTacletStep rows t s p qs → ps ≡ qs
  one_way t s p ps qs x y =
      let u = usual p.rule y.row y.named in
      steps_are_determined matching tests y.row u.ready u.find u.finds t s p ps qs (subst (λ r. IsStepOfRow r t s p ps) (same_row p.rule x.row y.row x.named y.named) x.is_step) y.is_step

  pub row_has_no_cause : (t : PlainTask) (s : PlainSequent) (p : PlainStep) (ps : List PlainSequent) (n : ℕ) (r : Taclet) → row_named rows p.rule ≡ Some r → LeadsWithinLimits (IsStepOfRow r t) s p ps → RowCause r t s p n → ⊥
  row_has_no_cause t s p ps n r named leads c =
      let u = usual p.rule r named in
      none_holds r t s p ps leads.0 (λ qs is. steps_are_determined matching tests r u.ready u.find u.finds t s p qs ps is leads.0) leads.1 n c

  pub has_no_cause : (t : PlainTask) (s : PlainSequent) (p : PlainStep) (ps : List PlainSequent) (n : ℕ) → LeadsWithinLimits (IsTacletStep rows t) s p ps → TacletCause rows t s p n → ⊥
  has_no_cause t s p ps n leads c = by n c
    where
      x : IsTacletStep rows t s p ps
      x = leads.0

      none : {A : Type 0} {y : A} → None ≡ Some y → ⊥
      none e = cc

      of_row : (n : ℕ) → OfRow rows p (λ r. RowCause r t s p n) → ⊥
      of_row n o = row_has_no_cause t s p ps n x.row x.named (x.is_step, leads.1) (subst (λ r. RowCause r t s p n) (same_row p.rule o.row x.row o.named x.named) o.holds)

      by : (n : ℕ) → TacletCause rows t s p n → ⊥
      by zero o = of_row zero o
      by (suc zero) o = none (sym o ∙ x.named)
      by (suc (suc n)) o = of_row (suc (suc n)) o

  pub few : (t : PlainTask) (s : PlainSequent) (p : PlainStep) (ps : List PlainSequent) → IsTacletStep rows t s p ps → length ps < 2 ^ 32
  few t s p ps x =
      let u = usual p.rule x.row x.named in
      let same : length ps ≡ length x.row.goals = ap length x.is_step.premises_are ∙ few_premises (told_setting t).program x.is_step.instance s x.row.kind p.place x.row.goals in
      let lt : length x.row.goals < 100 = ltb-true (length x.row.goals) 100 u.few in
      omega (arith, same, lt)

pub are_rule_steps : TableStepsAreRuleSteps
are_rule_steps rows are = record {
  usable = usable rows are;
  sound = sound rows are;
  keeps = keeps rows are;
  has_no_cause = has_no_cause rows are;
  one_way = one_way rows are;
  few = few rows are;
}

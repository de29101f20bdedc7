-- The stages together decide.
use Rattle.std.proofs.Common.{Decides, List, Option, eqb-true, false, length, nat_eq, subst, sym, true, true≢false, ◌++◌, ◌≡◌, ◌∙◌, ℕ}
use Rattle.std.proofs.lemmas.Bool.{and_parts, eqb-false}
use Rattle.std.proofs.lemmas.Option.{IfSome_then}
use Rattle.std.specs.List.{list_all}
use Rattle.std.specs.Option.{IfSome, option_and_then}
use Rattle.jd_model.specs.Programs.{Program}
use Rattle.jd_model.specs.Sequents.{PlainSequent}
use Rattle.jd_pattern_laws.proofs.Binding.{both_bound, still_bound}
use Rattle.jd_pattern_laws.proofs.Chosen.{chosen_agrees}
use Rattle.jd_pattern_laws.proofs.Filling.{AllSame, all_same, halves}
use Rattle.jd_pattern_laws.specs.Laws.{Binds, MatchingIsExact}
use Rattle.jd_patterns.specs.Bindings.{Agrees, Bindings, Exactly, Tests, Within}
use Rattle.jd_patterns.specs.Chosen.{AllBound, chosen}
use Rattle.jd_patterns.specs.Instances.{Instance}
use Rattle.jd_patterns.specs.Variables.{Variable}
use Rattle.jd_sequent.specs.Obligations.{PlainTask, names_of}
use Rattle.jd_sequent.specs.Trees.{PlainStep}
use Rattle.jd_sequent.specs.declared.bad.Bad.TheVariants.{BadInst, MissingInst, NoAssume, NotFresh, SideCondition}
use Rattle.jd_taclet_scripts.specs.Causes.{IsAdmittedBy, IsAssumedBy, IsFoundBy, IsGivenBy, IsNewBy, RowCause}
use Rattle.jd_taclet_scripts.specs.Given.{AreNewConstants, AreNewVariables, EachIsGiven}
use Rattle.jd_taclet_scripts.specs.Places.{AreAssumedAt}
use Rattle.jd_taclet_scripts.specs.Steps.{IsStepOfRow}
use Rattle.jd_taclet_stages.proofs.Assuming.{assumed_binds, assumed_law, assumed_once}
use Rattle.jd_taclet_stages.proofs.Binding.{told_binds, told_law, told_once}
use Rattle.jd_taclet_stages.proofs.Finding.{Found, found_leads}
use Rattle.jd_taclet_stages.proofs.Giving.{each_given, given_alike, given_are, given_there, missing_of, none_missing}
use Rattle.jd_taclet_stages.proofs.Known.{known_bound}
use Rattle.jd_taclet_stages.proofs.Leading.{Leads, NoneBelow, Reached, alike_leads, go_on, goes, one_more, where_so}
use Rattle.jd_taclet_stages.proofs.NewNames.{names_decide, new_alike}
use Rattle.jd_taclet_stages.proofs.Premises.{premises_alike}
use Rattle.jd_taclet_stages.proofs.Telling.{conditions_hold, conditions_tell}
use Rattle.jd_taclet_stages.proofs.TellingAlike.{conditions_alike, conditions_fix}
use Rattle.jd_taclet_stages.specs.Conditions.{conditions_told}
use Rattle.jd_taclet_stages.specs.Laws.{AreMet, Decides as DecidesStep, StagesDecide, StepsAreOneWay}
use Rattle.jd_taclet_stages.specs.Ready.{all_asked_variables, all_fixed, all_looked_at, are_among, assumed_variables, can_be_told, fits_kind, given_variables, goals_variables, is_ready, known_when_told, maybe_variables}
use Rattle.jd_taclet_stages.specs.Stages.{Goes, Outcome, Refuses, all_named, all_new, and_then, assumed_stage, bind_all, condition_stage, found_stage, given_for, given_stage, going, match_assumed, new_stage, provided, stages}
use Rattle.jd_taclets.specs.Taclets.{AreFinds, FitAssumed, IsFind, Taclet, new_constants, new_variables}
use Rattle.jd_told_programs.specs.Told.{told_setting}

-- ---- rows that are ready

record Ready (r : Taclet) : Type 0 where
  fit : fits_kind r.kind r.find ≡ true
  asked : are_among (all_asked_variables r.insts) (maybe_variables r.find) ≡ true
  told : list_all can_be_told r.conds ≡ true
  looked : are_among (all_looked_at r.conds) (known_when_told r) ≡ true
  goals : are_among (goals_variables r.goals) (known_when_told r ++ all_fixed r.conds) ≡ true

ready_parts : (r : Taclet) → is_ready r ≡ true → Ready r
ready_parts r e =
    let a = and_parts (fits_kind r.kind r.find) _ e in
    let b = and_parts (are_among (all_asked_variables r.insts) (maybe_variables r.find)) _ a.1 in
    let c = and_parts (list_all can_be_told r.conds) _ b.1 in
    let d = and_parts (are_among (all_looked_at r.conds) (known_when_told r)) _ c.1 in
    record { fit = a.0; asked = b.0; told = c.0; looked = d.0; goals = d.1 }

-- ---- stage by stage

module _ (matching : MatchingIsExact) (w : Tests) (r : Taclet) (ready : Ready r) (find : IsFind r.find) (finds : AreFinds r.assumes) (t : PlainTask) (s : PlainSequent) (step : PlainStep) where
  abbrev program : Program
  program = (told_setting t).program

  abbrev cause : ℕ → Type 0
  cause = RowCause r t s step

  abbrev FoundBy : Instance → Type 0
  FoundBy σ = IsFoundBy r t s step σ

  abbrev GivenBy : Instance → Type 0
  GivenBy σ = IsGivenBy r t s step σ

  abbrev AssumedBy : Instance → Type 0
  AssumedBy σ = IsAssumedBy r t s step σ

  abbrev NewBy : Instance → Type 0
  NewBy σ = IsNewBy r t s step σ

  abbrev AdmittedBy : Instance → Type 0
  AdmittedBy σ = IsAdmittedBy r t s step σ

  -- what conditions tell holds; of those that hold of each sequent nothing is told
  abbrev ToldBy : Instance → Type 0
  ToldBy σ = IsNewBy r t s step σ × Within σ (conditions_told w t σ r.conds)

  abbrev when_found : List Variable
  when_found = maybe_variables r.find

  abbrev when_given : List Variable
  when_given = when_found ++ given_variables r.insts

  abbrev when_told : List Variable
  when_told = known_when_told r ++ all_fixed r.conds

  -- what was bound stays so, and more is
  more_bound : (vs us : List Variable) (τ : Bindings) (o : Option Bindings) → AllBound vs τ → IfSome o (Binds us τ) → IfSome o (AllBound (vs ++ us))
  more_bound vs us τ o h k = IfSome_then o k (λ υ b. both_bound vs us υ (still_bound vs τ υ b.1 h) b.0)

  -- ---- what is found

  found : Leads w cause AdmittedBy FoundBy when_found 6 (found_stage w r s step.place)
  found = alike_leads w cause AdmittedBy (Found matching w program s r cause AdmittedBy step.place) FoundBy when_found 6 (found_stage w r s step.place)
      (λ σ f. record { found = f.0; may_stand = f.1; fits = f.2 })
      (λ σ f. (f.found, f.may_stand, f.fits))
      (found_leads matching w program s r cause AdmittedBy ready.fit find step.place (record {
        unknown = λ h. h;
        no_formula = (λ h. h, λ h. h);
        no_place = (λ h. h, λ h. h);
        wrong_kind = (λ h. h, λ h. h);
        no_match = (λ h σ f. h σ (record { found = f.0; may_stand = f.1; fits = f.2 }), λ h σ f. h σ (f.found, f.may_stand, f.fits));
        admitted = λ σ a. let f = a.new.assumed.given.found in (f.found, f.may_stand, f.fits);
      }))

  -- ---- what is given

  module _ (τ : Bindings) (h : Reached w cause FoundBy when_found 6 τ) where
    abbrev what_is_given : Option Bindings
    what_is_given = given_for (names_of t) program (chosen w τ) r.insts step.insts

    given_same : (σ : Instance) → Agrees σ τ → given_for (names_of t) program σ r.insts step.insts ≡ what_is_given
    given_same σ a = given_alike (names_of t) program σ (chosen w τ) r.insts step.insts
        (all_same σ (chosen w τ) (all_asked_variables r.insts) τ (known_bound (all_asked_variables r.insts) when_found τ ready.asked h.bound) a (chosen_agrees w τ h.once))

    given_law : (σ : Instance) → Exactly σ τ (EachIsGiven t program σ r.insts step.insts) (option_and_then (λ l. bind_all w l τ) what_is_given)
    given_law σ = told_law w σ τ (EachIsGiven t program σ r.insts step.insts) what_is_given
        (λ a each. subst (Within σ) (given_same σ a) ((each_given t program σ r.insts step.insts).0 each))
        (λ a so. (each_given t program σ r.insts step.insts).1 (subst (Within σ) (sym (given_same σ a)) so))

    read : NoneBelow cause 7 → length step.insts ≡ length r.insts → Leads w cause AdmittedBy GivenBy when_given 8 (going BadInst (option_and_then (λ l. bind_all w l τ) what_is_given))
    read below count = goes w cause AdmittedBy GivenBy when_given 8 BadInst (option_and_then (λ l. bind_all w l τ) what_is_given)
        (λ σ. (λ y. (given_law σ).0 (h.agrees σ y.found, y.given.each), λ y. let z = (given_law σ).1 y in record { found = h.has σ z.0; given = record { each = z.1; count = count } }))
        (told_once w τ what_is_given h.once)
        (more_bound when_found (given_variables r.insts) τ (option_and_then (λ l. bind_all w l τ) what_is_given) h.bound (told_binds w τ (given_variables r.insts) what_is_given (given_are (names_of t) program (chosen w τ) r.insts step.insts)))
        (λ n. (n, below))
        (λ σ y. one_more cause 7 below (λ n. n σ y))
        (λ σ a. a.new.assumed.given)

    counted : NoneBelow cause 7 → Leads w cause AdmittedBy GivenBy when_given 8 (provided BadInst (nat_eq (length step.insts) (length r.insts)) (going BadInst (option_and_then (λ l. bind_all w l τ) what_is_given)))
    counted below = where_so w cause AdmittedBy GivenBy when_given 8 BadInst (nat_eq (length step.insts) (length r.insts)) (going BadInst (option_and_then (λ l. bind_all w l τ) what_is_given))
        (λ e. ((λ σ y. eqb-false (length step.insts) (length r.insts) e y.given.count, below), λ σ a. eqb-false (length step.insts) (length r.insts) e a.new.assumed.given.given.count))
        (λ e. read below (eqb-true (length step.insts) (length r.insts) e))

    given : Leads w cause AdmittedBy GivenBy when_given 8 (given_stage w t r.insts step.insts τ)
    given = where_so w cause AdmittedBy GivenBy when_given 8 MissingInst (all_named r.insts step.insts) (provided BadInst (nat_eq (length step.insts) (length r.insts)) (going BadInst (option_and_then (λ l. bind_all w l τ) what_is_given)))
        (λ e. ((missing_of r.insts step.insts e, h.none_below), λ σ a. given_there t program σ r.insts step.insts a.new.assumed.given.given.each (missing_of r.insts step.insts e)))
        (λ e. counted (one_more cause 6 h.none_below (none_missing r.insts step.insts e)))

  -- ---- what is assumed

  module _ (τ : Bindings) (h : Reached w cause GivenBy when_given 8 τ) where
    abbrev what_is_assumed : Option Bindings
    what_is_assumed = match_assumed w s step.place r.assumes step.assumes τ

    law_of_assumed : (σ : Instance) → Exactly σ τ (AreAssumedAt program σ s step.place r.assumes step.assumes × FitAssumed program σ r.assumes) what_is_assumed
    law_of_assumed σ = assumed_law matching w program s step.place σ r.assumes step.assumes τ finds

    assumed : Leads w cause AdmittedBy AssumedBy (known_when_told r) 9 (going NoAssume what_is_assumed)
    assumed = goes w cause AdmittedBy AssumedBy (known_when_told r) 9 NoAssume what_is_assumed
        (λ σ. (λ y. (law_of_assumed σ).0 (h.agrees σ y.given, (y.assumed, y.fit)), λ y. let z = (law_of_assumed σ).1 y in record { given = h.has σ z.0; assumed = z.1.0; fit = z.1.1 }))
        (assumed_once w s step.place r.assumes step.assumes τ h.once)
        (more_bound when_given (assumed_variables r.assumes) τ what_is_assumed h.bound (assumed_binds w s step.place r.assumes step.assumes τ))
        (λ n. (n, h.none_below))
        (λ σ y. one_more cause 8 h.none_below (λ n. n σ y))
        (λ σ a. a.new.assumed)

  -- ---- conditions

  module _ (τ : Bindings) (h : Reached w cause NewBy (known_when_told r) 10 τ) where
    abbrev what_is_told : Option Bindings
    what_is_told = conditions_told w t (chosen w τ) r.conds

    told_same : (σ : Instance) → Agrees σ τ → conditions_told w t σ r.conds ≡ what_is_told
    told_same σ a = conditions_alike σ (chosen w τ) w t r.conds
        (all_same σ (chosen w τ) (all_looked_at r.conds) τ (known_bound (all_looked_at r.conds) (known_when_told r) τ ready.looked h.bound) a (chosen_agrees w τ h.once))

    law_of_told : (σ : Instance) → Exactly σ τ (Within σ (conditions_told w t σ r.conds)) (option_and_then (λ l. bind_all w l τ) what_is_told)
    law_of_told σ = told_law w σ τ (Within σ (conditions_told w t σ r.conds)) what_is_told (λ a so. subst (Within σ) (told_same σ a) so) (λ a so. subst (Within σ) (sym (told_same σ a)) so)

    conditioned : Leads w cause AdmittedBy ToldBy when_told 10 (condition_stage w t r τ)
    conditioned = goes w cause AdmittedBy ToldBy when_told 10 SideCondition (option_and_then (λ l. bind_all w l τ) what_is_told)
        (λ σ. (λ y. (law_of_told σ).0 (h.agrees σ y.0, y.1), λ y. let z = (law_of_told σ).1 y in (h.has σ z.0, z.1)))
        (told_once w τ what_is_told h.once)
        (more_bound (known_when_told r) (all_fixed r.conds) τ (option_and_then (λ l. bind_all w l τ) what_is_told) h.bound (told_binds w τ (all_fixed r.conds) what_is_told (conditions_fix w t (chosen w τ) r.conds)))
        (λ n. (λ σ a. n σ (a.new, conditions_tell w t σ r.conds ready.told a.conds), h.none_below))
        (λ σ y. h.none_below)
        (λ σ a. (a.new, conditions_tell w t σ r.conds ready.told a.conds))

  -- ---- new names

  module _ (τ : Bindings) (h : Reached w cause AssumedBy (known_when_told r) 9 τ) where
    given_alike_there : (σ : Instance) → Agrees σ τ → AllSame σ (chosen w τ) (given_variables r.insts)
    given_alike_there σ a =
        let all = all_same σ (chosen w τ) (known_when_told r) τ h.bound a (chosen_agrees w τ h.once) in
        (halves σ (chosen w τ) when_found (given_variables r.insts) (halves σ (chosen w τ) when_given (assumed_variables r.assumes) all).0).1

    names : (σ : Instance) → Agrees σ τ → Decides (all_new t s (chosen w τ) r.insts) (AreNewConstants t s (new_constants program σ r.insts) × AreNewVariables t s (new_variables program σ r.insts))
    names σ a = subst (λ b. Decides b (AreNewConstants t s (new_constants program σ r.insts) × AreNewVariables t s (new_variables program σ r.insts))) (new_alike t s σ (chosen w τ) r.insts (given_alike_there σ a)) (names_decide t s program σ r.insts)

    not_new : all_new t s (chosen w τ) r.insts ≡ false → (σ : Instance) → NewBy σ → ⊥
    not_new e σ y = true≢false (sym ((names σ (h.agrees σ y.assumed)).1 (y.constants, y.variables)) ∙ e)

    are_new : all_new t s (chosen w τ) r.insts ≡ true → (σ : Instance) → Agrees σ τ → NewBy σ
    are_new e σ a = let y = (names σ a).0 e in record { assumed = h.has σ a; constants = y.0; variables = y.1 }

    reached : all_new t s (chosen w τ) r.insts ≡ true → Reached w cause NewBy (known_when_told r) 10 τ
    reached e = record {
      none_below = one_more cause 9 h.none_below (λ n. n (chosen w τ) (are_new e (chosen w τ) (chosen_agrees w τ h.once)));
      once = h.once;
      bound = h.bound;
      has = are_new e;
      agrees = λ σ y. h.agrees σ y.assumed;
    }

    new : Leads w cause AdmittedBy ToldBy when_told 10 (new_stage w t s r τ)
    new = where_so w cause AdmittedBy ToldBy when_told 10 NotFresh (all_new t s (chosen w τ) r.insts) (condition_stage w t r τ)
        (λ e. ((not_new e, h.none_below), λ σ a. not_new e σ a.new))
        (λ e. conditioned τ (reached e))

  -- ---- all of them

  assumed_on : (τ : Bindings) → Reached w cause GivenBy when_given 8 τ → Leads w cause AdmittedBy ToldBy when_told 10 (assumed_stage w t s r step τ)
  assumed_on τ h = go_on w cause AdmittedBy AssumedBy ToldBy (known_when_told r) when_told 9 10 (going NoAssume (match_assumed w s step.place r.assumes step.assumes τ)) (new_stage w t s r) (assumed τ h) new

  given_on : (τ : Bindings) → Reached w cause FoundBy when_found 6 τ → Leads w cause AdmittedBy ToldBy when_told 10 (and_then (given_stage w t r.insts step.insts τ) (assumed_stage w t s r step))
  given_on τ h = go_on w cause AdmittedBy GivenBy ToldBy when_given when_told 8 10 (given_stage w t r.insts step.insts τ) (assumed_stage w t s r step) (given τ h) assumed_on

  all_stages : Leads w cause AdmittedBy ToldBy when_told 10 (stages w r t s step)
  all_stages = go_on w cause AdmittedBy FoundBy ToldBy when_found when_told 6 10 (found_stage w r s step.place) (λ τ. and_then (given_stage w t r.insts step.insts τ) (assumed_stage w t s r step)) found given_on

  decided : AreMet r t s step → (o : Outcome) → Leads w cause AdmittedBy ToldBy when_told 10 o → DecidesStep w r t s step o
  decided met (Refuses b) h = h.0
  decided met (Goes τ) h = record {
    once = h.once;
    admitted = λ σ a. let y = h.has σ a in record { new = y.0; conds = conditions_hold w t σ r.conds ready.told (met σ y.0.assumed.given.found) y.1 };
    agrees = λ σ a. h.agrees σ (a.new, conditions_tell w t σ r.conds ready.told a.conds);
    one = λ σ a. premises_alike program σ (chosen w τ) s r.kind step.place r.goals (all_same σ (chosen w τ) (goals_variables r.goals) τ (known_bound (goals_variables r.goals) when_told τ ready.goals h.bound) a (chosen_agrees w τ h.once));
  }

  -- ---- steps

  admitted_by : (ps : List PlainSequent) (x : IsStepOfRow r t s step ps) → AdmittedBy x.instance
  admitted_by ps x = record {
    new = record {
      assumed = record {
        given = record { found = record { found = x.found; may_stand = x.may_stand; fits = x.find_fits }; given = x.given };
        assumed = x.assumed;
        fit = x.assumed_fit;
      };
      constants = x.constants_new;
      variables = x.variables_new;
    };
    conds = x.conds;
  }

  told_by : (ps : List PlainSequent) (x : IsStepOfRow r t s step ps) → ToldBy x.instance
  told_by ps x = ((admitted_by ps x).new, conditions_tell w t x.instance r.conds ready.told x.conds)

  one_way : (o : Outcome) → Leads w cause AdmittedBy ToldBy when_told 10 o → (ps qs : List PlainSequent) → IsStepOfRow r t s step ps → IsStepOfRow r t s step qs → ps ≡ qs
  one_way (Refuses b) h ps qs x y = absurd (h.1 x.instance (admitted_by ps x))
  one_way (Goes τ) h ps qs x y =
      x.premises_are
      ∙ (premises_alike program x.instance y.instance s r.kind step.place r.goals (all_same x.instance y.instance (goals_variables r.goals) τ (known_bound (goals_variables r.goals) when_told τ ready.goals h.bound) (h.agrees x.instance (told_by ps x)) (h.agrees y.instance (told_by qs y)))
      ∙ sym y.premises_are)

pub stages_are_decided : MatchingIsExact → StagesDecide
stages_are_decided matching w r ready find finds t s step met = let all = ready_parts r ready in decided matching w r all find finds t s step met (stages w r t s step) (all_stages matching w r all find finds t s step)

pub steps_are_determined : MatchingIsExact → Tests → StepsAreOneWay
steps_are_determined matching w r ready find finds t s step ps qs x y = let all = ready_parts r ready in one_way matching w r all find finds t s step (stages w r t s step) (all_stages matching w r all find finds t s step) ps qs x y

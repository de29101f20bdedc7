-- An instance whose premises are within the limits has no cause.
use Rattle.std.proofs.Common.{◌≡◌, ℕ, zero, suc, List, [], Option, Some, None, All, refl, sym, ap, ◌∙◌, subst}
use Rattle.std.specs.Prelude.{option_and_then}
use Rattle.jd_term.specs.Formulas.{PlainFormula, TrueFormula, Not, And, Implies}
use Rattle.jd_model.specs.declared.sequent.Side.{Side}
use Rattle.jd_model.specs.declared.sequent.Side.TheVariants.{Left, Right}
use Rattle.jd_model.specs.Sequents.{PlainSequent, PlainPlace}
use Rattle.jd_model.specs.Places.{Part, FormulaPart, on_side, numbered, part_at, at_place}
use Rattle.jd_sequent.specs.Trees.{PlainStep}
use Rattle.jd_sequent.specs.Limits.{IsWithinLimits}
use Rattle.jd_sequent.specs.Rules.{LeadsWithinLimits}
use Rattle.jd_first_steps.specs.declared.rules.FirstRule.{FirstRule}
use Rattle.jd_first_steps.specs.declared.rules.FirstRule.TheVariants.{Close, CloseTrue, NotLeft, AndLeft, AndRight, ImpRight, EqRefl, SetSimple, FrameReturn, CatchEmpty, EmptyCode, Simplify}
use Rattle.jd_first_steps.specs.Names.{rule_name}
use Rattle.jd_first_steps.specs.Rows.{Goal, row_goals}
use Rattle.jd_first_steps.specs.Rewrites.{Rewrites}
use Rattle.jd_first_steps.specs.Instances.{IsInstance}
use Rattle.jd_first_rules.specs.declared.rules.Kind.{Kind}
use Rattle.jd_first_rules.specs.declared.rules.Kind.TheVariants.{Closing, Whole, Anywhere}
use Rattle.jd_first_rules.specs.Steps.{kind_of}
use Rattle.jd_first_rules.specs.StepKinds.{IsOfKind, of_kind}
use Rattle.jd_first_rules.specs.Causes.{OfRule, OfPlace, HasNoFormula, HasNoPlace, whole_side, IsOn, IsOfWrongKind, IsNotTaken, IsNotMatched, AssumesWrongly, IsTooLarge, Cause}
use Rattle.jd_first_rules.specs.Results.{IsAt, AssumesRightly}
use Rattle.jd_first_rules.specs.Places.{no_some, some_same}
use Rattle.jd_first_rules.specs.Laws.{same_rule, one_way}

-- ---- what is said of the rule and of the place

of_rule : (rule : FirstRule) (p : PlainStep) (C : FirstRule → Type 0) → p.rule ≡ rule_name rule → OfRule p C → C rule
of_rule rule p C named h = subst C (same_rule p h.rule rule h.named named) h.holds

of_place : (s : PlainSequent) (p : PlainStep) (place : PlainPlace) (part : Part) (C : PlainPlace → Part → Type 0) → p.place ≡ Some place → at_place s place ≡ Some part → OfPlace s p C → C place part
of_place s p place part C placed found h =
    let same : h.place ≡ place = some_same (sym h.placed ∙ placed) in
    let there : h.part ≡ part = some_same (sym h.found ∙ ap (at_place s) same ∙ found) in
    subst (C place) there (subst (λ q. C q h.part) same h.holds)

-- ---- a cause does not hold where what it asks for is found

pub formula_there : (s : PlainSequent) (p : PlainStep) (place : PlainPlace) (part : Part) → p.place ≡ Some place → at_place s place ≡ Some part → HasNoFormula s p.place → ⊥
formula_there s p place part placed found c =
    no_some (sym (ap (option_and_then (λ a. part_at place.path (FormulaPart a))) (subst (HasNoFormula s) placed c)) ∙ found)

pub place_there : (s : PlainSequent) (p : PlainStep) (place : PlainPlace) (part : Part) → p.place ≡ Some place → at_place s place ≡ Some part → HasNoPlace s p.place → ⊥
place_there s p place part placed found c = no_some (sym (subst (HasNoPlace s) placed c) ∙ found)

pub right_kind : (rule : FirstRule) (s : PlainSequent) (p : PlainStep) (place : PlainPlace) (a : PlainFormula) → p.rule ≡ rule_name rule → IsAt rule s p place a → OfRule p (λ r. OfPlace s p (IsOfWrongKind r)) → ⊥
right_kind rule s p place a named is c =
    of_place s p place (FormulaPart a) (IsOfWrongKind rule) is.placed is.found (of_rule rule p (λ r. OfPlace s p (IsOfWrongKind r)) named c) (is.on, tt)

pub matched : (rule : FirstRule) (s : PlainSequent) (p : PlainStep) (place : PlainPlace) (a : PlainFormula) → p.rule ≡ rule_name rule → IsAt rule s p place a → (IsNotTaken (kind_of rule) rule place.side a → ⊥) → OfRule p (λ r. OfPlace s p (IsNotMatched r)) → ⊥
matched rule s p place a named is taken c =
    taken (of_place s p place (FormulaPart a) (IsNotMatched rule) is.placed is.found (of_rule rule p (λ r. OfPlace s p (IsNotMatched r)) named c))

not_wrongly : (rule : FirstRule) (s : PlainSequent) (p : PlainStep) (place : PlainPlace) (a : PlainFormula) → IsAt rule s p place a → AssumesRightly rule s p.assumes a → AssumesWrongly rule s p → ⊥
not_wrongly Close s p place a is right wrong = of_place s p place (FormulaPart a) (λ q part. part ≡ FormulaPart a → ⊥) is.placed is.found (wrong a right) refl
not_wrongly rule s p place a is right wrong = wrong right

pub assumed : (rule : FirstRule) (s : PlainSequent) (p : PlainStep) (place : PlainPlace) (a : PlainFormula) → p.rule ≡ rule_name rule → IsAt rule s p place a → AssumesRightly rule s p.assumes a → OfRule p (λ r. AssumesWrongly r s p) → ⊥
assumed rule s p place a named is right c = not_wrongly rule s p place a is right (of_rule rule p (λ r. AssumesWrongly r s p) named c)

-- ---- what an instance has

pub row_side : (rule : FirstRule) (side : Side) (a : PlainFormula) (goals : List Goal) → row_goals rule side a ≡ Some goals → whole_side rule ≡ Some side
row_side CloseTrue Right TrueFormula goals e = refl
row_side NotLeft Left (Not a) goals e = refl
row_side AndLeft Left (And a b) goals e = refl
row_side AndRight Right (And a b) goals e = refl
row_side ImpRight Right (Implies a b) goals e = refl
row_side rule side a goals e = absurd (no_some e)

any_side : (rule : FirstRule) (a b : PlainFormula) → Rewrites rule a b → whole_side rule ≡ None
any_side EqRefl a b r = refl
any_side SetSimple a b r = refl
any_side FrameReturn a b r = refl
any_side CatchEmpty a b r = refl
any_side EmptyCode a b r = refl
any_side Simplify a b r = refl
any_side rule a b r = absurd r

pub row_not_close : (rule : FirstRule) (side : Side) (a : PlainFormula) (goals : List Goal) → row_goals rule side a ≡ Some goals → rule ≡ Close → ⊥
row_not_close rule side a goals row e = no_some (ap (λ r. row_goals r side a) (sym e) ∙ row)

pub rewrite_not_close : (rule : FirstRule) (a b : PlainFormula) → Rewrites rule a b → rule ≡ Close → ⊥
rewrite_not_close rule a b r e = subst (λ q. Rewrites q a b) e r

nothing_rightly : (rule : FirstRule) (s : PlainSequent) (l : List (Option PlainPlace)) (a : PlainFormula) → (rule ≡ Close → ⊥) → l ≡ [] → AssumesRightly rule s l a
nothing_rightly Close s l a other e = absurd (other refl)
nothing_rightly rule s l a other e = e

-- what the causes ask for is found
record IsFound (rule : FirstRule) (s : PlainSequent) (p : PlainStep) : Type 0 where
  place : PlainPlace
  formula : PlainFormula
  at : IsAt rule s p place formula
  taken : IsNotTaken (kind_of rule) rule place.side formula → ⊥
  assumed : AssumesRightly rule s p.assumes formula

whole_there : (s : PlainSequent) (place : PlainPlace) (a : PlainFormula) → place.path ≡ [] → numbered (on_side s place.side) place.index ≡ Some a → at_place s place ≡ Some (FormulaPart a)
whole_there s place a whole e =
    ap (option_and_then (λ b. part_at place.path (FormulaPart b))) e ∙ ap (λ path. part_at path (FormulaPart a)) whole

found_of : (k : Kind) (rule : FirstRule) (s : PlainSequent) (p : PlainStep) (ps : List PlainSequent) → kind_of rule ≡ k → IsOfKind k rule s p ps → IsFound rule s p
found_of Closing rule s p ps kind h =
    subst (λ r. IsFound r s p) (sym h.is) (record {
      place = record { side = Right; index = h.index; path = [] };
      formula = h.formula;
      at = record { placed = h.place; found = whole_there s (record { side = Right; index = h.index; path = [] }) h.formula refl h.on_right; on = (refl, refl) };
      taken = λ c. c;
      assumed = record { index = h.assumed; only = h.assumes; found = h.on_left };
    })
found_of Whole rule s p ps kind h = record {
  place = h.place;
  formula = h.formula;
  at = record {
    placed = h.placed;
    found = whole_there s h.place h.formula h.whole h.found;
    on = subst (λ w. IsOn w h.place) (sym (row_side rule h.place.side h.formula h.goals h.row)) (refl, h.whole);
  };
  taken = λ c. (let none : row_goals rule h.place.side h.formula ≡ None = subst (λ k. IsNotTaken k rule h.place.side h.formula) kind c in no_some (sym none ∙ h.row));
  assumed = nothing_rightly rule s p.assumes h.formula (row_not_close rule h.place.side h.formula h.goals h.row) h.assumes;
}
found_of Anywhere rule s p ps kind h = record {
  place = h.place;
  formula = h.before;
  at = record {
    placed = h.placed;
    found = h.found;
    on = subst (λ w. IsOn w h.place) (sym (any_side rule h.before h.after h.rewrites)) tt;
  };
  taken = λ c. (subst (λ k. IsNotTaken k rule h.place.side h.before) kind c) h.after h.rewrites;
  assumed = nothing_rightly rule s p.assumes h.before (rewrite_not_close rule h.before h.after h.rewrites) h.assumes;
}

-- ---- so an instance has no cause but that a premise passes a limit

pub instance_refutes : (s : PlainSequent) (p : PlainStep) (ps : List PlainSequent) → IsInstance s p ps → (n : ℕ) → (IsTooLarge s p → n ≡ 13 → ⊥) → Cause s p n → ⊥
instance_refutes s p ps is = by
  where
    found : IsFound is.rule s p
    found = found_of (kind_of is.rule) is.rule s p ps refl (of_kind is.rule s p ps is.step)

    by : (k : ℕ) → (IsTooLarge s p → k ≡ 13 → ⊥) → Cause s p k → ⊥
    by (suc zero) large h = h is.rule is.named
    by (suc (suc zero)) large h = formula_there s p found.place (FormulaPart found.formula) found.at.placed found.at.found h
    by (suc (suc (suc zero))) large h = place_there s p found.place (FormulaPart found.formula) found.at.placed found.at.found h
    by (suc (suc (suc (suc zero)))) large h = right_kind is.rule s p found.place found.formula is.named found.at h
    by (suc (suc (suc (suc (suc zero))))) large h = matched is.rule s p found.place found.formula is.named found.at found.taken h
    by (suc (suc (suc (suc (suc (suc (suc zero))))))) large h = h is.insts
    by (suc (suc (suc (suc (suc (suc (suc (suc zero)))))))) large h = assumed is.rule s p found.place found.formula is.named found.at found.assumed h
    by (suc (suc (suc (suc (suc (suc (suc (suc (suc (suc (suc (suc (suc zero))))))))))))) large h = large h refl
    by k large h = absurd h

pub no_cause : (s : PlainSequent) (p : PlainStep) (ps : List PlainSequent) (n : ℕ) → LeadsWithinLimits IsInstance s p ps → Cause s p n → ⊥
no_cause s p ps n l = instance_refutes s p ps l.0 n (λ t e. t.passes (subst (All IsWithinLimits) (one_way s p ps t.premises l.0 t.is) l.1))

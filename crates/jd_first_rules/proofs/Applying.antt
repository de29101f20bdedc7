-- From what a step's stages find to the set's instances.
use Rattle.std.proofs.Common.{◌≡◌, List, [], ◌∷◌, length, map, Option, Some, None, refl, sym, ap, ◌∙◌, subst, arith}
use Rattle.std.specs.Prelude.{option_and_then}
use Rattle.jd_term.specs.Formulas.{PlainFormula, formula_view}
use Rattle.jd_model.specs.declared.sequent.Side.{Side}
use Rattle.jd_model.specs.declared.sequent.Side.TheVariants.{Right}
use Rattle.jd_model.specs.Sequents.{PlainSequent, PlainPlace}
use Rattle.jd_model.specs.Places.{FormulaPart, on_side, numbered, part_at, at_place}
use Rattle.jd_sequent.specs.Trees.{PlainStep}
use Rattle.jd_first_steps.specs.declared.rules.FirstRule.{FirstRule}
use Rattle.jd_first_steps.specs.declared.rules.FirstRule.TheVariants.{Close, CloseTrue, NotLeft, AndLeft, AndRight, ImpRight, EqRefl, SetSimple, FrameReturn, CatchEmpty, EmptyCode, Simplify}
use Rattle.jd_first_steps.specs.Names.{rule_name}
use Rattle.jd_first_steps.specs.Rows.{goal_premise}
use Rattle.jd_first_steps.specs.Instances.{IsInstance}
use Rattle.jd_first_rules.specs.declared.rules.Kind.{Kind}
use Rattle.jd_first_rules.specs.declared.rules.Kind.TheVariants.{Closing, Whole, Anywhere}
use Rattle.jd_first_rules.specs.declared.made.Made.{Made}
use Rattle.jd_first_rules.specs.declared.made.Made.TheVariants.{Goals, Instead}
use Rattle.jd_first_rules.specs.Goals.{goal_view}
use Rattle.jd_first_rules.specs.Steps.{kind_of}
use Rattle.jd_first_rules.specs.StepKinds.{IsOfKind, to_step}
use Rattle.jd_first_rules.specs.Causes.{whole_side, IsOn, IsNotTaken}
use Rattle.jd_first_rules.specs.Results.{IsAt, IsMade, made_premises, AssumesRightly, IsTaken}
use Rattle.jd_first_rules.specs.Places.{no_some, formula_same, some_same}
use Rattle.jd_first_rules.specs.NoCause.{row_side, row_not_close, rewrite_not_close}

closing_is : (rule : FirstRule) → kind_of rule ≡ Closing → rule ≡ Close
closing_is Close e = refl
closing_is CloseTrue e = cc
closing_is NotLeft e = cc
closing_is AndLeft e = cc
closing_is AndRight e = cc
closing_is ImpRight e = cc
closing_is EqRefl e = cc
closing_is SetSimple e = cc
closing_is FrameReturn e = cc
closing_is CatchEmpty e = cc
closing_is EmptyCode e = cc
closing_is Simplify e = cc

rightly_nothing : (rule : FirstRule) (s : PlainSequent) (l : List (Option PlainPlace)) (a : PlainFormula) → (rule ≡ Close → ⊥) → AssumesRightly rule s l a → l ≡ []
rightly_nothing Close s l a other e = absurd (other refl)
rightly_nothing rule s l a other e = e

-- at a path of no numbers the whole formula stands
whole_found : (s : PlainSequent) (place : PlainPlace) (a : PlainFormula) → place.path ≡ [] → at_place s place ≡ Some (FormulaPart a) → numbered (on_side s place.side) place.index ≡ Some a
whole_found s place a whole e = by (numbered (on_side s place.side) place.index) (ap (λ path. option_and_then (λ b. part_at path (FormulaPart b)) (numbered (on_side s place.side) place.index)) (sym whole) ∙ e)
  where
    by : (o : Option PlainFormula) → option_and_then (λ b. part_at [] (FormulaPart b)) o ≡ Some (FormulaPart a) → o ≡ Some a
    by None h = absurd (no_some h)
    by (Some b) h = ap Some (formula_same (some_same h))

close_place : (place : PlainPlace) (side : Side) → (place.side ≡ side) × (place.path ≡ []) → place ≡ record { side = side; index = place.index; path = [] }
close_place place side on = λ i. record { side = on.0 i; index = place.index; path = on.1 i }

-- what a rule made of the formula is a step of it
step_of : (k : Kind) (m : Made) (rule : FirstRule) (s : PlainSequent) (p : PlainStep) (place : PlainPlace) (a : PlainFormula) → kind_of rule ≡ k → IsAt rule s p place a → IsMade k rule place.side a m → AssumesRightly rule s p.assumes a → IsOfKind k rule s p (made_premises s place m)
step_of Closing (Goals goals) rule s p place a kind at made right = by (closing_is rule kind)
  where
    by : rule ≡ Close → IsOfKind Closing rule s p (made_premises s place (Goals goals))
    by is =
        let on : IsOn (Some Right) place = subst (λ r. IsOn (whole_side r) place) is at.on in
        let assumed = subst (λ r. AssumesRightly r s p.assumes a) is right in
        record {
          is = is;
          index = place.index;
          assumed = assumed.index;
          formula = a;
          place = at.placed ∙ ap Some (close_place place Right on);
          assumes = assumed.only;
          on_right = ap (λ side. numbered (on_side s side) place.index) (sym on.0) ∙ whole_found s place a on.1 at.found;
          on_left = assumed.found;
          premises = ap (map (goal_premise s place.side place.index)) made;
        }
step_of Whole (Goals goals) rule s p place a kind at made right =
    let whole = (subst (λ w. IsOn w place) (row_side rule place.side a (map goal_view goals.items) made) at.on).1 in
    record {
      place = place;
      formula = a;
      goals = map goal_view goals.items;
      placed = at.placed;
      whole = whole;
      assumes = rightly_nothing rule s p.assumes a (row_not_close rule place.side a (map goal_view goals.items) made) right;
      found = whole_found s place a whole at.found;
      row = made;
      premises = refl;
    }
step_of Anywhere (Instead after) rule s p place a kind at made right =
    record {
      place = place;
      before = a;
      after = formula_view after;
      placed = at.placed;
      assumes = rightly_nothing rule s p.assumes a (rewrite_not_close rule a (formula_view after) made) right;
      found = at.found;
      rewrites = made;
      premises = refl;
    }
step_of k m rule s p place a kind at made right = absurd made

instance_is : (rule : FirstRule) (s : PlainSequent) (p : PlainStep) (place : PlainPlace) (a : PlainFormula) (m : Made) (ps : List PlainSequent) → p.rule ≡ rule_name rule → IsAt rule s p place a → IsMade (kind_of rule) rule place.side a m → p.insts ≡ [] → AssumesRightly rule s p.assumes a → ps ≡ made_premises s place m → IsInstance s p ps
instance_is rule s p place a m ps named at made insts right e =
    subst (IsInstance s p) (sym e) (record { rule = rule; named = named; insts = insts; step = to_step (kind_of rule) rule s p (made_premises s place m) (step_of (kind_of rule) m rule s p place a refl at made right) })

pub taken_is_instance : (rule : FirstRule) (s : PlainSequent) (p : PlainStep) (place : PlainPlace) (m : Made) (ps : List PlainSequent) → p.rule ≡ rule_name rule → IsTaken rule s p place m → ps ≡ made_premises s place m → IsInstance s p ps
taken_is_instance rule s p place m ps named taken e = instance_is rule s p place taken.formula m ps named taken.at_it taken.is_made taken.no_insts taken.rightly e

-- what is made is taken
pub made_taken : (k : Kind) (m : Made) (rule : FirstRule) (side : Side) (a : PlainFormula) → IsMade k rule side a m → IsNotTaken k rule side a → ⊥
made_taken Closing m rule side a made none = none
made_taken Whole (Goals goals) rule side a made none = no_some (sym none ∙ made)
made_taken Anywhere (Instead after) rule side a made none = none (formula_view after) made
made_taken k m rule side a made none = made

pub empty_map : {A B : Type 0} (f : A → B) (xs : List A) → length xs ≡ 0 → map f xs ≡ []
empty_map f [] e = refl
empty_map f (x ∷ xs) e = absurd (omega arith)

nil_cons : {A : Type 0} {x : A} {xs : List A} → x ∷ xs ≡ [] → ⊥
nil_cons h = cc

pub no_map : {A B : Type 0} (f : A → B) (xs : List A) → (length xs ≡ 0 → ⊥) → map f xs ≡ [] → ⊥
no_map f [] some e = some refl
no_map f (x ∷ xs) some e = nil_cons e

-- From what a rule of the right side means at states to the validity of sequents; and the same for a formula that is reached
-- through updates alone.
use Rattle.std.proofs.Common.{◌≡◌, ℕ, ℤ, List, [], ◌∷◌, ◌++◌, refl, sym, ap, ◌∙◌, subst}
use Rattle.jd_syntax.specs.Names.{Name}
use Rattle.jd_term.specs.Formulas.{Pairs, PlainFormula}
use Rattle.jd_heap.specs.References.{Reference}
use Rattle.jd_heap.specs.Heaps.{Heap}
use Rattle.jd_heap.specs.Values.{Value, IntValue}
use Rattle.jd_model.specs.SpecialNames.{entry_measure}
use Rattle.jd_model.specs.States.{State, read}
use Rattle.jd_model.specs.Runs.{with_values}
use Rattle.jd_model.specs.TermValues.{updated}
use Rattle.jd_model.specs.Truth.{Setting, truth, Truth, InvTruth}
use Rattle.jd_model.specs.Sequents.{PlainSequent}
use Rattle.jd_model.specs.Validity.{AllTrue, AllFalse, Refutes, Valid, AllValid}
use Rattle.jd_model.specs.Occurrences.{Always, NotIn, FormulaIn, FormulasIn, UpdatesIn}
use Rattle.jd_model.specs.UpdatePlaces.{through, sequent_with, sequents_with}
use Rattle.jd_model.proofs.States.{state_same}
use Rattle.jd_model.proofs.Stable.{stable_Truth}
use Rattle.jd_model.proofs.Coincidence.{Agree, truth_agree, updated_agree}
use Rattle.jd_model.proofs.Writes.{new_values}

-- not each goal fails for all values of the new constants
abbrev pub NoneOf : Setting → ℕ → State → State → List Value → List Name → List PlainSequent → Type 0
NoneOf g d i s b news [] = Unit {0}
NoneOf g d i s b news (q ∷ qs) = ((vs : List Value) → ¬ (Refutes g d (with_values i news vs) s b q)) × NoneOf g d i s b news qs

-- the meaning of a rule of the right side at a depth and an entry measure
abbrev pub MeansRightAt : Setting → ℕ → ℤ → PlainFormula → List Name → List PlainSequent → Type 0
MeansRightAt g d m find news goals = (i s : State) → read i entry_measure ≡ IntValue m → ¬ (Truth g d i s [] find) → ¬ (NoneOf g d i s [] news goals)

module _ (g : Setting) (d : ℕ) where
  true_after : (i s : State) (b : List Value) (l m : List PlainFormula) → AllTrue g d i s b l → AllTrue g d i s b m → AllTrue g d i s b (l ++ m)
  true_after i s b [] m h k = k
  true_after i s b (a ∷ l) m h k = (h.0, true_after i s b l m h.1 k)

  false_after : (i s : State) (b : List Value) (l m : List PlainFormula) → AllFalse g d i s b l → AllFalse g d i s b m → AllFalse g d i s b (l ++ m)
  false_after i s b [] m h k = k
  false_after i s b (a ∷ l) m h k = (h.0, false_after i s b l m h.1 k)

  false_front : (i s : State) (b : List Value) (l m : List PlainFormula) → AllFalse g d i s b (l ++ m) → AllFalse g d i s b l
  false_front i s b [] m h = tt
  false_front i s b (a ∷ l) m h = (h.0, false_front i s b l m h.1)

  false_back : (i s : State) (b : List Value) (l m : List PlainFormula) → AllFalse g d i s b (l ++ m) → AllFalse g d i s b m
  false_back i s b [] m h = h
  false_back i s b (a ∷ l) m h = false_back i s b l m h.1

  module _ (news : List Name) (vs : List Value) (i s : State) (b : List Value) where
    moves : (a : PlainFormula) → FormulaIn Always (λ x. NotIn x news) a → Truth g d i s b a ≡ Truth g d (with_values i news vs) s b a
    moves a o = truth_agree g d (InvTruth g d) Always (λ x. NotIn x news) i (with_values i news vs) (new_values news vs i) a o b s s (λ x _. refl)

    true_moves : (l : List PlainFormula) → FormulasIn Always (λ x. NotIn x news) l → AllTrue g d i s b l → AllTrue g d (with_values i news vs) s b l
    true_moves [] o h = tt
    true_moves (a ∷ l) o h = (subst (λ X. X) (moves a o.0) h.0, true_moves l o.1 h.1)

    false_moves : (l : List PlainFormula) → FormulasIn Always (λ x. NotIn x news) l → AllFalse g d i s b l → AllFalse g d (with_values i news vs) s b l
    false_moves [] o h = tt
    false_moves (a ∷ l) o h = (subst (λ X. ¬ X) (moves a o.0) h.0, false_moves l o.1 h.1)

  -- the premise of a row of the right side for one of its goals
  abbrev pub right_premise : List PlainFormula → List PlainFormula → List PlainFormula → PlainSequent → PlainSequent
  right_premise left front back goal = record { left = left ++ goal.left; right = front ++ (goal.right ++ back) }

  abbrev pub PremisesValid : ℤ → List PlainFormula → List PlainFormula → List PlainFormula → List PlainSequent → Type 0
  PremisesValid m left front back [] = Unit {0}
  PremisesValid m left front back (q ∷ qs) = Valid g d m (right_premise left front back q) × PremisesValid m left front back qs

  none_of : (m : ℤ) (news : List Name) → NotIn entry_measure news → (left front back : List PlainFormula) → FormulasIn Always (λ x. NotIn x news) left → FormulasIn Always (λ x. NotIn x news) front → FormulasIn Always (λ x. NotIn x news) back → (goals : List PlainSequent) → PremisesValid m left front back goals → (i s : State) → read i entry_measure ≡ IntValue m → AllTrue g d i s [] left → AllFalse g d i s [] front → AllFalse g d i s [] back → NoneOf g d i s [] news goals
  none_of m news im_old left front back in_l in_f in_b [] h i s e tl ff fb = tt
  none_of m news im_old left front back in_l in_f in_b (q ∷ qs) h i s e tl ff fb = (
    λ vs r. h.0 (with_values i news vs) s (sym (new_values news vs i entry_measure im_old) ∙ e) (
      true_after _ _ _ left q.left (true_moves news vs i s [] left in_l tl) r.0,
      false_after _ _ _ front (q.right ++ back) (false_moves news vs i s [] front in_f ff) (false_after _ _ _ q.right back r.1 (false_moves news vs i s [] back in_b fb)),
    ),
    none_of m news im_old left front back in_l in_f in_b qs h.1 i s e tl ff fb,
  )

  -- where the new constants stand nowhere
  pub right_sound_at : (m : ℤ) (find : PlainFormula) (news : List Name) (goals : List PlainSequent) → MeansRightAt g d m find news goals → NotIn entry_measure news → (left front back : List PlainFormula) → FormulasIn Always (λ x. NotIn x news) left → FormulasIn Always (λ x. NotIn x news) front → FormulasIn Always (λ x. NotIn x news) back → PremisesValid m left front back goals → Valid g d m (record { left = left; right = front ++ (find ∷ back) })
  right_sound_at m find news goals means im_old left front back in_l in_f in_b h i s e r =
      means i s e (false_back i s [] front (find ∷ back) r.1).0
      (none_of m news im_old left front back in_l in_f in_b goals h i s e r.0 (false_front i s [] front (find ∷ back) r.1) (false_back i s [] front (find ∷ back) r.1).1)

-- ---- below updates
abbrev pub after_updates : State → State → List Value → List Pairs → State
after_updates i s b [] = s
after_updates i s b (u ∷ us) = after_updates i (updated i s b u s) b us

pub truth_through : (g : Setting) (d : ℕ) (inv : Heap → Reference → Type 0) (i s : State) (b : List Value) (us : List Pairs) (a : PlainFormula) → truth g d inv i s b (through us a) ≡ truth g d inv i (after_updates i s b us) b a
truth_through g d inv i s b [] a = refl
truth_through g d inv i s b (u ∷ us) a = truth_through g d inv i (updated i s b u s) b us a

pub after_same : (Q : Name → Type 0) (i j : State) → Agree Q i j → (s : State) (b : List Value) (us : List Pairs) → UpdatesIn Always Q us → after_updates i s b us ≡ after_updates j s b us
after_same Q i j cs s b [] o = refl
after_same Q i j cs s b (u ∷ us) o =
    after_same Q i j cs (updated i s b u s) b us o.1
    ∙ ap (λ t. after_updates j t b us) (state_same (updated i s b u s) (updated j s b u s) (λ x. updated_agree Always Q i j s s cs (λ y _. refl) u o.0 b s s (λ y _. refl) x tt))

end : (l : List PlainFormula) → l ≡ l ++ []
end [] = refl
end (a ∷ l) = λ e. a ∷ end l e

abbrev pub goals_at : List Pairs → List PlainFormula → List PlainSequent
goals_at us [] = []
goals_at us (a ∷ goals) = record { left = []; right = through us a ∷ [] } ∷ goals_at us goals

as_goals : (g : Setting) (d : ℕ) (m : ℤ) (us : List Pairs) (left front back l : List PlainFormula) → AllValid g d m (sequents_with left front back us l) → PremisesValid g d m left front back (goals_at us l)
as_goals g d m us left front back [] h = tt
as_goals g d m us left front back (a ∷ l) h = (subst (λ k. Valid g d m (record { left = k; right = front ++ (through us a ∷ back) })) (end left) h.0, as_goals g d m us left front back l h.1)

-- ---- rules of kind P: what is so of formulas is so at a place below updates
module _ (g : Setting) where
  -- each goal holds, whatever the new constants are
  abbrev pub AllGiven : ℕ → State → State → List Value → List Name → List PlainFormula → Type 0
  AllGiven d i s b news [] = Unit {0}
  AllGiven d i s b news (a ∷ goals) = ((vs : List Value) → Truth g d (with_values i news vs) s b a) × AllGiven d i s b news goals

  -- where all goals hold, the formula does
  abbrev pub FormulaMeans : PlainFormula → List Name → List PlainFormula → Type 0
  FormulaMeans find news goals = (d : ℕ) (i s : State) (b : List Value) → AllGiven d i s b news goals → Truth g d i s b find

  module _ (news : List Name) (us : List Pairs) (us_in : UpdatesIn Always (λ x. NotIn x news) us) (d : ℕ) (i s : State) (b : List Value) where
    consts : List Value → State
    consts vs = with_values i news vs

    moved : (vs : List Value) → after_updates (consts vs) s b us ≡ after_updates i s b us
    unfolding consts
    moved vs = after_same (λ x. NotIn x news) (consts vs) i (λ x o. sym (new_values news vs i x o)) s b us us_in

    all_given : (goals : List PlainFormula) → NoneOf g d i s b news (goals_at us goals) → AllGiven d i (after_updates i s b us) b news goals
    unfolding consts
    all_given [] none = tt
    all_given (a ∷ goals) none = (
      λ vs. stable_Truth g d (consts vs) (after_updates i s b us) b a (λ no. none.0 vs (tt, (λ t. no (subst (λ y. Truth g d (consts vs) y b a) (moved vs) (subst (λ X. X) (truth_through g d (InvTruth g d) (consts vs) s b us a) t)), tt))),
      all_given goals none.1,
    )

  module _ (d : ℕ) (m : ℤ) (find : PlainFormula) (news : List Name) (goals : List PlainFormula) where
    -- the same at one depth and measure, where something is given
    abbrev pub MeansHere : Type 0
    MeansHere = (i s : State) → read i entry_measure ≡ IntValue m → AllGiven d i s [] news goals → Truth g d i s [] find

    place_means : MeansHere → (us : List Pairs) → UpdatesIn Always (λ x. NotIn x news) us → MeansRightAt g d m (through us find) news (goals_at us goals)
    place_means means us us_in i s e nf none =
        nf (subst (λ X. X) (sym (truth_through g d (InvTruth g d) i s [] us find)) (means i (after_updates i s [] us) e (all_given news us us_in d i s [] goals none)))

    -- where the sequents with the goals are valid, that with the formula is
    pub sound_under : MeansHere → NotIn entry_measure news → (us : List Pairs) → UpdatesIn Always (λ x. NotIn x news) us → (left front back : List PlainFormula) → FormulasIn Always (λ x. NotIn x news) left → FormulasIn Always (λ x. NotIn x news) front → FormulasIn Always (λ x. NotIn x news) back → AllValid g d m (sequents_with left front back us goals) → Valid g d m (sequent_with left front back us find)
    sound_under means im_old us us_in left front back in_l in_f in_b h =
        right_sound_at g d m (through us find) news (goals_at us goals) (place_means means us us_in) im_old left front back in_l in_f in_b (as_goals g d m us left front back goals h)

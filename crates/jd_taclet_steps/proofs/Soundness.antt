-- A step of a sound row leads from valid premises to a valid sequent.
use Rattle.std.proofs.Common.{◌≡◌, ◌⊎◌, inl, inr, ℕ, ℤ, List, [], ◌∷◌, ◌++◌, Some, None, sym, ◌∙◌, subst}
use Rattle.jd_syntax.specs.Names.{Name}
use Rattle.jd_term.specs.Formulas.{PlainFormula}
use Rattle.jd_heap.specs.Values.{Value, IntValue}
use Rattle.jd_model.specs.Closed.{AllClosed}
use Rattle.jd_model.specs.Holes.{Around, plug, Calm, fill_atom}
use Rattle.jd_model.specs.Occurrences.{NotIn}
use Rattle.jd_model.specs.Runs.{with_values}
use Rattle.jd_model.specs.Sequents.{PlainSequent}
use Rattle.jd_model.specs.SpecialNames.{entry_measure}
use Rattle.jd_model.specs.States.{State, read}
use Rattle.jd_model.specs.Truth.{Setting, Truth, InvTruth}
use Rattle.jd_model.specs.Validity.{Refutes, Valid, AllValid}
use Rattle.jd_model.proofs.Holes.{atom_same, calm_same}
use Rattle.jd_model.proofs.Replacement.{truth_path, plug_same}
use Rattle.jd_model.proofs.Writes.{new_values}
use Rattle.jd_patterns.specs.Patterns.{FormulaPattern}
use Rattle.jd_patterns.specs.Instances.{Instance, of_term, of_formula}
use Rattle.jd_taclets.specs.Taclets.{TacletKind, OnLeft, OnRight, FormulaFind, TermFind, TacletGoal, Taclet, assumed, added, all_added, new_constants, new_variables, NoneRefuted, SameTruth, SameValue, Meaning, RowMeans}
use Rattle.jd_taclet_steps.specs.Steps.{Spot, AtLeft, AtRight, whole, others, AreNewIn, IsOnSide, IsAdmitted, premises_at, free_premises, only_goal, StepOf, at_whole, at_formula, at_term, at_none, IsClosed, StepsOfSoundRowsAreSound}
use Rattle.jd_taclet_steps.proofs.Refuting.{Own, apart, together, more, covers, true_among, false_among, true_under, false_under, moves}

-- no premise that is valid is refuted, whatever the values of the new constants
module _ (g : Setting) (d : ℕ) (m : ℤ) (σ : Instance) (xs cs : List Name) (old : NotIn entry_measure cs) (i s : State) (e : read i entry_measure ≡ IntValue m) where
  none_whole : (w : Spot) (a : PlainFormula) → AreNewIn xs cs (whole w a) → Refutes g d i s [] (whole w a) → (ns : List TacletGoal) → AllValid g d m (premises_at g σ w a ns) → NoneRefuted g d i s [] cs (all_added g.program σ ns)
  none_whole w a f h [] v = tt
  none_whole w a f h (n ∷ ns) v = (
    λ vs r. v.0 (with_values i cs vs) s (sym (new_values cs vs i entry_measure old) ∙ e) (covers g d (with_values i cs vs) s [] n.keep w a (added g.program σ n) (moves g d xs cs vs i s (whole w a) f h) r),
    none_whole w a f h ns v.1,
  )

  none_free : (q : PlainSequent) → AreNewIn xs cs q → Refutes g d i s [] q → (ns : List TacletGoal) → AllValid g d m (free_premises g σ q ns) → NoneRefuted g d i s [] cs (all_added g.program σ ns)
  none_free q f h [] v = tt
  none_free q f h (n ∷ ns) v = (
    λ vs r. v.0 (with_values i cs vs) s (sym (new_values cs vs i entry_measure old) ∙ e) (more g d (with_values i cs vs) s [] q (added g.program σ n) (moves g d xs cs vs i s q f h) r),
    none_free q f h ns v.1,
  )

closed_front : (l m : List PlainFormula) (a : PlainFormula) → AllClosed (l ++ (a ∷ m)) → AllClosed (l ++ m)
closed_front [] m a h = h.1
closed_front (x ∷ l) m a h = (h.0, closed_front l m a h.1)

closed_others : (w : Spot) (a : PlainFormula) → IsClosed (whole w a) → IsClosed (others w)
closed_others (AtLeft f b r) a h = (closed_front f b a h.0, h.1)
closed_others (AtRight l f b) a h = (h.0, closed_front f b a h.1)

module _ (g : Setting) (r : Taclet) (q : PlainSequent) (closed : IsClosed q) (means : RowMeans r) (d : ℕ) (m : ℤ) where
  module _ (σ : Instance) (rest : PlainSequent) (ok : IsAdmitted g r q σ rest) where
    -- what the row means at the instantiation
    meaning : Meaning g σ r.assumes (new_constants g.program σ r.insts) r.kind r.find r.goals
    meaning = means g σ ok.conds ok.asked ok.found ok.forms ok.new_for

    -- what is assumed is refuted where the other formulas are, whatever is bound
    assume : (i s : State) → Refutes g d i s [] rest → Refutes g d i s [] (assumed g.program σ r.assumes)
    assume i s h = (true_among g d i s [] (assumed g.program σ r.assumes).left rest.left ok.lefts h.0, false_among g d i s [] (assumed g.program σ r.assumes).right rest.right ok.rights h.1)

    assume_under : IsClosed rest → (i s : State) (b : List Value) → Refutes g d i s [] rest → Refutes g d i s b (assumed g.program σ r.assumes)
    assume_under c i s b h = (true_among g d i s b (assumed g.program σ r.assumes).left rest.left ok.lefts (true_under g d i s b rest.left c.0 h.0), false_among g d i s b (assumed g.program σ r.assumes).right rest.right ok.rights (false_under g d i s b rest.right c.1 h.1))

  whole_case : (σ : Instance) (p : FormulaPattern) (cs : List Name) (k : TacletKind) (w : Spot) → IsOnSide k w → Meaning g σ r.assumes cs k (Some (FormulaFind p)) r.goals → (i s : State) → Refutes g d i s [] (assumed g.program σ r.assumes) → Own w (Truth g d i s [] (of_formula g.program σ p)) → ¬ (NoneRefuted g d i s [] cs (all_added g.program σ r.goals))
  whole_case σ p cs OnLeft (AtLeft f b l) o h i s a t = h d i s [] a t
  whole_case σ p cs OnRight (AtRight l f b) o h i s a t = h d i s [] a t
  whole_case σ p cs k w o h i s a t = absurd o

  -- equal truth of two formulas, where what is assumed is refuted, gives it at the place
  module _ (w : Spot) (h : Around) (a c : PlainFormula) (σ : Instance) (ok : IsAdmitted g r q σ (others w)) (where_ : (r.assumes ≡ []) ⊎ Calm h) (q_is : q ≡ whole w (plug h a)) (same : (i s : State) → ((b : List Value) → Refutes g d i s b (assumed g.program σ r.assumes)) → (b : List Value) → Truth g d i s b a ≡ Truth g d i s b c) where
    at_place : (i s : State) → Refutes g d i s [] (others w) → (r.assumes ≡ []) ⊎ Calm h → Truth g d i s [] (plug h a) ≡ Truth g d i s [] (plug h c)
    at_place i s o (inl e) = plug_same g d (InvTruth g d) i a c (λ t b. same i t (λ y. subst (λ l. Refutes g d i t y (assumed g.program σ l)) (sym e) (tt, tt)) b) h s []
    at_place i s o (inr n) = calm_same g d (InvTruth g d) i s a c (λ b. same i s (λ y. assume_under σ (others w) ok (closed_others w (plug h a) (subst IsClosed q_is closed)) i s y o) b) h n []

    by_place : Valid g d m (whole w (plug h c)) → Valid g d m q
    by_place v = subst (λ z. Valid g d m z) (sym q_is) (λ i s e x.
        let y : Refutes g d i s [] (others w) × Own w (Truth g d i s [] (plug h a)) = apart g d i s [] w (plug h a) x in
        v i s e (together g d i s [] w (plug h c) y.0 (subst (λ X. Own w X) (at_place i s y.0 where_) y.1)))

  step_sound : (ps : List PlainSequent) → StepOf g r q ps → AllValid g d m ps → Valid g d m q
  step_sound _ (at_whole σ w p find_is on q_is ok) v = subst (λ z. Valid g d m z) (sym q_is) (λ i s e x.
      let y : Refutes g d i s [] (others w) × Own w (Truth g d i s [] (of_formula g.program σ p)) = apart g d i s [] w (of_formula g.program σ p) x in
      whole_case σ p (new_constants g.program σ r.insts) r.kind w on (subst (λ f. Meaning g σ r.assumes (new_constants g.program σ r.insts) r.kind f r.goals) find_is (meaning σ (others w) ok)) i s (assume σ (others w) ok i s y.0) y.1
      (none_whole g d m σ (new_variables g.program σ r.insts) (new_constants g.program σ r.insts) ok.not_measure i s e w (of_formula g.program σ p) (subst (λ z. AreNewIn (new_variables g.program σ r.insts) (new_constants g.program σ r.insts) z) q_is ok.new_in) x r.goals v))
  step_sound _ (at_formula σ w h p c kind_is find_is goals_is place q_is ok) v =
      by_place w h (of_formula g.program σ p) (of_formula g.program σ c) σ ok place q_is (λ i s x b. truth_path g d i s b (of_formula g.program σ p) (of_formula g.program σ c) (same d i s b (x b))) v.0
    where
      same : SameTruth g σ r.assumes (new_constants g.program σ r.insts) p c
      same =
          subst (λ k. Meaning g σ r.assumes (new_constants g.program σ r.insts) k (Some (FormulaFind p)) (only_goal (FormulaFind c))) kind_is
          (subst (λ f. Meaning g σ r.assumes (new_constants g.program σ r.insts) r.kind f (only_goal (FormulaFind c))) find_is
          (subst (λ l. Meaning g σ r.assumes (new_constants g.program σ r.insts) r.kind r.find l) goals_is (meaning σ (others w) ok)))
  step_sound _ (at_term σ w h a p c kind_is find_is goals_is place q_is ok) v =
      by_place w h (fill_atom a (of_term g.program σ p)) (fill_atom a (of_term g.program σ c)) σ ok place q_is (λ i s x b. atom_same i s (of_term g.program σ p) (of_term g.program σ c) (λ y. same d i s y (x y)) g d (InvTruth g d) a b) v.0
    where
      same : SameValue g σ r.assumes (new_constants g.program σ r.insts) p c
      same =
          subst (λ k. Meaning g σ r.assumes (new_constants g.program σ r.insts) k (Some (TermFind p)) (only_goal (TermFind c))) kind_is
          (subst (λ f. Meaning g σ r.assumes (new_constants g.program σ r.insts) r.kind f (only_goal (TermFind c))) find_is
          (subst (λ l. Meaning g σ r.assumes (new_constants g.program σ r.insts) r.kind r.find l) goals_is (meaning σ (others w) ok)))
  step_sound _ (at_none σ kind_is find_is ok) v = λ i s e x.
      subst (λ k. Meaning g σ r.assumes (new_constants g.program σ r.insts) k None r.goals) kind_is
      (subst (λ f. Meaning g σ r.assumes (new_constants g.program σ r.insts) r.kind f r.goals) find_is (meaning σ q ok)) d i s [] (assume σ q ok i s x) tt
      (none_free g d m σ (new_variables g.program σ r.insts) (new_constants g.program σ r.insts) ok.not_measure i s e q ok.new_in x r.goals v)

pub steps_sound : StepsOfSoundRowsAreSound
steps_sound g r q closed means d m ps step v = step_sound g r q closed means d m ps step v

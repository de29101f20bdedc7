-- A step of a script is a step of its row, in the program that the task tells.
use Rattle.std.proofs.Common.{Bool, List, None, Option, Some, ap, append-nil, cond, false, inl, inr, map, refl, subst, sym, true, true≢false, ◌≡◌, ◌⊎◌, ◌∙◌, ◌++◌, ◌∷◌, ℕ, []}
use Rattle.jd_model.proofs.Writes.{all_of, not_in}
use Rattle.jd_model.specs.Holes.{Around, Calm, fill_atom, plug}
use Rattle.jd_model.specs.Occurrences.{AllOf, FormulaIn, NotIn, TermIn, member}
use Rattle.jd_model.specs.Places.{FormulaPart, TermPart, at_place, on_side}
use Rattle.jd_model.specs.Programs.{Program}
use Rattle.jd_model.specs.Sequents.{PlainPlace, PlainSequent}
use Rattle.jd_model.specs.SpecialNames.{entry_measure}
use Rattle.jd_model.specs.Truth.{Setting}
use Rattle.jd_model.specs.declared.sequent.Side.{Side}
use Rattle.jd_model.specs.declared.sequent.Side.TheVariants.{Left, Right}
use Rattle.jd_patterns.specs.Instances.{Instance, of_formula, of_term}
use Rattle.jd_patterns.specs.Patterns.{FormulaPattern, SchemaVar, TermPattern}
use Rattle.jd_sequent.proofs.Freshness.{known_constant_old, left_old, rest_in, right_old}
use Rattle.jd_sequent.proofs.RulesBelowUpdates.{formulas_wider}
use Rattle.jd_sequent.specs.Freshness.{IsNewConstant, IsNewVariable}
use Rattle.jd_sequent.specs.Obligations.{PlainTask, names_of}
use Rattle.jd_sequent.specs.TaskMeaning.{IsKnownConstant}
use Rattle.jd_syntax.specs.CodeNames.{heap_name}
use Rattle.jd_syntax.specs.Names.{Name}
use Rattle.jd_syntax.specs.Sxs.{Bracketed}
use Rattle.jd_taclet_scripts.proofs.Occurring.{atom_in, plug_in}
use Rattle.jd_taclet_scripts.proofs.Places.{among, calm_there, elsewhere, hole_of, on_left, on_right, path_there, replaced_there}
use Rattle.jd_taclet_scripts.specs.Given.{AreNewConstants, AreNewVariables, EachIsGiven, IsGiven}
use Rattle.jd_taclet_scripts.specs.Laws.{IsInShape}
use Rattle.jd_taclet_scripts.specs.Places.{AreAssumedAt, IsFoundAt, IsOther, MayStandAt, is_calm_place}
use Rattle.jd_taclet_scripts.specs.Steps.{goal_at, premise_at, premises_of}
use Rattle.jd_taclet_steps.specs.Places.{PlacesAreSurrounded, path_of, place_of}
use Rattle.jd_taclet_steps.specs.PutTerms.{TermsAreReplaced}
use Rattle.jd_taclet_steps.specs.Steps.{AreAmong, AreNewIn, AtLeft, AtRight, IsAdmitted, IsAmong, IsOnSide, Spot, StepOf, at_formula, at_none, at_term, at_whole, extended, free_premises, others, premises_at, whole}
use Rattle.jd_taclet_steps.specs.TermPlaces.{TermPlacesAreSurrounded, atom_path}
use Rattle.jd_taclets.specs.Conditions.{AllHold}
use Rattle.jd_taclets.specs.Taclets.{AFormula, ANumber, ATerm, AllAsked, AreNewFor, AtFormula, AtTerm, FitAssumed, FitsFind, FormulaFind, Free, InstForm, InstVar, IsAsked, NewConstant, NewVariable, OnLeft, OnRight, Pattern, Taclet, TacletGoal, TacletKind, TermFind, added, asked_sort, assumed_on, new_constants, new_variables}
use Rattle.jd_term.specs.Formulas.{PlainFormula}
use Rattle.jd_tforms.specs.Laws.{Answers}

-- ---- what is given has the sorts that are asked for

module _ (answers : Answers) (t : PlainTask) (p : Program) (σ : Instance) where
  asked_of : (n : SchemaVar) (f : InstForm) (x : Bracketed) → IsGiven t p σ (record { name = n; form = f }) x → IsAsked p σ (record { name = n; form = f })
  asked_of n AFormula x h = tt
  asked_of n ANumber x h = tt
  asked_of n (ATerm s) x h = ((answers.term (names_of t) (asked_sort p σ s) x (σ.term n)).0 h).sort
  asked_of n (NewConstant s) x h = h.3
  asked_of n (NewVariable s) x h = h.3

  pub all_asked : (vs : List InstVar) (given : List (List ℕ × Bracketed)) → EachIsGiven t p σ vs given → AllAsked p σ vs
  all_asked [] given h = tt
  all_asked (v ∷ vs) given h = (asked_of v.name v.form h.0.0 h.0.2, all_asked vs given h.1)

-- ---- new names

not_true : (b : Bool) → (b ≡ true → ⊥) → b ≡ false
not_true true h = absurd (h refl)
not_true false h = refl

module _ (t : PlainTask) (s : PlainSequent) where
  each_constant : (cs : List Name) → AreNewConstants t s cs → AllOf (IsNewConstant t.obligation s) cs
  each_constant [] h = tt
  each_constant (c ∷ cs) h = (h.0, each_constant cs h.1)

  each_variable : (xs : List Name) → AreNewVariables t s xs → AllOf (IsNewVariable s) xs
  each_variable [] h = tt
  each_variable (x ∷ xs) h = (h.0.0, each_variable xs h.1)

  -- the heap's variable is not new
  pub no_heap : (xs : List Name) → AreNewVariables t s xs → NotIn heap_name xs
  no_heap xs h = not_in heap_name xs (not_true (member heap_name xs) (λ m. true≢false (all_of (IsNewVariable s) xs (each_variable xs h) heap_name m).not_special))

  module _ (xs cs : List Name) (variables : AreNewVariables t s xs) (constants : AreNewConstants t s cs) where
    pub new_in : AreNewIn xs cs s
    new_in = (
      formulas_wider (λ x. member x xs ≡ false) (λ x. member x cs ≡ false) (λ x. NotIn x xs) (λ x. NotIn x cs) (λ x o. not_in x xs o) (λ x o. not_in x cs o) s.left (left_old xs cs t.obligation s (each_variable xs variables) (each_constant cs constants)),
      formulas_wider (λ x. member x xs ≡ false) (λ x. member x cs ≡ false) (λ x. NotIn x xs) (λ x. NotIn x cs) (λ x o. not_in x xs o) (λ x o. not_in x cs o) s.right (right_old xs cs t.obligation s (each_variable xs variables) (each_constant cs constants)),
    )

    pub no_measure : IsKnownConstant t.obligation entry_measure → NotIn entry_measure cs
    no_measure known = not_in entry_measure cs (known_constant_old xs cs t.obligation s (each_variable xs variables) (each_constant cs constants) entry_measure known)

-- what stands in the sequent has no new names
at_spot : (xs cs : List Name) (w : Spot) (a : PlainFormula) → AreNewIn xs cs (whole w a) → FormulaIn (λ y. NotIn y xs) (λ y. NotIn y cs) a
at_spot xs cs (AtLeft f b r) a h = (rest_in (λ y. NotIn y xs) (λ y. NotIn y cs) f (a ∷ b) h.0).0
at_spot xs cs (AtRight l f b) a h = (rest_in (λ y. NotIn y xs) (λ y. NotIn y cs) f (a ∷ b) h.1).0

module _ (p : Program) (σ : Instance) where
  new_for_formula : (xs cs : List Name) (a : FormulaPattern) → FormulaIn (λ y. NotIn y xs) (λ y. NotIn y cs) (of_formula p σ a) → NotIn heap_name xs → AreNewFor p σ xs cs (Some (FormulaFind a))
  new_for_formula [] [] a h n = tt
  new_for_formula [] (c ∷ cs) a h n = (h, n)
  new_for_formula (x ∷ xs) cs a h n = (h, n)

  new_for_term : (xs cs : List Name) (a : TermPattern) → TermIn (λ y. NotIn y xs) (λ y. NotIn y cs) (of_term p σ a) → NotIn heap_name xs → AreNewFor p σ xs cs (Some (TermFind a))
  new_for_term [] [] a h n = tt
  new_for_term [] (c ∷ cs) a h n = (h, n)
  new_for_term (x ∷ xs) cs a h n = (h, n)

  new_for_none : (xs cs : List Name) → AreNewFor p σ xs cs None
  new_for_none [] [] = tt
  new_for_none [] (c ∷ cs) = tt
  new_for_none (x ∷ xs) cs = tt

-- ---- what is assumed stands among others

-- the whole formulas of the sequent, but for the step's own, are among those of the other
abbrev AreElsewhere : PlainSequent → Option PlainPlace → PlainSequent → Type 0
AreElsewhere s own rest = (side : Side) (n : ℕ) (x : PlainFormula) → at_place s (record { side = side; index = n; path = [] }) ≡ Some (FormulaPart x) → IsOther own (record { side = side; index = n; path = [] }) → IsAmong x (on_side rest side)

module _ (p : Program) (σ : Instance) (s : PlainSequent) (own : Option PlainPlace) (rest : PlainSequent) (stands : AreElsewhere s own rest) where
  one_among : (side : Side) (q : PlainPlace) (x : PlainFormula) → q.side ≡ side → q.path ≡ [] → at_place s q ≡ Some (FormulaPart x) → IsOther own q → IsAmong x (on_side rest side)
  one_among side q x at path e o = stands side q.index x
      (subst (λ (z : Side × List ℕ). at_place s (record { side = z.0; index = q.index; path = z.1 }) ≡ Some (FormulaPart x)) (λ i. (at i, path i)) e)
      (subst (λ (z : Side × List ℕ). IsOther own (record { side = z.0; index = q.index; path = z.1 })) (λ i. (at i, path i)) o)

  lefts : (l : List (Side × FormulaPattern)) (qs : List (Option PlainPlace)) → AreAssumedAt p σ s own l qs → AreAmong (assumed_on p σ Left l) rest.left
  lefts [] qs h = tt
  lefts ((Left, a) ∷ l) (Some q ∷ qs) h = (one_among Left q (of_formula p σ a) h.0.0 h.0.1 h.0.2 h.0.3, lefts l qs h.1)
  lefts ((Right, a) ∷ l) (Some q ∷ qs) h = lefts l qs h.1
  lefts (a ∷ l) (None ∷ qs) h = absurd h
  lefts (a ∷ l) [] h = absurd h

  rights : (l : List (Side × FormulaPattern)) (qs : List (Option PlainPlace)) → AreAssumedAt p σ s own l qs → AreAmong (assumed_on p σ Right l) rest.right
  rights [] qs h = tt
  rights ((Left, a) ∷ l) (Some q ∷ qs) h = rights l qs h.1
  rights ((Right, a) ∷ l) (Some q ∷ qs) h = (one_among Right q (of_formula p σ a) h.0.0 h.0.1 h.0.2 h.0.3, rights l qs h.1)
  rights (a ∷ l) (None ∷ qs) h = absurd h
  rights (a ∷ l) [] h = absurd h

-- ---- premises

module _ (g : Setting) (σ : Instance) where
  goals_at : (w : Spot) (a : PlainFormula) (path : List ℕ) (ns : List TacletGoal) → map (goal_at g.program σ (whole w a) (place_of w path)) ns ≡ premises_at g σ w a ns
  goals_at w a path [] = refl
  goals_at w a path (n ∷ ns) = λ i. cond n.keep (extended (whole w a) (added g.program σ n)) (replaced_there w a path (added g.program σ n) i) ∷ goals_at w a path ns i

  goals_free : (s : PlainSequent) (ns : List TacletGoal) → map (λ n. extended s (added g.program σ n)) ns ≡ free_premises g σ s ns
  goals_free s [] = refl
  goals_free s (n ∷ ns) = ap (λ l. extended s (added g.program σ n) ∷ l) (goals_free s ns)

-- ---- steps

module _ (surrounded : PlacesAreSurrounded) (terms : TermPlacesAreSurrounded) (put : TermsAreReplaced) (g : Setting) (r : Taclet) (shape : IsInShape r) (s : PlainSequent) (σ : Instance) where
  abbrev xs : List Name
  xs = new_variables g.program σ r.insts

  abbrev cs : List Name
  cs = new_constants g.program σ r.insts

  -- what the row asks of a step wherever it stands
  pub record MeetsRow : Type 0 where
    pub conds : AllHold g σ r.conds
    pub asked : AllAsked g.program σ r.insts
    pub find_fits : FitsFind g.program σ r.find
    pub assumed_fit : FitAssumed g.program σ r.assumes
    pub new_in : AreNewIn xs cs s
    pub no_heap : NotIn heap_name xs
    pub no_measure : NotIn entry_measure cs

  module _ (c : MeetsRow) (qs : List (Option PlainPlace)) where
    admitted : (own : Option PlainPlace) (rest : PlainSequent) → AreNewFor g.program σ xs cs r.find → AreElsewhere s own rest → AreAssumedAt g.program σ s own r.assumes qs → IsAdmitted g r s σ rest
    admitted own rest new_for stands h = record {
      conds = c.conds;
      asked = c.asked;
      found = c.find_fits;
      forms = c.assumed_fit;
      new_for = new_for;
      new_in = c.new_in;
      not_measure = c.no_measure;
      lefts = lefts g.program σ s own rest stands r.assumes qs h;
      rights = rights g.program σ s own rest stands r.assumes qs h;
    }

    -- at a place that something surrounds
    admitted_at : (w : Spot) (y : PlainFormula) (path : List ℕ) (q : PlainPlace) → s ≡ whole w y → q ≡ place_of w path → AreNewFor g.program σ xs cs r.find → AreAssumedAt g.program σ s (Some q) r.assumes qs → IsAdmitted g r s σ (others w)
    admitted_at w y path q is at new_for h = admitted (Some q) (others w) new_for
        (λ side n x e o. elsewhere w y path side n x (subst (λ z. at_place z (record { side = side; index = n; path = [] }) ≡ Some (FormulaPart x)) is e) (subst (λ z. IsOther (Some z) (record { side = side; index = n; path = [] })) at o))
        h

    new_at : (w : Spot) (y : PlainFormula) → s ≡ whole w y → FormulaIn (λ z. NotIn z xs) (λ z. NotIn z cs) y
    new_at w y is = at_spot xs cs w y (subst (AreNewIn xs cs) is c.new_in)

    whole_step : (k : TacletKind) → r.kind ≡ k → (a : FormulaPattern) → r.find ≡ Some (FormulaFind a) → (q : PlainPlace) → ((w : Spot) (path : List ℕ) → (place_of w path).side ≡ q.side → IsOnSide k w) → q.path ≡ [] → at_place s q ≡ Some (FormulaPart (of_formula g.program σ a)) → AreAssumedAt g.program σ s (Some q) r.assumes qs → StepOf g r s (map (goal_at g.program σ s q) r.goals)
    whole_step k kind a find q on path e h =
        let b = surrounded.each s q (of_formula g.program σ a) e in
        let hole = hole_of b.around (of_formula g.program σ a) (sym (path_there b.spot (path_of b.around)) ∙ sym (ap (λ (z : PlainPlace). z.path) b.place) ∙ path) in
        let is = b.sequent ∙ ap (whole b.spot) hole in
        subst (StepOf g r s) (sym ((λ i. map (goal_at g.program σ (is i) (b.place i)) r.goals) ∙ goals_at g σ b.spot (of_formula g.program σ a) (path_of b.around) r.goals))
        (at_whole σ b.spot a find (subst (λ z. IsOnSide z b.spot) (sym kind) (on b.spot (path_of b.around) (sym (ap (λ (z : PlainPlace). z.side) b.place)))) is
        (admitted_at b.spot (of_formula g.program σ a) (path_of b.around) q is b.place (subst (AreNewFor g.program σ xs cs) (sym find) (new_for_formula g.program σ xs cs a (new_at b.spot (of_formula g.program σ a) is) c.no_heap)) h))

    -- a row that assumes something stands at a calm place
    calm : (w : Spot) (h : Around) (x : PlainFormula) (path : List ℕ) (q : PlainPlace) → s ≡ whole w (plug h x) → q ≡ place_of w (path_of h ++ path) → MayStandAt r.assumes s (Some q) → (r.assumes ≡ []) ⊎ Calm h
    calm w h x path q is at (inl e) = inl e
    calm w h x path q is at (inr e) = inr (calm_there w h x path (sym (λ i. is_calm_place (is i) (at i)) ∙ e))

    formula_step : r.kind ≡ AtFormula → (a : FormulaPattern) → r.find ≡ Some (FormulaFind a) → (q : PlainPlace) → at_place s q ≡ Some (FormulaPart (of_formula g.program σ a)) → MayStandAt r.assumes s (Some q) → AreAssumedAt g.program σ s (Some q) r.assumes qs → StepOf g r s (map (premise_at g.program σ s AtFormula q) r.goals)
    formula_step kind a find q e may h =
        let found = of_formula g.program σ a in
        let b = surrounded.each s q found e in
        let goal = shape (FormulaFind a) find (inl kind) in
        subst (StepOf g r s) (sym ((λ i. map (premise_at g.program σ (b.sequent i) AtFormula (b.place i)) (goal.1 i)) ∙ ap (λ z. z ∷ []) (surrounded.put b.spot b.around found (of_formula g.program σ goal.0))))
        (at_formula σ b.spot b.around a goal.0 kind find goal.1 (calm b.spot b.around found [] q b.sequent (b.place ∙ ap (place_of b.spot) (sym (append-nil (path_of b.around)))) may) b.sequent
        (admitted_at b.spot (plug b.around found) (path_of b.around) q b.sequent b.place
        (subst (AreNewFor g.program σ xs cs) (sym find) (new_for_formula g.program σ xs cs a (plug_in (λ z. NotIn z xs) (λ z. NotIn z cs) b.around found (new_at b.spot (plug b.around found) b.sequent)) c.no_heap)) h))

    term_step : r.kind ≡ AtTerm → (a : TermPattern) → r.find ≡ Some (TermFind a) → (q : PlainPlace) → at_place s q ≡ Some (TermPart (of_term g.program σ a)) → MayStandAt r.assumes s (Some q) → AreAssumedAt g.program σ s (Some q) r.assumes qs → StepOf g r s (map (premise_at g.program σ s AtTerm q) r.goals)
    term_step kind a find q e may h =
        let found = of_term g.program σ a in
        let b = terms.each s q found e in
        let here = fill_atom b.atom found in
        let path = path_of b.around ++ atom_path b.atom in
        let goal = shape (TermFind a) find (inr kind) in
        subst (StepOf g r s) (sym ((λ i. map (premise_at g.program σ (b.sequent i) AtTerm (b.place i)) (goal.1 i)) ∙ ap (λ z. z ∷ []) (put b.spot b.around b.atom found (of_term g.program σ goal.0))))
        (at_term σ b.spot b.around b.atom a goal.0 kind find goal.1 (calm b.spot b.around here (atom_path b.atom) q b.sequent b.place may) b.sequent
        (admitted_at b.spot (plug b.around here) path q b.sequent b.place
        (subst (AreNewFor g.program σ xs cs) (sym find) (new_for_term g.program σ xs cs a (atom_in (λ z. NotIn z xs) (λ z. NotIn z cs) b.atom found (plug_in (λ z. NotIn z xs) (λ z. NotIn z cs) b.around here (new_at b.spot (plug b.around here) b.sequent))) c.no_heap)) h))

    free_step : r.kind ≡ Free → r.find ≡ None → AreAssumedAt g.program σ s None r.assumes qs → StepOf g r s (map (λ n. extended s (added g.program σ n)) r.goals)
    free_step kind find h =
        subst (StepOf g r s) (sym (goals_free g σ s r.goals))
        (at_none σ kind find (admitted None s (subst (AreNewFor g.program σ xs cs) (sym find) (new_for_none g.program σ xs cs)) (λ side n x e o. among (on_side s side) n x e) h))

    pub step_of : (k : TacletKind) (f : Option Pattern) (own : Option PlainPlace) → r.kind ≡ k → r.find ≡ f → IsFoundAt g.program σ s k f own → MayStandAt r.assumes s own → AreAssumedAt g.program σ s own r.assumes qs → StepOf g r s (premises_of g.program σ s k own r.goals)
    step_of OnLeft (Some (FormulaFind a)) (Some q) kind find found may h = whole_step OnLeft kind a find q (λ w path e. on_left w path (e ∙ found.0)) found.1 found.2 h
    step_of OnRight (Some (FormulaFind a)) (Some q) kind find found may h = whole_step OnRight kind a find q (λ w path e. on_right w path (e ∙ found.0)) found.1 found.2 h
    step_of AtFormula (Some (FormulaFind a)) (Some q) kind find found may h = formula_step kind a find q found may h
    step_of AtTerm (Some (TermFind a)) (Some q) kind find found may h = term_step kind a find q found may h
    step_of Free None None kind find found may h = free_step kind find h
    step_of k f own kind find found may h = absurd found

-- A step of a row in a program without bodies is one in the program.
use Rattle.std.proofs.Common.{List, None, Option, Some, ap, cond, refl, subst, sym, ◌++◌, ◌≡◌, ◌∙◌, ◌∷◌, ℕ, []}
use Rattle.jd_model.specs.Conjunctions.{conjunction}
use Rattle.jd_model.specs.Holes.{fill_atom, plug}
use Rattle.jd_model.specs.Occurrences.{FormulaIn, NotIn, TermIn}
use Rattle.jd_model.specs.Programs.{Program}
use Rattle.jd_model.specs.Renamings.{rename_all}
use Rattle.jd_model.specs.Sequents.{PlainSequent}
use Rattle.jd_model.specs.SpecialNames.{entry_measure}
use Rattle.jd_model.specs.Truth.{Setting}
use Rattle.jd_model.specs.declared.sequent.Side.{Side}
use Rattle.jd_model.specs.declared.sequent.Side.TheVariants.{Left, Right}
use Rattle.jd_patterns.specs.Instances.{Instance, of_formula}
use Rattle.jd_patterns.specs.Patterns.{FormulaPattern, SchemaVar}
use Rattle.jd_syntax.specs.Codes.{IntArray, OfClass, PlainKind}
use Rattle.jd_syntax.specs.Names.{Name}
use Rattle.jd_taclet_scripts.proofs.Patterns.{formula_same, sort_same, term_same}
use Rattle.jd_taclet_steps.specs.Steps.{AreAmong, AreNewIn, IsAdmitted, Spot, StepOf, at_formula, at_none, at_term, at_whole, extended, free_premises, others, premises_at, replaced, whole}
use Rattle.jd_taclets.specs.Conditions.{AllHold, Condition, DefaultTerm, Holds, IndexSort, IndexSortInTerm, InvariantsOf, IsBoundSort, KindBelow, TermHasSort, WhetherBelow, at_heap, default_term, invariant_at, invariants_of, is_below, truth_formula}
use Rattle.jd_taclets.specs.Taclets.{AFormula, ANumber, ATerm, AllAsked, AreNewFor, AskedSort, FitAssumed, FitsFind, FormulaFind, InstForm, InstVar, IsAsked, NewConstant, NewVariable, Pattern, SortOf, SortOfSimple, Taclet, TacletGoal, TermFind, added, all_formulas, asked_sort, assumed_on, new_constants, new_variables, with_constant, with_variable}
use Rattle.jd_term.specs.Substitutions.{SortsAgree, TermSortsAgree}
use Rattle.jd_term.specs.Terms.{PlainTerm}
use Rattle.jd_told_programs.specs.Told.{setting_without_bodies, without_bodies}

-- ---- conditions

module _ (g : Setting) (σ : Instance) where
  below_same : (d c : PlainKind) → is_below (without_bodies g.program) d c ≡ is_below g.program d c
  below_same (OfClass d) (OfClass c) = refl
  below_same IntArray (OfClass c) = refl
  below_same IntArray IntArray = refl
  below_same (OfClass d) IntArray = refl

  invariants_same : (cs : List ℕ) → invariants_of (setting_without_bodies g) cs ≡ invariants_of g cs
  invariants_same [] = refl
  invariants_same (c ∷ cs) = ap (λ l. g.invariants c ++ l) (invariants_same cs)

  invariant_same : (k : PlainKind) (h o : PlainTerm) → invariant_at (setting_without_bodies g) k h o ≡ invariant_at g k h o
  invariant_same (OfClass c) h o = ap (λ l. conjunction (rename_all (at_heap h o) l)) (invariants_same (g.program.superclasses c))
  invariant_same IntArray h o = refl

  holds : (c : Condition) → Holds (setting_without_bodies g) σ c → Holds g σ c
  holds (TermHasSort t s) h = h ∙ sort_same g.program σ s
  holds (KindBelow d c) h = sym (below_same (σ.kind d) (σ.kind c)) ∙ h
  holds (WhetherBelow k d c) h = h ∙ ap truth_formula (below_same (σ.kind d) (σ.kind c))
  holds (DefaultTerm k s) h = h ∙ ap default_term (sort_same g.program σ s)
  holds (InvariantsOf k c t o) h = h ∙ invariant_same (σ.kind c) (σ.term t) (σ.term o)
  holds (IndexSort a s) h = subst (λ z. IsBoundSort z × SortsAgree 0 z (σ.formula a)) (sort_same g.program σ s) h
  holds (IndexSortInTerm t s) h = subst (λ z. IsBoundSort z × TermSortsAgree 0 z (σ.term t)) (sort_same g.program σ s) h
  holds c h = h

  all_hold : (cs : List Condition) → AllHold (setting_without_bodies g) σ cs → AllHold g σ cs
  all_hold [] h = h
  all_hold (c ∷ cs) h = (holds c h.0, all_hold cs h.1)

-- ---- what is asked, found, assumed and added

module _ (p : Program) (σ : Instance) where
  asked_same : (s : AskedSort) → asked_sort (without_bodies p) σ s ≡ asked_sort p σ s
  asked_same (SortOf s) = sort_same p σ s
  asked_same (SortOfSimple n) = refl

  asked_of : (n : SchemaVar) (f : InstForm) → IsAsked (without_bodies p) σ (record { name = n; form = f }) → IsAsked p σ (record { name = n; form = f })
  asked_of n AFormula h = h
  asked_of n ANumber h = h
  asked_of n (ATerm s) h = h ∙ asked_same s
  asked_of n (NewConstant s) h = h ∙ asked_same s
  asked_of n (NewVariable s) h = h ∙ asked_same s

  all_asked : (vs : List InstVar) → AllAsked (without_bodies p) σ vs → AllAsked p σ vs
  all_asked [] h = h
  all_asked (v ∷ vs) h = (asked_of v.name v.form h.0, all_asked vs h.1)

  constant_same : (f : InstForm) (x : Name) {xs ys : List Name} → xs ≡ ys → with_constant (without_bodies p) σ f x xs ≡ with_constant p σ f x ys
  constant_same (NewConstant s) x e = ap (λ l. x ∷ l) e
  constant_same f x e = e

  constants_same : (vs : List InstVar) → new_constants (without_bodies p) σ vs ≡ new_constants p σ vs
  constants_same [] = refl
  constants_same (v ∷ vs) = constant_same v.form (σ.name v.name) (constants_same vs)

  variable_same : (f : InstForm) (x : Name) {xs ys : List Name} → xs ≡ ys → with_variable (without_bodies p) σ f x xs ≡ with_variable p σ f x ys
  variable_same (NewVariable s) x e = ap (λ l. x ∷ l) e
  variable_same f x e = e

  variables_same : (vs : List InstVar) → new_variables (without_bodies p) σ vs ≡ new_variables p σ vs
  variables_same [] = refl
  variables_same (v ∷ vs) = variable_same v.form (σ.name v.name) (variables_same vs)

  fits : (f : Option Pattern) → FitsFind (without_bodies p) σ f → FitsFind p σ f
  fits None h = h
  fits (Some (FormulaFind a)) h = h
  fits (Some (TermFind t)) h = h

  fit_assumed : (l : List (Side × FormulaPattern)) → FitAssumed (without_bodies p) σ l → FitAssumed p σ l
  fit_assumed [] h = h
  fit_assumed (a ∷ l) h = (h.0, fit_assumed l h.1)

  new_for : (xs cs : List Name) (f : Option Pattern) → AreNewFor (without_bodies p) σ xs cs f → AreNewFor p σ xs cs f
  new_for [] [] f h = h
  new_for [] (c ∷ cs) None h = h
  new_for [] (c ∷ cs) (Some (FormulaFind a)) h = (subst (FormulaIn (λ y. NotIn y []) (λ y. NotIn y (c ∷ cs))) (formula_same p σ a) h.0, h.1)
  new_for [] (c ∷ cs) (Some (TermFind t)) h = (subst (TermIn (λ y. NotIn y []) (λ y. NotIn y (c ∷ cs))) (term_same p σ t) h.0, h.1)
  new_for (x ∷ xs) cs None h = h
  new_for (x ∷ xs) cs (Some (FormulaFind a)) h = (subst (FormulaIn (λ y. NotIn y (x ∷ xs)) (λ y. NotIn y cs)) (formula_same p σ a) h.0, h.1)
  new_for (x ∷ xs) cs (Some (TermFind t)) h = (subst (TermIn (λ y. NotIn y (x ∷ xs)) (λ y. NotIn y cs)) (term_same p σ t) h.0, h.1)

  all_same : (l : List FormulaPattern) → all_formulas (without_bodies p) σ l ≡ all_formulas p σ l
  all_same [] = refl
  all_same (a ∷ l) = λ i. formula_same p σ a i ∷ all_same l i

  assumed_same : (side : Side) (l : List (Side × FormulaPattern)) → assumed_on (without_bodies p) σ side l ≡ assumed_on p σ side l
  assumed_same side [] = refl
  assumed_same Left ((Left, a) ∷ l) = λ i. formula_same p σ a i ∷ assumed_same Left l i
  assumed_same Left ((Right, a) ∷ l) = assumed_same Left l
  assumed_same Right ((Left, a) ∷ l) = assumed_same Right l
  assumed_same Right ((Right, a) ∷ l) = λ i. formula_same p σ a i ∷ assumed_same Right l i

  added_same : (n : TacletGoal) → added (without_bodies p) σ n ≡ added p σ n
  added_same n = λ i. record { left = all_same n.left i; right = all_same n.right i }

-- ---- steps

module _ (g : Setting) (σ : Instance) where
  premises_same : (w : Spot) (a : FormulaPattern) (ns : List TacletGoal) → premises_at (setting_without_bodies g) σ w (of_formula (without_bodies g.program) σ a) ns ≡ premises_at g σ w (of_formula g.program σ a) ns
  premises_same w a [] = refl
  premises_same w a (n ∷ ns) = λ i. cond n.keep (extended (whole w (formula_same g.program σ a i)) (added_same g.program σ n i)) (replaced w (added_same g.program σ n i)) ∷ premises_same w a ns i

  free_same : (q : PlainSequent) (ns : List TacletGoal) → free_premises (setting_without_bodies g) σ q ns ≡ free_premises g σ q ns
  free_same q [] = refl
  free_same q (n ∷ ns) = λ i. extended q (added_same g.program σ n i) ∷ free_same q ns i

module _ (g : Setting) (r : Taclet) (q : PlainSequent) where
  admitted : (σ : Instance) (rest : PlainSequent) → IsAdmitted (setting_without_bodies g) r q σ rest → IsAdmitted g r q σ rest
  admitted σ rest ok =
      let xs = variables_same g.program σ r.insts in
      let cs = constants_same g.program σ r.insts in
      record {
        conds = all_hold g σ r.conds ok.conds;
        asked = all_asked g.program σ r.insts ok.asked;
        found = fits g.program σ r.find ok.found;
        forms = fit_assumed g.program σ r.assumes ok.forms;
        new_for = new_for g.program σ (new_variables g.program σ r.insts) (new_constants g.program σ r.insts) r.find (subst (λ (e : List Name × List Name). AreNewFor (without_bodies g.program) σ e.0 e.1 r.find) (λ i. (xs i, cs i)) ok.new_for);
        new_in = subst (λ (e : List Name × List Name). AreNewIn e.0 e.1 q) (λ i. (xs i, cs i)) ok.new_in;
        not_measure = subst (NotIn entry_measure) cs ok.not_measure;
        lefts = subst (λ l. AreAmong l rest.left) (assumed_same g.program σ Left r.assumes) ok.lefts;
        rights = subst (λ l. AreAmong l rest.right) (assumed_same g.program σ Right r.assumes) ok.rights;
      }

  pub with_bodies : (ps : List PlainSequent) → StepOf (setting_without_bodies g) r q ps → StepOf g r q ps
  with_bodies _ (at_whole σ w p find on is ok) =
      subst (StepOf g r q) (sym (premises_same g σ w p r.goals)) (at_whole σ w p find on (is ∙ ap (whole w) (formula_same g.program σ p)) (admitted σ (others w) ok))
  with_bodies _ (at_formula σ w h p c kind find goals place is ok) =
      subst (StepOf g r q) (λ i. whole w (plug h (sym (formula_same g.program σ c) i)) ∷ [])
      (at_formula σ w h p c kind find goals place (is ∙ ap (λ z. whole w (plug h z)) (formula_same g.program σ p)) (admitted σ (others w) ok))
  with_bodies _ (at_term σ w h a p c kind find goals place is ok) =
      subst (StepOf g r q) (λ i. whole w (plug h (fill_atom a (sym (term_same g.program σ c) i))) ∷ [])
      (at_term σ w h a p c kind find goals place (is ∙ ap (λ z. whole w (plug h (fill_atom a z))) (term_same g.program σ p)) (admitted σ (others w) ok))
  with_bodies _ (at_none σ kind find ok) = subst (StepOf g r q) (sym (free_same g σ q r.goals)) (at_none σ kind find (admitted σ q ok))

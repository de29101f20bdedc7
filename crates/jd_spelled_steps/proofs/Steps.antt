-- A step by a row that keeps trees spelled leads from sequents that rules take to such sequents.
use Rattle.std.proofs.Common.{All, Bool, List, None, Option, Some, [], ap, arith, cond, false, map, subst, suc, sym, true, zero, ◌++◌, ◌∙◌, ◌∷◌, ◌≡◌, ℕ}
use Rattle.std.proofs.lemmas.Bool.{and_parts, leb-true}
use Rattle.std.proofs.lemmas.List.Elements.{All-cons, All-head, All-nil, All-tail}
use Rattle.std.proofs.lemmas.Option.{none-some, same_Some}
use Rattle.std.specs.List.{list_all}
use Rattle.std.specs.Prelude.{nat_le}
use Rattle.std.specs.Str.{bytes_eq}
use Rattle.jd_base.specs.declared.sort.Sort.{Sort}
use Rattle.jd_model.specs.declared.sequent.Side.{Side}
use Rattle.jd_model.specs.declared.sequent.Side.TheVariants.{Left, Right}
use Rattle.jd_model.specs.Places.{FormulaPart, at_place}
use Rattle.jd_model.specs.Programs.{Program}
use Rattle.jd_model.specs.Sequents.{PlainPlace, PlainSequent}
use Rattle.jd_patterns.specs.Instances.{Instance, of_formula, of_term}
use Rattle.jd_patterns.specs.Patterns.{FormulaPattern, SchemaVar, TermPattern}
use Rattle.jd_sequent.specs.Limits.{IsWithinLimits, is_small_formula}
use Rattle.jd_sequent.specs.Obligations.{PlainTask, names_of}
use Rattle.jd_sequent.specs.Trees.{PlainStep}
use Rattle.jd_spelled_steps.specs.Laws.{ConditionsHold, StepsHaveInstances, StepsKeepSpelled}
use Rattle.jd_spelled_steps.specs.Rows.{AddedAreSpelled, AllAreMet, AllKeep, AssumedAreSpelled, ConditionsAreMet, FormulaIsReplaced, FoundIsNarrow, FoundIsSpelled, GivenAreSpelled, GivenIsSpelled, GoalsAreSpelled, GoalsHaveInstances, RowKeeps, TermIsReplaced}
use Rattle.jd_spelled_trees.proofs.FromKnown.{narrow_formula, narrow_term, spelled_formula, spelled_term}
use Rattle.jd_spelled_trees.proofs.Places.{taken_is_narrow, taken_is_spelled}
use Rattle.jd_spelled_trees.proofs.ToKnown.{known_formula}
use Rattle.jd_spelled_trees.proofs.Words.{constant_is_known, literal_is_known, variable_is_known}
use Rattle.jd_spelled_trees.specs.Laws.{PlacesAreSpelled}
use Rattle.jd_spelled_trees.specs.Places.{AreSpelled, IsSpelledAt, IsSpelledSequent, IsTermSpelledAt, NarrowSequent, SpelledFormulas, SpelledSequent}
use Rattle.jd_spelled_trees.specs.Spelled.{NarrowFormula, SpelledFormula}
use Rattle.jd_syntax.specs.Sxs.{Bracketed}
use Rattle.jd_taclet_scripts.proofs.Steps.{all_asked}
use Rattle.jd_taclet_scripts.specs.Causes.{IsAdmittedBy}
use Rattle.jd_taclet_scripts.specs.Given.{EachIsGiven, IsGiven}
use Rattle.jd_taclet_scripts.specs.Places.{AreAssumedAt, IsFoundAt}
use Rattle.jd_taclet_scripts.specs.Steps.{IsStepOfRow, goal_at, instead_of, premises_of, replaced_at, row_named, with_replaced}
use Rattle.jd_taclet_stages.specs.Laws.{AreMet}
use Rattle.jd_taclet_steps.specs.Steps.{extended}
use Rattle.jd_taclets.specs.Taclets.{AFormula, ANumber, ATerm, AtFormula, AtTerm, FormulaFind, Free, InstForm, InstVar, NewConstant, NewVariable, OnLeft, OnRight, Pattern, Taclet, TacletGoal, TacletKind, TermFind, added, asked_sort}
use Rattle.jd_term.specs.FormulaSizes.{formula_depth, formula_size}
use Rattle.jd_term.specs.Formulas.{PlainFormula}
use Rattle.jd_tforms.proofs.Words.{integer_is}
use Rattle.jd_tforms.specs.Laws.{Answers}
use Rattle.jd_tforms.specs.Shapes.{integer_of, wide}
use Rattle.jd_tgrammar.specs.NameTables.{NameTable}
use Rattle.jd_told_programs.specs.Told.{told_setting}

-- ---- what is given

module _ (answers : Answers) (t : PlainTask) (p : Program) (σ : Instance) where
  one_given : (n : SchemaVar) (f : InstForm) (x : Bracketed) → IsGiven t p σ (record { name = n; form = f }) x → GivenIsSpelled (names_of t) p σ (record { name = n; form = f })
  one_given n AFormula x h =
      let is = (answers.formula (names_of t) x (σ.formula n)).0 h in
      (spelled_formula (names_of t) [] (σ.formula n) is.known is.sorted, narrow_formula (names_of t) [] (σ.formula n) is.known)
  one_given n ANumber x h = literal_is_known (names_of t) (σ.literal n) (ap (integer_of wide) (integer_is wide h.0 (σ.literal n) h.2) ∙ h.2)
  one_given n (ATerm s) x h =
      let is = (answers.term (names_of t) (asked_sort p σ s) x (σ.term n)).0 h in
      (spelled_term (names_of t) [] (σ.term n) is.known is.sorted, narrow_term (names_of t) [] (σ.term n) is.known)
  one_given n (NewConstant s) x h = constant_is_known (names_of t) h.0 (σ.name n) h.2
  one_given n (NewVariable s) x h = variable_is_known (names_of t) h.0 (σ.name n) h.2

  given_spelled : (vs : List InstVar) (given : List (List ℕ × Bracketed)) → EachIsGiven t p σ vs given → GivenAreSpelled (names_of t) p σ vs
  given_spelled [] given h = tt
  given_spelled (v ∷ vs) given h = (one_given v.name v.form h.0.0 h.0.2, given_spelled vs given h.1)

-- ---- premises within the limits are taken again

module _ (names : NameTable) where
  small_is_taken : (l : List PlainFormula) → SpelledFormulas names l → list_all is_small_formula l ≡ true → AreSpelled names l
  small_is_taken [] h e = tt
  small_is_taken (a ∷ l) h e =
      let f = and_parts (is_small_formula a) (list_all is_small_formula l) e in
      let g = and_parts (nat_le (formula_size a) 100000) (nat_le (formula_depth a) 1000) f.0 in
      (known_formula names [] a h.0 (omega (arith, leb-true (formula_depth a) 1000 g.1)), small_is_taken l h.1 f.1)

  within_is_taken : (s : PlainSequent) → SpelledSequent names s → IsWithinLimits s → IsSpelledSequent names s
  within_is_taken s h w = (small_is_taken s.left h.0 w.left, small_is_taken s.right h.1 w.right)

  abbrev EachSpelled : List PlainSequent → Type 0
  EachSpelled [] = Unit {0}
  EachSpelled (s ∷ l) = SpelledSequent names s × EachSpelled l

  all_taken : (l : List PlainSequent) → EachSpelled l → All IsWithinLimits l → All (IsSpelledSequent names) l
  all_taken [] h w = All-nil (IsSpelledSequent names)
  all_taken (s ∷ l) h w = All-cons (IsSpelledSequent names) s l (within_is_taken s h.0 (All-head IsWithinLimits s l w)) (all_taken l h.1 (All-tail IsWithinLimits s l w))

  -- ---- sequents with other formulas

  both_spelled : (l m : List PlainFormula) → SpelledFormulas names l → SpelledFormulas names m → SpelledFormulas names (l ++ m)
  both_spelled [] m h k = k
  both_spelled (a ∷ l) m h k = (h.0, both_spelled l m h.1 k)

  instead_spelled : (l : List PlainFormula) (n : ℕ) (m : List PlainFormula) → SpelledFormulas names l → SpelledFormulas names m → SpelledFormulas names (instead_of l n m)
  instead_spelled [] n m h k = tt
  instead_spelled (a ∷ l) zero m h k = h
  instead_spelled (a ∷ l) (suc zero) m h k = both_spelled m l k h.1
  instead_spelled (a ∷ l) (suc (suc n)) m h k = (h.0, instead_spelled l (suc n) m h.1 k)

  extended_spelled : (s n : PlainSequent) → SpelledSequent names s → SpelledSequent names n → SpelledSequent names (extended s n)
  extended_spelled s n h k = (both_spelled s.left n.left h.0 k.0, both_spelled s.right n.right h.1 k.1)

  replaced_spelled : (side : Side) (k : ℕ) (s n : PlainSequent) → SpelledSequent names s → SpelledSequent names n → SpelledSequent names (replaced_at side k s n)
  replaced_spelled Left k s n h m = (instead_spelled s.left k n.left h.0 m.0, both_spelled s.right n.right h.1 m.1)
  replaced_spelled Right k s n h m = (both_spelled s.left n.left h.0 m.0, instead_spelled s.right k n.right h.1 m.1)

  chosen_spelled : (keep : Bool) (s q : PlainSequent) → SpelledSequent names s → SpelledSequent names q → SpelledSequent names (cond keep s q)
  chosen_spelled true s q h k = h
  chosen_spelled false s q h k = k

-- ---- what is found, and what stands in its place

module _ (places : PlacesAreSpelled) (names : NameTable) (p : Program) (σ : Instance) (s : PlainSequent) (spelled : SpelledSequent names s) (narrow : NarrowSequent s) where
  -- a whole formula is under no binder
  whole_spelled : (q : PlainPlace) (a : PlainFormula) → q.path ≡ [] → at_place s q ≡ Some (FormulaPart a) → SpelledFormula names [] a × NarrowFormula a
  whole_spelled q a path e =
      let at = places.formula names s q a spelled e in
      (subst (λ c. SpelledFormula names c a) (at.whole path) at.spelled, at.narrow narrow)

  assumed_spelled : (own : Option PlainPlace) (l : List (Side × FormulaPattern)) (qs : List (Option PlainPlace)) → AreAssumedAt p σ s own l qs → AssumedAreSpelled names p σ l
  assumed_spelled own [] qs h = tt
  assumed_spelled own (a ∷ l) (Some q ∷ qs) h = (whole_spelled q (of_formula p σ a.1) h.0.1 h.0.2, assumed_spelled own l qs h.1)
  assumed_spelled own (a ∷ l) (None ∷ qs) h = absurd h
  assumed_spelled own (a ∷ l) [] h = absurd h

  -- the binders around what is found
  abbrev IsFoundSpelled : TacletKind → Option Pattern → Type 0
  IsFoundSpelled k f = (ctx : List Sort) × FoundIsSpelled names p σ ctx k f × FoundIsNarrow p σ f

  found_spelled : (k : TacletKind) (f : Option Pattern) (own : Option PlainPlace) → IsFoundAt p σ s k f own → IsFoundSpelled k f
  found_spelled OnLeft (Some (FormulaFind a)) (Some q) e = let h = whole_spelled q (of_formula p σ a) e.1 e.2 in ([], h.0, h.1)
  found_spelled OnRight (Some (FormulaFind a)) (Some q) e = let h = whole_spelled q (of_formula p σ a) e.1 e.2 in ([], h.0, h.1)
  found_spelled AtFormula (Some (FormulaFind a)) (Some q) e = let at = places.formula names s q (of_formula p σ a) spelled e in (at.binders, at.spelled, at.narrow narrow)
  found_spelled AtTerm (Some (TermFind t)) (Some q) e = let at = places.term names s q (of_term p σ t) spelled e in (at.binders, at.spelled, at.narrow narrow)
  found_spelled Free None None e = ([], tt, tt)
  found_spelled k f own e = absurd e

  goals_spelled : (q : PlainPlace) (ns : List TacletGoal) → AddedAreSpelled names p σ ns → EachSpelled names (map (goal_at p σ s q) ns)
  goals_spelled q [] h = tt
  goals_spelled q (n ∷ ns) h = (
    chosen_spelled names n.keep (extended s (added p σ n)) (replaced_at q.side q.index s (added p σ n)) (extended_spelled names s (added p σ n) spelled h.0) (replaced_spelled names q.side q.index s (added p σ n) spelled h.0),
    goals_spelled q ns h.1,
  )

  free_spelled : (ns : List TacletGoal) → AddedAreSpelled names p σ ns → EachSpelled names (map (λ n. extended s (added p σ n)) ns)
  free_spelled [] h = tt
  free_spelled (n ∷ ns) h = (extended_spelled names s (added p σ n) spelled h.0, free_spelled ns h.1)

  formula_replaced : (q : PlainPlace) (a : PlainFormula) (at : IsSpelledAt names s q a) (f : Option Pattern) → FormulaIsReplaced names p σ at.binders f → SpelledSequent names (with_replaced p σ s q f)
  formula_replaced q a at None h = absurd h
  formula_replaced q a at (Some (FormulaFind c)) h = at.again (of_formula p σ c) h
  formula_replaced q a at (Some (TermFind u)) h = absurd h

  term_replaced : (q : PlainPlace) (t : TermPattern) (at : IsTermSpelledAt names s q (of_term p σ t)) (f : Option Pattern) → TermIsReplaced names p σ at.binders t f → SpelledSequent names (with_replaced p σ s q f)
  term_replaced q t at None h = absurd h
  term_replaced q t at (Some (FormulaFind c)) h = absurd h
  term_replaced q t at (Some (TermFind u)) h = at.again (of_term p σ u) h

  -- where the goals are spelled under the binders around what is found, the premises are spelled
  premises_spelled : (k : TacletKind) (f : Option Pattern) (own : Option PlainPlace) (ns : List TacletGoal) → IsFoundAt p σ s k f own → ((ctx : List Sort) → FoundIsSpelled names p σ ctx k f → FoundIsNarrow p σ f → GoalsAreSpelled names p σ ctx k f ns) → EachSpelled names (premises_of p σ s k own ns)
  premises_spelled OnLeft (Some (FormulaFind a)) (Some q) ns e go = let h = whole_spelled q (of_formula p σ a) e.1 e.2 in goals_spelled q ns (go [] h.0 h.1)
  premises_spelled OnRight (Some (FormulaFind a)) (Some q) ns e go = let h = whole_spelled q (of_formula p σ a) e.1 e.2 in goals_spelled q ns (go [] h.0 h.1)
  premises_spelled AtFormula (Some (FormulaFind a)) (Some q) [] e go = tt
  premises_spelled AtFormula (Some (FormulaFind a)) (Some q) (n ∷ []) e go =
      let at = places.formula names s q (of_formula p σ a) spelled e in
      (formula_replaced q (of_formula p σ a) at n.replace (go at.binders at.spelled (at.narrow narrow)), tt)
  premises_spelled AtFormula (Some (FormulaFind a)) (Some q) (n ∷ (m ∷ ns)) e go =
      let at = places.formula names s q (of_formula p σ a) spelled e in
      absurd (go at.binders at.spelled (at.narrow narrow))
  premises_spelled AtTerm (Some (TermFind t)) (Some q) [] e go = tt
  premises_spelled AtTerm (Some (TermFind t)) (Some q) (n ∷ []) e go =
      let at = places.term names s q (of_term p σ t) spelled e in
      (term_replaced q t at n.replace (go at.binders at.spelled (at.narrow narrow)), tt)
  premises_spelled AtTerm (Some (TermFind t)) (Some q) (n ∷ (m ∷ ns)) e go =
      let at = places.term names s q (of_term p σ t) spelled e in
      absurd (go at.binders at.spelled (at.narrow narrow))
  premises_spelled Free None None ns e go = free_spelled ns (go [] tt tt)
  premises_spelled k f own ns e go = absurd e

-- ---- steps of a row

module _ (places : PlacesAreSpelled) (answers : Answers) where
  row_keeps : (r : Taclet) → RowKeeps r → (t : PlainTask) (s : PlainSequent) → IsSpelledSequent (names_of t) s → (step : PlainStep) (premises : List PlainSequent) → IsStepOfRow r t s step premises → EachSpelled (names_of t) premises
  row_keeps r keeps t s taken step premises is =
      let g = told_setting t in
      let σ = is.instance in
      let spelled = taken_is_spelled (names_of t) s taken in
      let narrow = taken_is_narrow (names_of t) s taken in
      subst (EachSpelled (names_of t)) (sym is.premises_are)
      (premises_spelled places (names_of t) g.program σ s spelled narrow r.kind r.find step.place r.goals is.found
      (λ ctx found small. (keeps (names_of t) g σ ctx (record {
        found = found;
        narrow = small;
        assumed = assumed_spelled places (names_of t) g.program σ s spelled narrow step.place r.assumes step.assumes is.assumed;
        given = given_spelled answers t g.program σ r.insts step.insts is.given.each;
        asked = all_asked answers t g.program σ r.insts step.insts is.given.each;
        find_fits = is.find_fits;
        assumed_fit = is.assumed_fit;
        conds = is.conds;
      })).0))

  row_has_instances : (r : Taclet) → RowKeeps r → (t : PlainTask) (s : PlainSequent) → IsSpelledSequent (names_of t) s → (step : PlainStep) (σ : Instance) → IsAdmittedBy r t s step σ → GoalsHaveInstances (told_setting t).program σ r.goals
  row_has_instances r keeps t s taken step σ is =
      let g = told_setting t in
      let spelled = taken_is_spelled (names_of t) s taken in
      let narrow = taken_is_narrow (names_of t) s taken in
      let assumed = is.new.assumed in
      let given = assumed.given in
      let found = found_spelled places (names_of t) g.program σ s spelled narrow r.kind r.find step.place given.found.found in
      (keeps (names_of t) g σ found.0 (record {
        found = found.1;
        narrow = found.2;
        assumed = assumed_spelled places (names_of t) g.program σ s spelled narrow step.place r.assumes step.assumes assumed.assumed;
        given = given_spelled answers t g.program σ r.insts step.insts given.given.each;
        asked = all_asked answers t g.program σ r.insts step.insts given.given.each;
        find_fits = given.found.fits;
        assumed_fit = assumed.fit;
        conds = is.conds;
      })).1

  row_is_met : (r : Taclet) → ConditionsAreMet r → (t : PlainTask) (s : PlainSequent) → IsSpelledSequent (names_of t) s → (step : PlainStep) → AreMet r t s step
  row_is_met r met t s taken step σ is =
      let g = told_setting t in
      let found = found_spelled places (names_of t) g.program σ s (taken_is_spelled (names_of t) s taken) (taken_is_narrow (names_of t) s taken) r.kind r.find step.place is.found in
      met (names_of t) g σ found.0 found.1

-- ---- the row of a name is one of the rows

module _ (P : Taclet → Type 0) (Each : List Taclet → Type 0) (apart : (r : Taclet) (rs : List Taclet) → Each (r ∷ rs) → P r × Each rs) where
  row_of : (rows : List Taclet) → Each rows → (name : List ℕ) (r : Taclet) → row_named rows name ≡ Some r → P r
  row_of [] h name r e = absurd (none-some r e)
  row_of (x ∷ rows) h name r e = by (apart x rows h) (row_of rows) (bytes_eq x.name name) e
    where
      by : P x × Each rows → (Each rows → (n : List ℕ) (q : Taclet) → row_named rows n ≡ Some q → P q) → (b : Bool) → cond b (Some x) (row_named rows name) ≡ Some r → P r
      by k more true e = subst P (same_Some x r e) k.0
      by k more false e = more k.1 name r e

module _ (places : PlacesAreSpelled) (answers : Answers) where
  pub steps_keep : StepsKeepSpelled
  steps_keep = record {
    of_row = λ r keeps t s taken step premises is within. all_taken (names_of t) premises (row_keeps places answers r keeps t s taken step premises is) within;
    of_table = λ rows keep t s taken step premises is within.
        all_taken (names_of t) premises (row_keeps places answers is.row (row_of RowKeeps AllKeep (λ r rs h. h) rows keep step.rule is.row is.named) t s taken step premises is.is_step) within;
  }

  pub steps_have_instances : StepsHaveInstances
  steps_have_instances = record {
    of_row = row_has_instances places answers;
    of_table = λ rows keep name r named. row_has_instances places answers r (row_of RowKeeps AllKeep (λ q rs h. h) rows keep name r named);
  }

  pub conditions_hold : ConditionsHold
  conditions_hold = record {
    of_row = row_is_met places answers;
    of_table = λ rows met name r named. row_is_met places answers r (row_of ConditionsAreMet AllAreMet (λ q rs h. h) rows met name r named);
  }

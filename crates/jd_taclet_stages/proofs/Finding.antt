-- The first stage decides what is found, and the causes up to the fifth.
use Rattle.std.proofs.Common.{Bool, Decides, List, None, Option, Some, ap, false, inl, inr, is_some, not, refl, subst, sym, true, true≢false, ◌&&◌, ◌↔◌, ◌≡◌, ◌∙◌, ◌∷◌, ◌⊎◌, ℕ, []}
use Rattle.std.proofs.lemmas.Bool.{not-false}
use Rattle.std.proofs.lemmas.Option.{IfSome_then, none-some, same_Some}
use Rattle.std.specs.Option.{IfSome, option_and_then}
use Rattle.jd_model.specs.Places.{FormulaPart, LocPart, Part, TermPart, at_place, numbered, on_side, part_at}
use Rattle.jd_model.specs.Programs.{Program}
use Rattle.jd_model.specs.Sequents.{PlainPlace, PlainSequent}
use Rattle.jd_model.specs.declared.sequent.Side.{Side}
use Rattle.jd_model.specs.declared.sequent.Side.TheVariants.{Left, Right}
use Rattle.jd_pattern_laws.proofs.Binding.{formula_binds, term_binds}
use Rattle.jd_pattern_laws.proofs.Chosen.{bind_once}
use Rattle.jd_pattern_laws.proofs.Exact.{alike}
use Rattle.jd_pattern_laws.proofs.Keeping.{formula_keeps, term_keeps}
use Rattle.jd_pattern_laws.specs.Laws.{Binds, MakesFormula, MakesTerm, MatchingIsExact}
use Rattle.jd_patterns.specs.Bindings.{Exactly, Tests, Within}
use Rattle.jd_patterns.specs.Chosen.{AllBound, BoundOnce, chosen}
use Rattle.jd_patterns.specs.Instances.{Instance, of_formula, of_term}
use Rattle.jd_patterns.specs.Matching.{match_formula, match_term}
use Rattle.jd_patterns.specs.Patterns.{FormulaPattern}
use Rattle.jd_sequent.specs.declared.bad.Bad.TheVariants.{NoFormula, NoMatch, WrongPlaceKind}
use Rattle.jd_taclet_scripts.specs.Causes.{ActsOn, HasNoFormula, HasNoPlace, IsOfWrongKind}
use Rattle.jd_taclet_scripts.specs.Places.{IsFoundAt, MayStandAt, is_calm_place}
use Rattle.jd_taclet_stages.proofs.Deciding.{always, both, empty_decides, formula_same, never, no_cons, no_value, not_some, sides_decide}
use Rattle.jd_taclet_stages.proofs.Leading.{IsRefusal, Leads, NoneBelow, Reached, first, goes, one_more, where_so}
use Rattle.jd_taclet_stages.specs.Ready.{fits_kind, maybe_variables}
use Rattle.jd_taclet_stages.specs.Stages.{Goes, acts_on, found_at, found_stage, going, is_empty, is_side, matched, may_stand}
use Rattle.jd_taclets.specs.Taclets.{AtFormula, AtTerm, FitsFind, FormulaFind, Free, IsFind, OnLeft, OnRight, Pattern, Taclet, TacletKind, TermFind}
use Rattle.jd_term.specs.Formulas.{PlainFormula}
use Rattle.jd_term.specs.Terms.{PlainTerm}

term_same : {x y : PlainTerm} → Some (TermPart x) ≡ Some (TermPart y) → x ≡ y
term_same e = cc

-- ---- what rows act on

acts_decides : (k : TacletKind) (q : PlainPlace) (x : Part) → Decides (acts_on k q x) (ActsOn k q x)
acts_decides OnLeft q (FormulaPart a) = both (is_side q.side Left) (is_empty q.path) (q.side ≡ Left) (q.path ≡ []) (sides_decide q.side Left) (empty_decides q.path)
acts_decides OnRight q (FormulaPart a) = both (is_side q.side Right) (is_empty q.path) (q.side ≡ Right) (q.path ≡ []) (sides_decide q.side Right) (empty_decides q.path)
acts_decides AtFormula q (FormulaPart a) = always
acts_decides AtTerm q (TermPart t) = always
acts_decides k q x = never

calm_where : {A : Type 0} {x : A} {l : List A} (b : Bool) → ((x ∷ l) ≡ []) ⊎ (b ≡ true) → b ≡ true
calm_where b (inl e) = absurd (no_cons e)
calm_where b (inr e) = e

may_decides : (l : List (Side × FormulaPattern)) (s : PlainSequent) (q : PlainPlace) → Decides (may_stand l s q) (MayStandAt l s (Some q))
may_decides [] s q = (λ e. inl refl, λ h. refl)
may_decides (a ∷ l) s q = (λ e. inr e, λ h. calm_where (is_calm_place s q) h)

-- ---- what is found

module _ (p : Program) (s : PlainSequent) (σ : Instance) where
  acts_there : (k : TacletKind) (f : Option Pattern) (q : PlainPlace) → IsFoundAt p σ s k f (Some q) → (x : Part) × (at_place s q ≡ Some x) × ActsOn k q x
  acts_there OnLeft (Some (FormulaFind a)) q h = (FormulaPart (of_formula p σ a), h.2, (h.0, h.1))
  acts_there OnRight (Some (FormulaFind a)) q h = (FormulaPart (of_formula p σ a), h.2, (h.0, h.1))
  acts_there AtFormula (Some (FormulaFind a)) q h = (FormulaPart (of_formula p σ a), h, tt)
  acts_there AtTerm (Some (TermFind t)) q h = (TermPart (of_term p σ t), h, tt)
  acts_there Free None q h = absurd h
  acts_there k f q h = absurd h

  none_there : (k : TacletKind) (f : Option Pattern) → IsFoundAt p σ s k f None → f ≡ None
  none_there OnLeft None h = absurd h
  none_there OnLeft (Some (FormulaFind a)) h = absurd h
  none_there OnLeft (Some (TermFind t)) h = absurd h
  none_there OnRight None h = absurd h
  none_there OnRight (Some (FormulaFind a)) h = absurd h
  none_there OnRight (Some (TermFind t)) h = absurd h
  none_there AtFormula None h = absurd h
  none_there AtFormula (Some (FormulaFind a)) h = absurd h
  none_there AtFormula (Some (TermFind t)) h = absurd h
  none_there AtTerm None h = absurd h
  none_there AtTerm (Some (FormulaFind a)) h = absurd h
  none_there AtTerm (Some (TermFind t)) h = absurd h
  none_there Free None h = refl
  none_there Free (Some x) h = absurd h

  free_found : (k : TacletKind) → fits_kind k None ≡ true → IsFoundAt p σ s k None None
  free_found Free e = tt
  free_found k e = absurd (true≢false (sym e))

-- ---- what matches

module _ (matching : MatchingIsExact) (w : Tests) (p : Program) (s : PlainSequent) (σ : Instance) where
  formula_law : (a : FormulaPattern) (q : PlainPlace) (y : PlainFormula) → IsFind (Some (FormulaFind a)) → at_place s q ≡ Some (FormulaPart y) → Exactly σ [] ((at_place s q ≡ Some (FormulaPart (of_formula p σ a))) × FitsFind p σ (Some (FormulaFind a))) (match_formula w a y [])
  formula_law a q y find e = alike σ [] (MakesFormula p σ a y) _ (match_formula w a y [])
      (λ m. (e ∙ ap (λ z. Some (FormulaPart z)) (sym m.1), m.0))
      (λ h. (h.1, formula_same (sym h.0 ∙ e)))
      (matching.of_formulas p w σ [] a y find)

  whole_law : (a : FormulaPattern) (q : PlainPlace) (y : PlainFormula) → IsFind (Some (FormulaFind a)) → at_place s q ≡ Some (FormulaPart y) → (side : Side) → (q.side ≡ side) × (q.path ≡ []) → Exactly σ [] (((q.side ≡ side) × (q.path ≡ []) × (at_place s q ≡ Some (FormulaPart (of_formula p σ a)))) × FitsFind p σ (Some (FormulaFind a))) (match_formula w a y [])
  whole_law a q y find e side on = alike σ [] ((at_place s q ≡ Some (FormulaPart (of_formula p σ a))) × FitsFind p σ (Some (FormulaFind a))) _ (match_formula w a y [])
      (λ m. ((on.0, on.1, m.0), m.1))
      (λ h. (h.0.2, h.1))
      (formula_law a q y find e)

  matched_law : (k : TacletKind) (f : Option Pattern) (q : PlainPlace) (x : Part) → fits_kind k f ≡ true → IsFind f → at_place s q ≡ Some x → ActsOn k q x → Exactly σ [] (IsFoundAt p σ s k f (Some q) × FitsFind p σ f) (matched w f x)
  matched_law OnLeft (Some (FormulaFind a)) q (FormulaPart y) fit find e on = whole_law a q y find e Left on
  matched_law OnLeft (Some (FormulaFind a)) q (TermPart y) fit find e on = absurd on
  matched_law OnLeft (Some (FormulaFind a)) q (LocPart y) fit find e on = absurd on
  matched_law OnLeft (Some (TermFind t)) q x fit find e on = absurd (true≢false (sym fit))
  matched_law OnLeft None q x fit find e on = absurd (true≢false (sym fit))
  matched_law OnRight (Some (FormulaFind a)) q (FormulaPart y) fit find e on = whole_law a q y find e Right on
  matched_law OnRight (Some (FormulaFind a)) q (TermPart y) fit find e on = absurd on
  matched_law OnRight (Some (FormulaFind a)) q (LocPart y) fit find e on = absurd on
  matched_law OnRight (Some (TermFind t)) q x fit find e on = absurd (true≢false (sym fit))
  matched_law OnRight None q x fit find e on = absurd (true≢false (sym fit))
  matched_law AtFormula (Some (FormulaFind a)) q (FormulaPart y) fit find e on = formula_law a q y find e
  matched_law AtFormula (Some (FormulaFind a)) q (TermPart y) fit find e on = absurd on
  matched_law AtFormula (Some (FormulaFind a)) q (LocPart y) fit find e on = absurd on
  matched_law AtFormula (Some (TermFind t)) q x fit find e on = absurd (true≢false (sym fit))
  matched_law AtFormula None q x fit find e on = absurd (true≢false (sym fit))
  matched_law AtTerm (Some (TermFind t)) q (TermPart y) fit find e on = alike σ [] (MakesTerm p σ t y) _ (match_term w t y [])
      (λ m. (e ∙ ap (λ z. Some (TermPart z)) (sym m.1), m.0))
      (λ h. (h.1, term_same (sym h.0 ∙ e)))
      (matching.of_terms p w σ [] t y find)
  matched_law AtTerm (Some (TermFind t)) q (FormulaPart y) fit find e on = absurd on
  matched_law AtTerm (Some (TermFind t)) q (LocPart y) fit find e on = absurd on
  matched_law AtTerm (Some (FormulaFind a)) q x fit find e on = absurd (true≢false (sym fit))
  matched_law AtTerm None q x fit find e on = absurd (true≢false (sym fit))
  matched_law Free f q x fit find e on = absurd on

module _ (w : Tests) where
  matched_once : (f : Option Pattern) (x : Part) → IfSome (matched w f x) (BoundOnce w)
  matched_once (Some (FormulaFind a)) (FormulaPart x) = formula_keeps w (BoundOnce w) (bind_once w) a x [] tt
  matched_once (Some (TermFind t)) (TermPart x) = term_keeps w (BoundOnce w) (bind_once w) t x [] tt
  matched_once f x = tt

  matched_binds : (f : Option Pattern) (x : Part) → IfSome (matched w f x) (Binds (maybe_variables f) [])
  matched_binds (Some (FormulaFind a)) (FormulaPart x) = formula_binds w a x []
  matched_binds (Some (TermFind t)) (TermPart x) = term_binds w t x []
  matched_binds f x = tt

-- ---- the stage

module _ (matching : MatchingIsExact) (w : Tests) (p : Program) (s : PlainSequent) (r : Taclet) (cause : ℕ → Type 0) (Admitted : Instance → Type 0) where
  abbrev pub Found : Option PlainPlace → Instance → Type 0
  Found own σ = IsFoundAt p σ s r.kind r.find own × MayStandAt r.assumes s own × FitsFind p σ r.find

  -- the causes up to the fifth, for this place
  pub record AreFirst (own : Option PlainPlace) : Type 0 where
    pub unknown : cause 1 → ⊥
    pub no_formula : cause 2 ↔ HasNoFormula r.find s own
    pub no_place : cause 3 ↔ HasNoPlace s own
    pub wrong_kind : cause 4 ↔ IsOfWrongKind r.kind r.assumes s own
    pub no_match : cause 5 ↔ ((σ : Instance) → Found own σ → ⊥)
    pub admitted : (σ : Instance) → Admitted σ → Found own σ

  abbrev Stage : Option PlainPlace → Type 0
  Stage own = Leads w cause Admitted (Found own) (maybe_variables r.find) 6 (found_stage w r s own)

  below_2 : (own : Option PlainPlace) → AreFirst own → NoneBelow cause 2
  below_2 own c = one_more cause 1 (first cause) c.unknown

  -- ---- no place

  module _ (fit : fits_kind r.kind r.find ≡ true) (c : AreFirst None) where
    no_find : (not (is_some r.find) ≡ false) → r.find ≡ None → ⊥
    no_find e n = true≢false (sym (not-false (is_some r.find) e) ∙ ap is_some n)

    none_found : r.find ≡ None → (σ : Instance) → Found None σ
    none_found n σ = (
      subst (λ f. IsFoundAt p σ s r.kind f None) (sym n) (free_found p s σ r.kind (subst (λ f. fits_kind r.kind f ≡ true) n fit)),
      tt,
      subst (FitsFind p σ) (sym n) tt,
    )

    below_6 : r.find ≡ None → NoneBelow cause 6
    below_6 n =
        one_more cause 5
        (one_more cause 4
        (one_more cause 3
        (one_more cause 2 (below_2 None c) (λ h. c.no_formula.0 h n))
        (λ h. c.no_place.0 h))
        (λ h. c.wrong_kind.0 h))
        (λ h. c.no_match.0 h (chosen w []) (none_found n (chosen w [])))

    at_none : not (is_some r.find) ≡ true → Reached w cause (Found None) (maybe_variables r.find) 6 []
    at_none e = let n = not_some r.find e in record {
      none_below = below_6 n;
      once = tt;
      bound = subst (λ f. AllBound (maybe_variables f) []) (sym n) tt;
      has = λ σ a. none_found n σ;
      agrees = λ σ f. tt;
    }

    without_place : Stage None
    without_place = where_so w cause Admitted (Found None) (maybe_variables r.find) 6 NoFormula (not (is_some r.find)) (Goes [])
        (λ e. ((c.no_formula.1 (no_find e), below_2 None c), λ σ a. no_find e (none_there p s σ r.kind r.find (c.admitted σ a).0)))
        at_none

  -- ---- a place

  module _ (fit : fits_kind r.kind r.find ≡ true) (find : IsFind r.find) (q : PlainPlace) (c : AreFirst (Some q)) where
    -- something stands there under which an instantiation is admitted
    admitted_there : (σ : Instance) → Admitted σ → (x : Part) × (at_place s q ≡ Some x) × ActsOn r.kind q x
    admitted_there σ a = acts_there p s σ r.kind r.find q (c.admitted σ a).0

    module _ (there : HasNoFormula r.find s (Some q) → ⊥) where
      below_3 : NoneBelow cause 3
      below_3 = one_more cause 2 (below_2 (Some q) c) (λ h. there (c.no_formula.0 h))

      module _ (x : Part) (e : at_place s q ≡ Some x) where
        below_4 : NoneBelow cause 4
        below_4 = one_more cause 3 below_3 (λ h. none-some x (sym (c.no_place.0 h) ∙ e))

        fitting : Decides (acts_on r.kind q x && may_stand r.assumes s q) (ActsOn r.kind q x × MayStandAt r.assumes s (Some q))
        fitting = both (acts_on r.kind q x) (may_stand r.assumes s q) (ActsOn r.kind q x) (MayStandAt r.assumes s (Some q)) (acts_decides r.kind q x) (may_decides r.assumes s q)

        -- an instantiation that is admitted makes rows of the kind act on it
        acts_for : (σ : Instance) → Admitted σ → ActsOn r.kind q x × MayStandAt r.assumes s (Some q)
        acts_for σ a =
            let h = admitted_there σ a in
            (subst (ActsOn r.kind q) (same_Some h.0 x (sym h.1 ∙ e)) h.2, (c.admitted σ a).1)

        wrong : (acts_on r.kind q x && may_stand r.assumes s q) ≡ false → IsRefusal w cause Admitted WrongPlaceKind
        wrong b = ((c.wrong_kind.1 (x, e, λ h. true≢false (sym (fitting.1 h) ∙ b)), below_4), λ σ a. true≢false (sym (fitting.1 (acts_for σ a)) ∙ b))

        module _ (fits : ActsOn r.kind q x × MayStandAt r.assumes s (Some q)) where
          part_of_wrong : IsOfWrongKind r.kind r.assumes s (Some q) → ⊥
          part_of_wrong h = h.2 (subst (ActsOn r.kind q) (same_Some x h.0 (sym e ∙ h.1)) fits.0, fits.1)

          below_5 : NoneBelow cause 5
          below_5 = one_more cause 4 below_4 (λ h. part_of_wrong (c.wrong_kind.0 h))

          exact : (σ : Instance) → (Found (Some q) σ → Within σ (matched w r.find x)) × (Within σ (matched w r.find x) → Found (Some q) σ)
          exact σ =
              let law : Exactly σ [] (IsFoundAt p σ s r.kind r.find (Some q) × FitsFind p σ r.find) (matched w r.find x) = matched_law matching w p s σ r.kind r.find q x fit find e fits.0 in
              (λ h. law.0 (tt, (h.0, h.2)), λ h. let y = law.1 h in (y.1.0, fits.1, y.1.1))

          at_match : Leads w cause Admitted (Found (Some q)) (maybe_variables r.find) 6 (going NoMatch (matched w r.find x))
          at_match = goes w cause Admitted (Found (Some q)) (maybe_variables r.find) 6 NoMatch (matched w r.find x) exact
              (matched_once w r.find x)
              (IfSome_then (matched w r.find x) (matched_binds w r.find x) (λ τ b. b.0))
              (λ n. (c.no_match.1 n, below_5))
              (λ σ f. one_more cause 5 below_5 (λ h. c.no_match.0 h σ f))
              c.admitted

      at_part : (x : Option Part) → at_place s q ≡ x → Leads w cause Admitted (Found (Some q)) (maybe_variables r.find) 6 (found_at w r s q x)
      at_part None e = ((c.no_place.1 e, below_3), λ σ a. let h = admitted_there σ a in none-some h.0 (sym e ∙ h.1))
      at_part (Some x) e = where_so w cause Admitted (Found (Some q)) (maybe_variables r.find) 6 WrongPlaceKind (acts_on r.kind q x && may_stand r.assumes s q) (going NoMatch (matched w r.find x))
          (wrong x e)
          (λ b. at_match x e ((fitting x e).0 b))

    -- nothing stands below a formula that is not there
    nowhere : numbered (on_side s q.side) q.index ≡ None → at_place s q ≡ None
    nowhere n = ap (option_and_then (λ a. part_at q.path (FormulaPart a))) n

    with_place : Stage (Some q)
    with_place = where_so w cause Admitted (Found (Some q)) (maybe_variables r.find) 6 NoFormula (is_some (numbered (on_side s q.side) q.index)) (found_at w r s q (at_place s q))
        (λ b. let n = no_value (numbered (on_side s q.side) q.index) b in ((c.no_formula.1 n, below_2 (Some q) c), λ σ a. let h = admitted_there σ a in none-some h.0 (sym (nowhere n) ∙ h.1)))
        (λ b. at_part (λ n. true≢false (sym b ∙ ap is_some n)) (at_place s q) refl)

  pub found_leads : fits_kind r.kind r.find ≡ true → IsFind r.find → (own : Option PlainPlace) → AreFirst own → Leads w cause Admitted (Found own) (maybe_variables r.find) 6 (found_stage w r s own)
  found_leads fit find None c = without_place fit c
  found_leads fit find (Some q) c = with_place fit find q c

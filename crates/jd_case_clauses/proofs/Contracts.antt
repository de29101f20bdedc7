-- What is made of all clauses is what the contract has.
use Rattle.std.proofs.Common.{◌≡◌, ◌<◌, inl, inr, ℕ, Bool, true, false, cond, List, [], ◌∷◌, ◌++◌, map, flat_map, Option, Some, None, Result, Ok, Err, IfErr, IsErrAnd, refl, sym, ap, subst, ◌∙◌}
use Rattle.std.specs.Option.{unwrap_or}
use Rattle.std.proofs.lemmas.List.{append-nil, map-append}
use Rattle.jd_syntax.specs.SpecTrees as clauses
use Rattle.jd_syntax.specs.SpecTrees.{PlainClause, PlainLocation}
use Rattle.jd_term.specs.Formulas.{PlainFormula, Implies}
use Rattle.jd_bodies.specs.Declarations.{Declarations}
use Rattle.jd_bodies.specs.declared.value.ValueType.{ValueType}
use Rattle.jd_term.specs.TermSizes.{loc_depth}
use Rattle.jd_model.specs.Cases.{Contract}
use Rattle.jd_model.specs.Programs.{Program}
use Rattle.jd_case_rows.specs.Rows.{instance_of_thrown, only_member, signalled_members}
use Rattle.jd_jml_formulas.specs.Meant.{formula_meant}
use Rattle.jd_jml_formulas.specs.declared.whole.Unmade.{Unmade}
use Rattle.jd_jml_formulas.specs.declared.whole.Unmade.TheVariants as causes
use Rattle.jd_jml_meaning.specs.ContractFormulas.{contract_of, contract_spelling}
use Rattle.jd_jml_meaning.specs.JmlContracts.{JmlContract}
use Rattle.jd_jml_meaning.specs.Meaning.{When, Now, Before}
use Rattle.jd_jml_meaning.specs.Resolved.{JmlExpr, JmlLocation}
use Rattle.jd_jml_meaning.specs.Translation.{Spelling, formula, locations, term}
use Rattle.jd_specifications.specs.Resolution.{Entry, location}
use Rattle.jd_specifications.specs.WrittenCases as plain
use Rattle.jd_case_clauses.specs.Frames.{all_assignable, assignable_term, says_assignable}
use Rattle.jd_case_clauses.specs.Said.{TellsOfOne, level_limit, made_of}
use Rattle.jd_case_clauses.specs.Signals.{only_in, signalled_in}
use Rattle.jd_case_clauses.specs.Whole.{SaysClauses, TellsOfCase}
use Rattle.jd_case_clauses.specs.declared.said.Kind.TheVariants as kinds

module _ (p : Program) (d : Declarations) (class : ℕ) (r : ValueType) (sp : Spelling) (es : List Entry) where
  pub required : (t : When) (cs : List PlainClause) → made_of (formula_meant p d class r sp t es) kinds.Requires cs ≡ map (formula p sp t) (plain.requires_of d class r es cs)
  required t [] = refl
  required t (clauses.Requires at e ∷ cs) = ap (λ l. formula_meant p d class r sp t es e ∷ l) (required t cs)
  required t (c ∷ cs) = required t cs

  pub ensured : (t : When) (cs : List PlainClause) → made_of (formula_meant p d class r sp t es) kinds.Ensures cs ≡ map (formula p sp t) (plain.ensures_of d class r es cs)
  ensured t [] = refl
  ensured t (clauses.Ensures at e ∷ cs) = ap (λ l. formula_meant p d class r sp t es e ∷ l) (ensured t cs)
  ensured t (c ∷ cs) = ensured t cs

  abbrev of_signal : ℕ × JmlExpr → ℕ × PlainFormula
  of_signal e = (e.0, formula p sp Now e.1)

  pub signalled : (cs : List PlainClause) → flat_map (signalled_in p d class r sp es) cs ≡ signalled_members (map of_signal (plain.signals_of d class r es cs))
  signalled [] = refl
  signalled (clauses.Signals at c x e ∷ cs) = ap (λ l. Implies (instance_of_thrown (plain.class_of d c)) (formula_meant p d class r sp Now (plain.with_exception d x (plain.class_of d c) es) e) ∷ l) (signalled cs)
  signalled (c ∷ cs) = signalled cs

  pub only : (cs : List PlainClause) → flat_map (only_in d) cs ≡ map only_member (plain.signals_only_of d class r es cs)
  only [] = refl
  only (clauses.SignalsOnly at xs ∷ cs) = ap (λ l. only_member (map (plain.class_of d) xs) ∷ l) (only cs)
  only (c ∷ cs) = only cs

  -- what may be assigned
  abbrev L : PlainLocation → JmlLocation
  L l = location d class r es l

  abbrev said_if : Bool → List PlainLocation → Option (List JmlLocation)
  said_if b ls = cond b (Some (map L ls)) None

  nothing_said : (cs : List PlainClause) → says_assignable cs ≡ false → all_assignable cs ≡ []
  nothing_said [] e = refl
  nothing_said (clauses.Assignable at ls ∷ cs) e = absurd (wrong e)
    where
      wrong : true ≡ false → ⊥
      wrong q = cc
  nothing_said (c ∷ cs) e = nothing_said cs e

  assignable : (cs : List PlainClause) → plain.assignable_of d class r es cs ≡ said_if (says_assignable cs) (all_assignable cs)
  assignable [] = refl
  assignable (clauses.Assignable at ls ∷ cs) = ap (plain.with_locations d class r es (map L ls)) (assignable cs) ∙ by (says_assignable cs) refl
    where
      by : (b : Bool) → says_assignable cs ≡ b → plain.with_locations d class r es (map L ls) (said_if b (all_assignable cs)) ≡ Some (map L (ls ++ all_assignable cs))
      by true is = ap Some (sym (map-append L ls (all_assignable cs)))
      by false is = ap Some (ap (map L) (sym (append-nil ls) ∙ ap (λ l. ls ++ l) (sym (nothing_said cs is))))
  assignable (c ∷ cs) = assignable cs

  pub framed : (pure constructor : Bool) (cs : List PlainClause) → assignable_term p d class r sp es pure constructor cs ≡ locations p sp Before (unwrap_or (plain.assignable_of d class r es cs) (plain.assignable_else d pure constructor))
  framed pure constructor cs = by (says_assignable cs) ∙ ap (λ o. locations p sp Before (unwrap_or o (plain.assignable_else d pure constructor))) (sym (assignable cs))
    where
      by : (b : Bool) → cond b (locations p sp Before (map L (all_assignable cs))) (locations p sp Before (plain.assignable_else d pure constructor)) ≡ locations p sp Before (unwrap_or (said_if b (all_assignable cs)) (plain.assignable_else d pure constructor))
      by true = refl
      by false = refl

-- ---- by the contract

module _ (p : Program) (d : Declarations) (class : ℕ) (r : ValueType) (sp : Spelling) (es : List Entry) (pure constructor : Bool) (cs : List PlainClause) (k : JmlContract) (says : SaysClauses d class r es sp pure constructor cs k) where
  abbrev S : Spelling
  S = contract_spelling k.parameters k.result

  pub required_is : made_of (formula_meant p d class r sp Before es) kinds.Requires cs ≡ (contract_of p k).requires_
  required_is =
      required p d class r sp es Before cs
      ∙ ap (λ s. map (formula p s Before) (plain.requires_of d class r es cs)) says.spelling
      ∙ ap (map (formula p S Before)) (sym says.required)

  pub ensured_is : made_of (formula_meant p d class r sp Now es) kinds.Ensures cs ≡ (contract_of p k).ensures_
  ensured_is =
      ensured p d class r sp es Now cs
      ∙ ap (λ s. map (formula p s Now) (plain.ensures_of d class r es cs)) says.spelling
      ∙ ap (map (formula p S Now)) (sym says.ensured)

  pub signals_is : flat_map (signalled_in p d class r sp es) cs ≡ signalled_members (contract_of p k).signals
  signals_is =
      signalled p d class r sp es cs
      ∙ ap (λ s. signalled_members (map (λ (e : ℕ × JmlExpr). (e.0, formula p s Now e.1)) (plain.signals_of d class r es cs))) says.spelling
      ∙ ap (λ l. signalled_members (map (λ (e : ℕ × JmlExpr). (e.0, formula p S Now e.1)) l)) (sym says.signals)

  pub only_is : flat_map (only_in d) cs ≡ map only_member (contract_of p k).signals_only
  only_is = only p d class r sp es cs ∙ ap (map only_member) (sym says.signals_only)

  pub frame_is : assignable_term p d class r sp es pure constructor cs ≡ (contract_of p k).assignable
  frame_is =
      framed p d class r sp es pure constructor cs
      ∙ ap (λ s. locations p s Before (unwrap_or (plain.assignable_of d class r es cs) (plain.assignable_else d pure constructor))) says.spelling
      ∙ ap (locations p S Before) (sym says.assignable)

  pub measure_is : term p sp Before (plain.measure_of d class r es cs) ≡ (contract_of p k).measure
  measure_is = ap (λ s. term p s Before (plain.measure_of d class r es cs)) says.spelling ∙ ap (term p S Before) (sym says.measure)

-- ---- causes

module _ (limit : ℕ) (k : Contract) where
  pub of_required : (u : Unmade) → TellsOfOne limit k.requires_ u → TellsOfCase limit k u
  of_required causes.TooLarge large = inl (inl (inl large))
  of_required causes.NoMemory told = tt

  pub of_ensured : (u : Unmade) → TellsOfOne limit k.ensures_ u → TellsOfCase limit k u
  of_ensured causes.TooLarge large = inl (inl (inr large))
  of_ensured causes.NoMemory told = tt

  pub of_signals : (u : Unmade) → TellsOfOne limit (signalled_members k.signals) u → TellsOfCase limit k u
  of_signals causes.TooLarge large = inl (inr (inl large))
  of_signals causes.NoMemory told = tt

  pub of_only : (u : Unmade) → TellsOfOne limit (map only_member k.signals_only) u → TellsOfCase limit k u
  of_only causes.TooLarge large = inl (inr (inr large))
  of_only causes.NoMemory told = tt

  pub of_frame : (u : Unmade) → (u ≡ causes.TooLarge → level_limit < loc_depth k.assignable) → TellsOfCase limit k u
  of_frame causes.TooLarge large = inr (large refl)
  of_frame causes.NoMemory told = tt

  pub of_memory : (u : Unmade) → u ≡ causes.NoMemory → TellsOfCase limit k u
  of_memory causes.TooLarge e = absurd (wrong e)
    where
      wrong : causes.TooLarge ≡ causes.NoMemory → ⊥
      wrong q = cc
  of_memory causes.NoMemory e = tt

  pub told : {A : Type 0} (r : Result A Unmade) (u : Unmade) → IsErrAnd r (λ e. e ≡ u) → TellsOfCase limit k u → IfErr r (TellsOfCase limit k)
  told (Ok a) u same tells = tt
  told (Err e) u same tells = subst (TellsOfCase limit k) (sym same) tells

-- what a cause says where it is the one
pub cause_of : {A : Type 0} (P : Unmade → Type 0) (r : Result A Unmade) (u : Unmade) → r ≡ Err u → IfErr r P → P u
cause_of P r u is h = subst (λ i. IfErr i P) is h

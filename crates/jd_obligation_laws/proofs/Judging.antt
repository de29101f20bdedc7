-- The measure of a case of which no token is refused is an integer.
use Rattle.std.proofs.Common.{◌≡◌, inl, inr, ℕ, suc, true, false, List, [], ◌∷◌, ◌++◌, Option, Some, None, Ok, refl, sym, ap, subst, ◌∙◌}
use Rattle.jd_base.specs.declared.sort.Sort.TheVariants.{Int as IntSort, Ref as RefSort}
use Rattle.jd_syntax.specs.SpecTrees.{PlainSpec, PlainClause, Requires, Ensures, Signals, SignalsOnly, Assignable, MeasuredBy, Diverges, NormalBehavior, ExceptionalBehavior, Behavior, Also, PlainSpecBlock}
use Rattle.jd_syntax.specs.JavaTrees.{JavaMethod, JavaParameter}
use Rattle.jd_term.specs.Terms.{PlainTerm, sort_of_term}
use Rattle.jd_bodies.specs.Declarations.{Declarations}
use Rattle.jd_bodies.specs.Types.{fits}
use Rattle.jd_bodies.specs.Variables.{sort_of}
use Rattle.jd_bodies.specs.declared.value.ValueType.{ValueType}
use Rattle.jd_bodies.specs.declared.value.ValueType.TheVariants as types
use Rattle.jd_bodies.specs.declared.value.Variable.TheVariants as variables
use Rattle.jd_model.specs.Programs.{Program}
use Rattle.jd_specifications.specs.Clauses.{Around, Sofar, at_first, before, clause, clauses}
use Rattle.jd_specifications.specs.Refused.{blocks, gives, method, parameters, place_of}
use Rattle.jd_specifications.specs.Resolution.{Entry}
use Rattle.jd_specifications.specs.Scopes.{SpecLocal}
use Rattle.jd_specifications.specs.Types.{at_of, one, type_of, wanted}
use Rattle.jd_specifications.specs.WrittenCases.{all_clauses, cases_from, cases_of, entries, joined, measure_of, more, result_value, type_written}
use Rattle.jd_jml_meaning.specs.Meaning.{When, Before}
use Rattle.jd_jml_meaning.specs.Translation.{Spelling, term}
use Rattle.jd_jml_known.specs.Members.{FieldsHaveSorts}
use Rattle.jd_declared.proofs.Lists.{In}
use Rattle.jd_spoken.proofs.Expressions.{through, only}
use Rattle.jd_static_types.specs.Types.{IsKnown}
use Rattle.jd_obligation_laws.proofs.Fitting.{is_int}
use Rattle.jd_obligation_laws.proofs.Sorts.{Fit, has}

-- ---- measures are judged, clause by clause

module _ (d : Declarations) (a : Around) where
  pub record IsNumber (e : PlainSpec) : Type 0 where
    pub type : ValueType
    pub is : type_of d (before a) false a.locals e ≡ Ok type
    pub fit_ : fits d type types.Int ≡ true

  abbrev pub Measured : PlainClause → Type 0
  Measured (MeasuredBy at e) = IsNumber e
  Measured c = Unit {0}

  abbrev pub AllMeasured : List PlainClause → Type 0
  AllMeasured [] = Unit {0}
  AllMeasured (c ∷ cs) = Measured c × AllMeasured cs

  clause_measured : (s t : Sofar) (c : PlainClause) → clause d a s c ≡ Ok t → Measured c
  clause_measured s t (MeasuredBy at e) ok =
      let g = through _ (one d types.Int (at_of e) (type_of d (before a) false a.locals e)) t ok in
      let h = through (wanted d types.Int (at_of e)) (type_of d (before a) false a.locals e) g.0 g.1 in
      record { type = h.0; is = h.1; fit_ = only (fits d h.0 types.Int) (at_of e) _ types.Int g.0 h.2 }
  clause_measured s t c ok = tt

  both_measured : (cs ds : List PlainClause) → AllMeasured cs → AllMeasured ds → AllMeasured (cs ++ ds)
  both_measured [] ds h k = k
  both_measured (c ∷ cs) ds h k = (h.0, both_measured cs ds h.1 k)

  clauses_measured : (s t : Sofar) (cs : List PlainClause) → clauses d a s cs ≡ Ok t → AllMeasured cs
  clauses_measured s t [] e = tt
  clauses_measured s t (c ∷ cs) e = let g = through (λ q. clauses d a q cs) (clause d a s c) t e in (clause_measured s g.0 c g.1, clauses_measured g.0 t cs g.2)

  blocks_measured : (s t : Sofar) (bs : List PlainSpecBlock) → blocks d a s bs ≡ Ok t → AllMeasured (all_clauses bs)
  blocks_measured s t [] e = tt
  blocks_measured s t (b ∷ bs) e =
      let g = through (λ q. blocks d a q bs) (clauses d a s b.clauses) t e in
      both_measured b.clauses (all_clauses bs) (clauses_measured s g.0 b.clauses g.1) (blocks_measured g.0 t bs g.2)

  -- ---- cases consist of them

  abbrev SoFar : Option (List PlainClause) → Type 0
  SoFar None = Unit {0}
  SoFar (Some cs) = AllMeasured cs

  abbrev Each : List (List PlainClause) → Type 0
  Each [] = Unit {0}
  Each (cs ∷ css) = AllMeasured cs × Each css

  joined_measured : (o : Option (List PlainClause)) (css : List (List PlainClause)) → SoFar o → Each css → Each (joined o css)
  joined_measured None css h k = k
  joined_measured (Some cs) css h k = (h, k)

  more_measured : (o : Option (List PlainClause)) (c : PlainClause) → SoFar o → Measured c → SoFar (more o c)
  more_measured None c h k = (k, tt)
  more_measured (Some cs) c h k = both_measured cs (c ∷ []) h (k, tt)

  cases_measured : (o : Option (List PlainClause)) (cs : List PlainClause) → SoFar o → AllMeasured cs → Each (cases_from o cs)
  cases_measured o [] h k = joined_measured o [] h tt
  cases_measured o (Also at ∷ cs) h k = joined_measured o (cases_from None cs) h (cases_measured None cs tt k.1)
  cases_measured o (Requires at e ∷ cs) h k = cases_measured (more o (Requires at e)) cs (more_measured o (Requires at e) h tt) k.1
  cases_measured o (Ensures at e ∷ cs) h k = cases_measured (more o (Ensures at e)) cs (more_measured o (Ensures at e) h tt) k.1
  cases_measured o (Signals at c x e ∷ cs) h k = cases_measured (more o (Signals at c x e)) cs (more_measured o (Signals at c x e) h tt) k.1
  cases_measured o (SignalsOnly at xs ∷ cs) h k = cases_measured (more o (SignalsOnly at xs)) cs (more_measured o (SignalsOnly at xs) h tt) k.1
  cases_measured o (Assignable at ls ∷ cs) h k = cases_measured (more o (Assignable at ls)) cs (more_measured o (Assignable at ls) h tt) k.1
  cases_measured o (MeasuredBy at e ∷ cs) h k = cases_measured (more o (MeasuredBy at e)) cs (more_measured o (MeasuredBy at e) h k.0) k.1
  cases_measured o (Diverges at b ∷ cs) h k = cases_measured (more o (Diverges at b)) cs (more_measured o (Diverges at b) h tt) k.1
  cases_measured o (NormalBehavior at ∷ cs) h k = cases_measured (more o (NormalBehavior at)) cs (more_measured o (NormalBehavior at) h tt) k.1
  cases_measured o (ExceptionalBehavior at ∷ cs) h k = cases_measured (more o (ExceptionalBehavior at)) cs (more_measured o (ExceptionalBehavior at) h tt) k.1
  cases_measured o (Behavior at ∷ cs) h k = cases_measured (more o (Behavior at)) cs (more_measured o (Behavior at) h tt) k.1
  cases_measured o (c ∷ cs) h k = cases_measured o cs h k.1

  one_measured : (css : List (List PlainClause)) (cs : List PlainClause) → Each css → In cs css → AllMeasured cs
  one_measured [] cs h k = absurd k
  one_measured (ds ∷ css) cs h (inl same) = subst AllMeasured (sym same) h.0
  one_measured (ds ∷ css) cs h (inr behind) = one_measured css cs h.1 behind

-- ---- parameters in scope, where those terms stand for them

module _ (d : Declarations) (argument : ℕ → PlainTerm) where
  abbrev pub Placed : ℕ → List JavaParameter → Type 0
  Placed n [] = Unit {0}
  Placed n (p ∷ ps) = (IsKnown (type_written d p.ty) × (sort_of_term (argument n) ≡ sort_of (type_written d p.ty))) × Placed (suc n) ps

module _ (d : Declarations) (prog : Program) (sp : Spelling) (sorted : FieldsHaveSorts d prog) (known_fields : (c : ℕ) (x : List ℕ) (f : ℕ) (t : ValueType) → d.variable c x ≡ Some (variables.Field f t) → IsKnown t) where
  module _ (argument : ℕ → PlainTerm) (same : (w : When) (k : ℕ) → sp.argument w k ≡ argument k) where
    fit_parameters : (n : ℕ) (ps : List JavaParameter) (ls : List SpecLocal) (es : List Entry) → Fit d prog sp sorted known_fields ls es → Placed d argument n ps → Fit d prog sp sorted known_fields (parameters d ps ls) (entries d n ps es)
    fit_parameters n [] ls es f h = f
    fit_parameters n (p ∷ ps) ls es f h = fit_parameters (suc n) ps _ _ (refl, refl, (h.0.0, λ w. ap sort_of_term (same w n) ∙ h.0.1), f) h.1

    module _ (class : ℕ) (m : JavaMethod) (this_sort : sort_of_term sp.this ≡ RefSort) (placed : Placed d argument 0 m.parameters) where
      abbrev around : Around
      around = record { place = place_of d class m.is_static; result = gives d m.result; locals = parameters d m.parameters [] }

      abbrev its_entries : List Entry
      its_entries = entries d 0 m.parameters []

      measure_number : (cs : List PlainClause) → AllMeasured d around cs → sort_of_term (term prog sp Before (measure_of d class (result_value d m.result) its_entries cs)) ≡ IntSort
      measure_number [] h = refl
      measure_number (MeasuredBy at e ∷ cs) h =
          let k = has d prog sp sorted known_fields (before around) refl (result_value d m.result) this_sort false around.locals its_entries (fit_parameters 0 m.parameters [] [] tt placed) e h.0.type h.0.is in
          k.sort Before ∙ ap sort_of (is_int d h.0.type k.known_ h.0.fit_)
      measure_number (c ∷ cs) h = measure_number cs h.1

      -- of each case of a method that is accepted
      pub measured : (ls : List SpecLocal) → method d class m ≡ Ok ls → (cs : List PlainClause) → In cs (cases_of m.specs) → sort_of_term (term prog sp Before (measure_of d class (result_value d m.result) its_entries cs)) ≡ IntSort
      measured ls ok cs among =
          let g = through _ (blocks d around at_first m.specs) ls ok in
          measure_number cs (one_measured d around (cases_of m.specs) cs (cases_measured d around None (all_clauses m.specs) tt (blocks_measured d around at_first g.0 m.specs g.1)) among)

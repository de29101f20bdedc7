-- The clauses of a method of which no token is refused speak of what they may.
use Rattle.std.proofs.Common.{◌≡◌, ℕ, suc, Bool, true, false, cond, not, List, [], ◌∷◌, ◌++◌, map, Option, Some, None, Result, Ok, refl, sym, ap, ◌∙◌, true≢false}
use Rattle.std.specs.Option.{unwrap_or}
use Rattle.jd_syntax.specs.JavaTypes.{PlainIdentifier}
use Rattle.jd_syntax.specs.SpecTrees.{PlainSpec, PlainLocation, Nothing, Everything, OwnField, FieldOf, AllFields, Element, Range, AllElements, PlainClause, Requires, Ensures, Signals, SignalsOnly, Assignable, MeasuredBy, Diverges, NormalBehavior, ExceptionalBehavior, Behavior, Also, PlainSpecBlock}
use Rattle.jd_syntax.specs.JavaTrees.{JavaParameter, JavaMethod}
use Rattle.jd_model.specs.Cases.{Role, Static, Ordinary, Helper, ConstructorOf}
use Rattle.jd_bodies.specs.Declarations.{Declarations}
use Rattle.jd_bodies.specs.declared.value.ValueType.{ValueType}
use Rattle.jd_bodies.specs.declared.value.ValueType.TheVariants as types
use Rattle.jd_bodies.specs.declared.value.Variable.{Variable}
use Rattle.jd_bodies.specs.declared.value.Variable.TheVariants as variables
use Rattle.jd_specifications.specs.Clauses.{Around, Sofar, at_first, before, behind, elsewhere, own_field, location_before, location as judged_location, locations as judged_locations, exception, caught, clause, clauses}
use Rattle.jd_specifications.specs.declared.fault.SpecFault.{SpecFault}
use Rattle.jd_specifications.specs.Refused.{blocks, gives, method, parameters as judged_parameters, place_of}
use Rattle.jd_specifications.specs.Resolution.{Entry, location, resolved}
use Rattle.jd_specifications.specs.Scopes.{SpecLocal, and_then}
use Rattle.jd_specifications.specs.Types.{at_of, one, wanted, class_before, type_of}
use Rattle.jd_specifications.specs.WrittenCases.{all_clauses, joined, more, cases_from, cases_of, class_of, builds, role, has_mark, is_pure, is_helper, entries, with_exception, requires_of, ensures_of, signals_of, with_locations, assignable_of, assignable_else, measure_of, contract, contracts, result_value}
use Rattle.jd_jml_meaning.specs.Resolved.{JmlLocation}
use Rattle.jd_case_rows.specs.Speaking.{Allowed, Speaks, AllSpeak, LocationSpeaks, LocationsSpeak, SignalsSpeak, ContractSpeaks, has_receiver, at_entry, of_result, of_thrown}
use Rattle.jd_spoken.specs.Laws.{AllContractsSpeak}
use Rattle.jd_spoken.proofs.Expressions.{through, only, refused_is, Fine, Fit, speaks, element_fine}

-- parameters are in scope alike
parameters_fit : (d : Declarations) (u : Allowed) (n : ℕ) (ps : List JavaParameter) (ls : List SpecLocal) (es : List Entry) → Fit u ls es → Fit u (judged_parameters d ps ls) (entries d n ps es)
parameters_fit d u n [] ls es f = f
parameters_fit d u n (p ∷ ps) ls es f = parameters_fit d u (suc n) ps _ _ (refl, tt, f)

module _ (d : Declarations) (a : Around) where
  -- ---- clauses that are judged one by one

  pub record Judged (c : PlainClause) : Type 0 where
    pub behind_ : Sofar
    pub ahead : Sofar
    pub ok : clause d a behind_ c ≡ Ok ahead

  abbrev pub AllJudged : List PlainClause → Type 0
  AllJudged [] = Unit {0}
  AllJudged (c ∷ cs) = Judged c × AllJudged cs

  judged_joined : (cs ds : List PlainClause) → AllJudged cs → AllJudged ds → AllJudged (cs ++ ds)
  judged_joined [] ds h k = k
  judged_joined (c ∷ cs) ds h k = (h.0, judged_joined cs ds h.1 k)

  clauses_judged : (s t : Sofar) (cs : List PlainClause) → clauses d a s cs ≡ Ok t → AllJudged cs
  clauses_judged s t [] e = tt
  clauses_judged s t (c ∷ cs) e =
      let g = through (λ q. clauses d a q cs) (clause d a s c) t e in (record { behind_ = s; ahead = g.0; ok = g.1 }, clauses_judged g.0 t cs g.2)

  blocks_judged : (s t : Sofar) (bs : List PlainSpecBlock) → blocks d a s bs ≡ Ok t → AllJudged (all_clauses bs)
  blocks_judged s t [] e = tt
  blocks_judged s t (b ∷ bs) e =
      let g = through (λ q. blocks d a q bs) (clauses d a s b.clauses) t e in
      judged_joined b.clauses (all_clauses bs) (clauses_judged s g.0 b.clauses g.1) (blocks_judged g.0 t bs g.2)

  -- ---- cases consist of them

  abbrev pub CasesJudged : List (List PlainClause) → Type 0
  CasesJudged [] = Unit {0}
  CasesJudged (cs ∷ css) = AllJudged cs × CasesJudged css

  abbrev SoFarJudged : Option (List PlainClause) → Type 0
  SoFarJudged None = Unit {0}
  SoFarJudged (Some cs) = AllJudged cs

  joined_judged : (o : Option (List PlainClause)) (css : List (List PlainClause)) → SoFarJudged o → CasesJudged css → CasesJudged (joined o css)
  joined_judged None css h k = k
  joined_judged (Some cs) css h k = (h, k)

  more_judged : (o : Option (List PlainClause)) (c : PlainClause) → SoFarJudged o → Judged c → SoFarJudged (more o c)
  more_judged None c h k = (k, tt)
  more_judged (Some cs) c h k = judged_joined cs (c ∷ []) h (k, tt)

  cases_judged : (o : Option (List PlainClause)) (cs : List PlainClause) → SoFarJudged o → AllJudged cs → CasesJudged (cases_from o cs)
  cases_judged o [] h k = joined_judged o [] h tt
  cases_judged o (Also at ∷ cs) h k = joined_judged o (cases_from None cs) h (cases_judged None cs tt k.1)
  cases_judged o (Requires at e ∷ cs) h k = cases_judged (more o (Requires at e)) cs (more_judged o (Requires at e) h k.0) k.1
  cases_judged o (Ensures at e ∷ cs) h k = cases_judged (more o (Ensures at e)) cs (more_judged o (Ensures at e) h k.0) k.1
  cases_judged o (Signals at c x e ∷ cs) h k = cases_judged (more o (Signals at c x e)) cs (more_judged o (Signals at c x e) h k.0) k.1
  cases_judged o (SignalsOnly at xs ∷ cs) h k = cases_judged (more o (SignalsOnly at xs)) cs (more_judged o (SignalsOnly at xs) h k.0) k.1
  cases_judged o (Assignable at ls ∷ cs) h k = cases_judged (more o (Assignable at ls)) cs (more_judged o (Assignable at ls) h k.0) k.1
  cases_judged o (MeasuredBy at e ∷ cs) h k = cases_judged (more o (MeasuredBy at e)) cs (more_judged o (MeasuredBy at e) h k.0) k.1
  cases_judged o (Diverges at b ∷ cs) h k = cases_judged (more o (Diverges at b)) cs (more_judged o (Diverges at b) h k.0) k.1
  cases_judged o (NormalBehavior at ∷ cs) h k = cases_judged (more o (NormalBehavior at)) cs (more_judged o (NormalBehavior at) h k.0) k.1
  cases_judged o (ExceptionalBehavior at ∷ cs) h k = cases_judged (more o (ExceptionalBehavior at)) cs (more_judged o (ExceptionalBehavior at) h k.0) k.1
  cases_judged o (Behavior at ∷ cs) h k = cases_judged (more o (Behavior at)) cs (more_judged o (Behavior at) h k.0) k.1
  cases_judged o (c ∷ cs) h k = cases_judged o cs h k.1

module _ (d : Declarations) (class : ℕ) (m : JavaMethod) where
  -- ---- what stands around the clauses

  abbrev around : Around
  around = record { place = place_of d class m.is_static; result = gives d m.result; locals = judged_parameters d m.parameters [] }

  abbrev its_role : Role
  its_role = role d class m

  has_this : not m.is_static ≡ true → has_receiver its_role ≡ true
  has_this e = by (builds d m.result) m.is_static (has_mark is_helper m.specs) e
    where
      by : (b s h : Bool) → not s ≡ true → has_receiver (cond b (ConstructorOf class) (cond s Static (cond h Helper Ordinary))) ≡ true
      by true s h e = refl
      by false true h e = absurd (true≢false (sym e))
      by false false true e = refl
      by false false false e = refl

  abbrev value : ValueType
  value = result_value d m.result

  abbrev its_entries : List Entry
  its_entries = entries d 0 m.parameters []

  fit : (u : Allowed) → Fit u (judged_parameters d m.parameters []) its_entries
  fit u = parameters_fit d u 0 m.parameters [] [] tt

  no_result : {A : Type 0} (t : ValueType) → None ≡ Some t → A
  no_result t e = absurd cc

  -- ---- one expression

  entry_speaks : (e : PlainSpec) → Fine (type_of d (before around) false around.locals e) → Speaks (at_entry its_role) (resolved d class value its_entries e)
  entry_speaks e f = speaks d (before around) value (at_entry its_role) has_this no_result false around.locals its_entries (fit (at_entry its_role)) e f

  elsewhere_speaks : (e : PlainSpec) → Fine (type_of d (elsewhere around) false around.locals e) → Speaks (at_entry its_role) (resolved d class value its_entries e)
  elsewhere_speaks e f = speaks d (elsewhere around) value (at_entry its_role) has_this no_result false around.locals its_entries (fit (at_entry its_role)) e f

  result_speaks : (e : PlainSpec) → Fine (type_of d (behind around) false around.locals e) → Speaks (of_result its_role) (resolved d class value its_entries e)
  result_speaks e f = speaks d (behind around) value (of_result its_role) has_this (λ t q. refl) false around.locals its_entries (fit (of_result its_role)) e f

  thrown_fit : (x : Option PlainIdentifier) (t : ValueType) (c : ℕ) → Fit (of_thrown its_role) (caught d x t around.locals) (with_exception d x c its_entries)
  thrown_fit None t c = fit (of_thrown its_role)
  thrown_fit (Some x) t c = (refl, refl, fit (of_thrown its_role))

  thrown_speaks : (x : Option PlainIdentifier) (t : ValueType) (c : ℕ) (e : PlainSpec) → Fine (type_of d (elsewhere around) false (caught d x t around.locals) e) → Speaks (of_thrown its_role) (resolved d class value (with_exception d x c its_entries) e)
  thrown_speaks x t c e f = speaks d (elsewhere around) value (of_thrown its_role) has_this no_result false (caught d x t around.locals) (with_exception d x c its_entries) (thrown_fit x t c) e f

  -- ---- locations

  location_speaks : (l : PlainLocation) → Fine (judged_location d (elsewhere around) around.locals l) → LocationSpeaks (at_entry its_role) (location d class value its_entries l)
  location_speaks (Nothing at) f = tt
  location_speaks (Everything at) f = tt
  location_speaks (OwnField at x) f = by (d.variable class x) f
    where
      by : (v : Option Variable) → Fine (own_field m.is_static at v) → has_receiver its_role ≡ true
      by None f = refused_is at _ f.0 f.1
      by (Some (variables.Field k t)) f = has_this (only (not m.is_static) at _ t f.0 f.1)
      by (Some (variables.Constant n)) f = refused_is at _ f.0 f.1
  location_speaks (FieldOf at e x) f = by (class_before d (elsewhere around) around.locals e) f
    where
      by : (c : Option ℕ) → Fine (location_before d x c (type_of d (elsewhere around) false around.locals e)) → Speaks (at_entry its_role) (resolved d class value its_entries e)
      by (Some c) f = refused_is x.at _ f.0 f.1
      by None f = let g = through _ (type_of d (elsewhere around) false around.locals e) f.0 f.1 in elsewhere_speaks e (g.0, g.1)
  location_speaks (AllFields at e) f = let g = through _ (type_of d (elsewhere around) false around.locals e) f.0 f.1 in elsewhere_speaks e (g.0, g.1)
  location_speaks (Element at a i) f =
      let g = element_fine d (at_of a) (type_of d (elsewhere around) false around.locals a) (at_of i) (type_of d (elsewhere around) false around.locals i) f in
      (elsewhere_speaks a g.0, elsewhere_speaks i g.1)
  location_speaks (Range at a i j) f =
      let g = through _ (type_of d (elsewhere around) false around.locals a) f.0 f.1 in
      let h = through _ (type_of d (elsewhere around) false around.locals i) f.0 g.2 in
      let k = through _ (type_of d (elsewhere around) false around.locals j) f.0 h.2 in
      (elsewhere_speaks a (g.0, g.1), elsewhere_speaks i (h.0, h.1), elsewhere_speaks j (k.0, k.1))
  location_speaks (AllElements at a) f = let g = through _ (type_of d (elsewhere around) false around.locals a) f.0 f.1 in elsewhere_speaks a (g.0, g.1)

  locations_speak : (ls : List PlainLocation) → Fine (judged_locations d (elsewhere around) around.locals ls) → LocationsSpeak (at_entry its_role) (map (location d class value its_entries) ls)
  locations_speak [] f = tt
  locations_speak (l ∷ ls) f =
      let g = through _ (judged_location d (elsewhere around) around.locals l) f.0 f.1 in (location_speaks l (g.0, g.1), locations_speak ls (f.0, g.2))

  -- ---- clauses

  kept : (s t : Sofar) (r : Result ValueType SpecFault) → and_then (λ x. Ok s) r ≡ Ok t → Fine r
  kept s t r e = let g = through _ r t e in (g.0, g.1)

  its_type : (want : ValueType) (at : ℕ) (r : Result ValueType SpecFault) → Fine (one d want at r) → Fine r
  its_type want at r f = let g = through (wanted d want at) r f.0 f.1 in (g.0, g.1)

  -- what a clause that its case may have says of its part
  part : {B : Type 0} (f : ValueType → Result B SpecFault) (r : Result ValueType SpecFault) (b : B) → and_then f r ≡ Ok b → Fine r
  part f r b e = let g = through f r b e in (g.0, g.1)

  all_required : (cs : List PlainClause) → AllJudged d around cs → AllSpeak (at_entry its_role) (requires_of d class value its_entries cs)
  all_required [] h = tt
  all_required (Requires at e ∷ cs) h =
      (entry_speaks e (its_type types.Boolean (at_of e) (type_of d (before around) false around.locals e) (part _ _ h.0.ahead h.0.ok)), all_required cs h.1)
  all_required (c ∷ cs) h = all_required cs h.1

  all_ensured : (cs : List PlainClause) → AllJudged d around cs → AllSpeak (of_result its_role) (ensures_of d class value its_entries cs)
  all_ensured [] h = tt
  all_ensured (Ensures at e ∷ cs) h =
      (result_speaks e (its_type types.Boolean (at_of e) (type_of d (behind around) false around.locals e) (part _ _ h.0.ahead h.0.ok)), all_ensured cs h.1)
  all_ensured (c ∷ cs) h = all_ensured cs h.1

  all_signalled : (cs : List PlainClause) → AllJudged d around cs → SignalsSpeak (of_thrown its_role) (signals_of d class value its_entries cs)
  all_signalled [] h = tt
  all_signalled (Signals at c x e ∷ cs) h =
      let g = part _ _ h.0.ahead h.0.ok in
      let k = through _ (exception d c) g.0 g.1 in
      (thrown_speaks x k.0 (class_of d c) e (its_type types.Boolean (at_of e) (type_of d (elsewhere around) false (caught d x k.0 around.locals) e) (g.0, k.2)), all_signalled cs h.1)
  all_signalled (c ∷ cs) h = all_signalled cs h.1

  more_locations : (ls ms : List JmlLocation) → LocationsSpeak (at_entry its_role) ls → LocationsSpeak (at_entry its_role) ms → LocationsSpeak (at_entry its_role) (ls ++ ms)
  more_locations [] ms h k = k
  more_locations (l ∷ ls) ms h k = (h.0, more_locations ls ms h.1 k)

  abbrev MaybeSpeak : Option (List JmlLocation) → Type 0
  MaybeSpeak None = Unit {0}
  MaybeSpeak (Some ls) = LocationsSpeak (at_entry its_role) ls

  with_more : (ls : List JmlLocation) (o : Option (List JmlLocation)) → LocationsSpeak (at_entry its_role) ls → MaybeSpeak o → MaybeSpeak (with_locations d class value its_entries ls o)
  with_more ls None h k = h
  with_more ls (Some ms) h k = more_locations ls ms h k

  all_assigned : (cs : List PlainClause) → AllJudged d around cs → MaybeSpeak (assignable_of d class value its_entries cs)
  all_assigned [] h = tt
  all_assigned (Assignable at ls ∷ cs) h =
      with_more (map (location d class value its_entries) ls) (assignable_of d class value its_entries cs) (locations_speak ls (part _ _ h.0.ahead h.0.ok)) (all_assigned cs h.1)
  all_assigned (c ∷ cs) h = all_assigned cs h.1

  -- where no clause says so, a pure constructor may assign the fields of `this`
  else_speaks : LocationsSpeak (at_entry its_role) (assignable_else d (has_mark is_pure m.specs) (builds d m.result))
  else_speaks = by (has_mark is_pure m.specs) (builds d m.result) refl
    where
      builder : (b : Bool) → builds d m.result ≡ b → b ≡ true → has_receiver its_role ≡ true
      builder b is e = ap (λ q. has_receiver (cond q (ConstructorOf class) (cond m.is_static Static (cond (has_mark is_helper m.specs) Helper Ordinary)))) (is ∙ e)

      by : (pure b : Bool) → builds d m.result ≡ b → LocationsSpeak (at_entry its_role) (assignable_else d pure b)
      by true true is = (builder true is refl, tt)
      by true false is = (tt, tt)
      by false b is = (tt, tt)

  or_else : (o : Option (List JmlLocation)) (e : List JmlLocation) → MaybeSpeak o → LocationsSpeak (at_entry its_role) e → LocationsSpeak (at_entry its_role) (unwrap_or o e)
  or_else None e h k = k
  or_else (Some ls) e h k = h

  measure_speaks : (cs : List PlainClause) → AllJudged d around cs → Speaks (at_entry its_role) (measure_of d class value its_entries cs)
  measure_speaks [] h = tt
  measure_speaks (MeasuredBy at e ∷ cs) h = entry_speaks e (its_type types.Int (at_of e) (type_of d (before around) false around.locals e) (part _ _ h.0.ahead h.0.ok))
  measure_speaks (c ∷ cs) h = measure_speaks cs h.1

  contract_speaks : (cs : List PlainClause) → AllJudged d around cs → ContractSpeaks (contract d class m cs)
  contract_speaks cs h = record {
    required = all_required cs h;
    ensured = all_ensured cs h;
    signalled = all_signalled cs h;
    assigned = or_else (assignable_of d class value its_entries cs) _ (all_assigned cs h) else_speaks;
    measured = measure_speaks cs h;
  }

  each_speaks : (css : List (List PlainClause)) → CasesJudged d around css → AllContractsSpeak (map (contract d class m) css)
  each_speaks [] h = tt
  each_speaks (cs ∷ css) h = (contract_speaks cs h.0, each_speaks css h.1)

  pub all_speak : (ls : List SpecLocal) → method d class m ≡ Ok ls → AllContractsSpeak (contracts d class m)
  all_speak ls ok =
      let g = through _ (blocks d around at_first m.specs) ls ok in
      each_speaks (cases_of m.specs) (cases_judged d around None (all_clauses m.specs) tt (blocks_judged d around at_first g.0 m.specs g.1))

-- The form of a derivation tells the height of what it stands for.
use Rattle.std.proofs.Common.{◌≡◌, ◌↔◌, ◌⊎◌, inl, inr, ℕ, zero, suc, ◌+◌, ◌≤◌, min, Bool, true, false, ◌&&◌, ◌||◌, true≢false, nat_le, nat_eq, List, [], ◌∷◌, ◌++◌, map, drop, length, Some, None, refl, sym, ap, subst, ◌∙◌, arith}
use Rattle.std.specs.List.{slice_get, list_all, list_any}
use Rattle.std.proofs.lemmas.Bool.{eqb-true}
use Rattle.std.proofs.lemmas.Bool.Decides.{nat_tests}
use Rattle.jd_grammar.specs.Grammars.{Production, Forest, Done, Leaf, Node, yield, IsForest}
use Rattle.jd_grammar.specs.Folds.{values, name_count}
use Rattle.jd_grammar.specs.Nodes.{all_of, filled}
use Rattle.jd_grammar.specs.declared.table.Symbol.{Symbol}
use Rattle.jd_grammar.specs.declared.table.Symbol.TheVariants.{Token, Name}
use Rattle.jd_jml_grammar.specs.Jml.{is_place}
use Rattle.jd_jml_grammar.specs.Productions.{jml_productions}
use Rattle.jd_jml_grammar.specs.declared.names.TheConstants.{STARTS}
use Rattle.jd_jml_tokens.specs.Lexemes.{PlainLexeme}
use Rattle.jd_jml_values.specs.Values.{PlainValue, Nothing}
use Rattle.jd_jml_values.specs.Parts.{clauses_of}
use Rattle.jd_jml_attributes.specs.Forms.{PlainForm, empty}
use Rattle.jd_jml_attributes.specs.Judging.{form_of_node, first_form, form_of}
use Rattle.jd_jml_attributes.specs.Rules.{row_of, made, with_high}
use Rattle.jd_jml_trees.specs.Meaning.{action_of, value_of_node, first_value, clauses_of_tree}
use Rattle.jd_jml_texts.specs.Kept.{IsProper, IsProperNode}
use Rattle.jd_jml_heights.specs.Heights.{highest}
use Rattle.jd_jml_heights.proofs.Levels.{IsForm}
use Rattle.jd_jml_heights.proofs.Low.{root_low, root_none}
use Rattle.jd_jml_heights.proofs.Roles.{Role, Clauses, Expression, Suffixes, Start, BareStart, Low, Locations, BehindLocationName, Steps, BehindLocationIndex, BehindLocationElement, IntCast, BehindParenthesis, BehindRange, Call, Invocation, Arguments, told_by, role_of, Tells}
use Rattle.jd_jml_heights.proofs.Table.{Fits, Shows, Each, each}

-- ---- one production of the list

same_some : {A : Type 0} (x y : A) → Some x ≡ Some y → x ≡ y
same_some x y e = cc

at_each : (g : List Production) (n p : ℕ) (r : Production) → Each n g → slice_get g p ≡ Some r → Shows (n + p) r
at_each [] n p r h e = absurd cc
at_each (x ∷ g) n zero r h e =
    let same : n ≡ n + 0 = omega arith in
    subst (λ m. Shows m r) same (subst (Shows n) (same_some x r e) h.0)
at_each (x ∷ g) n (suc p) r h e =
    let same : n + 1 + p ≡ n + suc p = omega arith in
    subst (λ m. Shows m r) same (at_each g (n + 1) p r h.1 e)

shows : (p : ℕ) (r : Production) → slice_get jml_productions p ≡ Some r → Shows p r
shows p r e =
    let same : 0 + p ≡ p = omega arith in
    subst (λ m. Shows m r) same (at_each jml_productions 0 p r each e)

test_at : (test : Production → Bool) (g : List Production) (p : ℕ) (r : Production) → list_all test g ≡ true → slice_get g p ≡ Some r → test r ≡ true
test_at test [] p r all e = absurd cc
test_at test (x ∷ g) zero r all e = ap test (sym (same_some x r e)) ∙ first (test x) all
  where
    first : (b : Bool) → (b && list_all test g) ≡ true → b ≡ true
    first true k = refl
    first false k = k
test_at test (x ∷ g) (suc p) r all e = test_at test g p r (others (test x) all) e
  where
    others : (b : Bool) → (b && list_all test g) ≡ true → list_all test g ≡ true
    others true k = k
    others false k = absurd (true≢false (sym k))

few : list_all (λ r. nat_le (name_count r.body) 4) jml_productions ≡ true
few = refl

few_names : (p : ℕ) (r : Production) → slice_get jml_productions p ≡ Some r → name_count r.body ≤ 4
few_names p r e = let t = test_at (λ s. nat_le (name_count s.body) 4) jml_productions p r few e in grind (arith, nat_tests, t)

-- ---- values with their forms

abbrev Both : Type 0
Both = PlainValue × PlainForm

abbrev FitsPairs : List Symbol → List Both → Type 0
FitsPairs [] ps = ps ≡ []
FitsPairs (Token kind ∷ ss) ps = FitsPairs ss ps
FitsPairs (Name a ∷ ss) [] = ⊥
FitsPairs (Name a ∷ ss) (p ∷ ps) = Tells a p.0 p.1 × FitsPairs ss ps

abbrev values_in : List Both → List PlainValue
values_in ps = map (λ (p : Both). p.0) ps

abbrev forms_in : List Both → List PlainForm
forms_in ps = map (λ (p : Both). p.1) ps

abbrev AreParts : List Symbol → List Both → Type 0
AreParts ss ps = Fits ss (filled (all_of Nothing) (values_in ps)) (filled (all_of empty) (forms_in ps))

no_cons : {A : Type 0} (x : A) (xs : List A) → x ∷ xs ≡ [] → ⊥
no_cons x xs e = cc

fits0 : (ss : List Symbol) → FitsPairs ss [] → AreParts ss []
fits0 [] h = (refl, refl, refl, refl, refl, refl, refl)
fits0 (Token kind ∷ ss) h = fits0 ss h
fits0 (Name a ∷ ss) h = absurd h

fits1 : (ss : List Symbol) (p : Both) → FitsPairs ss (p ∷ []) → AreParts ss (p ∷ [])
fits1 [] p h = absurd (no_cons p [] h)
fits1 (Token kind ∷ ss) p h = fits1 ss p h
fits1 (Name a ∷ ss) p h = (h.0, fits0 ss h.1)

fits2 : (ss : List Symbol) (p q : Both) → FitsPairs ss (p ∷ q ∷ []) → AreParts ss (p ∷ q ∷ [])
fits2 [] p q h = absurd (no_cons p (q ∷ []) h)
fits2 (Token kind ∷ ss) p q h = fits2 ss p q h
fits2 (Name a ∷ ss) p q h = (h.0, fits1 ss q h.1)

fits3 : (ss : List Symbol) (p q r : Both) → FitsPairs ss (p ∷ q ∷ r ∷ []) → AreParts ss (p ∷ q ∷ r ∷ [])
fits3 [] p q r h = absurd (no_cons p (q ∷ r ∷ []) h)
fits3 (Token kind ∷ ss) p q r h = fits3 ss p q r h
fits3 (Name a ∷ ss) p q r h = (h.0, fits2 ss q r h.1)

fits4 : (ss : List Symbol) (p q r s : Both) → FitsPairs ss (p ∷ q ∷ r ∷ s ∷ []) → AreParts ss (p ∷ q ∷ r ∷ s ∷ [])
fits4 [] p q r s h = absurd (no_cons p (q ∷ r ∷ s ∷ []) h)
fits4 (Token kind ∷ ss) p q r s h = fits4 ss p q r s h
fits4 (Name a ∷ ss) p q r s h = (h.0, fits3 ss q r s h.1)

count : (ss : List Symbol) (ps : List Both) → FitsPairs ss ps → length ps ≡ name_count ss
count [] ps h = ap length h
count (Token kind ∷ ss) ps h = count ss ps h
count (Name a ∷ ss) [] h = absurd h
count (Name a ∷ ss) (p ∷ ps) h = let k = count ss ps h.1 in omega (arith, k)

fits : (ss : List Symbol) (ps : List Both) → name_count ss ≤ 4 → FitsPairs ss ps → AreParts ss ps
fits ss [] le h = fits0 ss h
fits ss (p ∷ []) le h = fits1 ss p h
fits ss (p ∷ q ∷ []) le h = fits2 ss p q h
fits ss (p ∷ q ∷ r ∷ []) le h = fits3 ss p q r h
fits ss (p ∷ q ∷ r ∷ s ∷ []) le h = fits4 ss p q r s h
fits ss (p ∷ q ∷ r ∷ s ∷ t ∷ ps) le h =
    let k = count ss (p ∷ q ∷ r ∷ s ∷ t ∷ ps) h in
    let no_more : ⊥ = omega (arith, k, le) in
    absurd no_more

-- ---- trees

abbrev AllTold : List Symbol → List PlainValue → List PlainForm → Type 0
AllTold ss vs fs = (ps : List Both) × (vs ≡ values_in ps) × (fs ≡ forms_in ps) × FitsPairs ss ps

node_told : (p a : ℕ) (r : Production) (ts : List PlainLexeme) (vs : List PlainValue) (fs : List PlainForm)
    → slice_get jml_productions p ≡ Some r → r.head ≡ a → AllTold r.body vs fs → IsProperNode (action_of p) (filled (all_of Nothing) vs)
    → Tells a (value_of_node p ts vs) (made (row_of p).1 ts (filled (all_of empty) fs))
node_told p a r ts vs fs at is (ps, e, g, h) q =
    subst (λ b. Tells b (value_of_node p ts vs) (made (row_of p).1 ts (filled (all_of empty) fs))) is (shows p r at ts (filled (all_of Nothing) vs) (filled (all_of empty) fs) parts q)
  where
    parts : Fits r.body (filled (all_of Nothing) vs) (filled (all_of empty) fs)
    parts =
        subst (λ ws. Fits r.body (filled (all_of Nothing) ws) (filled (all_of empty) fs)) (sym e)
        (subst (λ xs. Fits r.body (filled (all_of Nothing) (values_in ps)) (filled (all_of empty) xs)) (sym g) (fits r.body ps (few_names p r at) h))

-- what is told hangs on the height, the levels and the kind, which are those of the node
tells_high : (a : ℕ) (v : PlainValue) (ts : List PlainLexeme) (f : PlainForm) → Tells a v f → Tells a v (with_high ts f)
tells_high a v ts f h = by (role_of a) h
  where
    by : (r : Role) → told_by r v f → told_by r v (with_high ts f)
    by Clauses k = k
    by Expression k = k
    by Suffixes k = k
    by Start k = k
    by BareStart k = k
    by Low k = k
    by Locations k = k
    by BehindLocationName k = k
    by Steps k = k
    by BehindLocationIndex k = k
    by BehindLocationElement k = k
    by IntCast k = k
    by BehindParenthesis k = k
    by BehindRange k = k
    by Call k = k
    by Invocation k = k
    by Arguments k = k

told : (f : Forest) (ss : List Symbol) (after : List ℕ) (ts : List PlainLexeme) → IsForest jml_productions f ss after → IsProper f ts
    → AllTold ss (values value_of_node f ts) (values form_of_node f ts)
told Done [] after ts h q = ([], refl, refl, refl)
told Done (s ∷ ss) after ts h q = absurd h
told (Leaf k f) [] after ts h q = absurd h
told (Leaf k f) (Token j ∷ ss) after ts h q = told f ss after (drop 1 ts) h.1 q
told (Leaf k f) (Name a ∷ ss) after ts h q = absurd h
told (Node p c f) [] after ts h q = absurd h
told (Node p c f) (Token j ∷ ss) after ts h q = absurd h
told (Node p c f) (Name a ∷ ss) after ts (r, at, is, unless, below, behind) (proper, q, others) =
    let (ps, ws, xs, fit) = told f ss after (drop (length (yield c)) ts) behind others in
    let node = node_told p a r ts (values value_of_node c ts) (values form_of_node c ts) at is (told c r.body (yield f ++ after) ts below q) proper in (
      (value_of_node p ts (values value_of_node c ts), form_of_node p ts (values form_of_node c ts)) ∷ ps,
      ap (λ l. value_of_node p ts (values value_of_node c ts) ∷ l) ws,
      ap (λ l. form_of_node p ts (values form_of_node c ts) ∷ l) xs,
      (tells_high a (value_of_node p ts (values value_of_node c ts)) ts (made (row_of p).1 ts (filled (all_of empty) (values form_of_node c ts))) node, fit),
    )

-- ---- the JML of a place

or_cases : (p q : Bool) → (p || q) ≡ true → (p ≡ true) ⊎ (q ≡ true)
or_cases true q e = inl refl
or_cases false q e = inr e

abbrev OfClauses : List ℕ → Type 0
OfClauses [] = Unit {0}
OfClauses (a ∷ bs) = (role_of a ≡ Clauses) × OfClauses bs

clauses_in : (place : ℕ) (bs : List ℕ) → OfClauses bs → list_any (nat_eq place) bs ≡ true → role_of place ≡ Clauses
clauses_in place [] h e = absurd (true≢false (sym e))
clauses_in place (a ∷ bs) h e = elim (or_cases (nat_eq place a) (list_any (nat_eq place) bs) e) [
  | inl k ↦ ap role_of (eqb-true place a k) ∙ h.0
  | inr k ↦ clauses_in place bs h.1 k
]

clauses_at : (place : ℕ) → is_place place ≡ true → role_of place ≡ Clauses
clauses_at place h = clauses_in place STARTS (refl, (refl, (refl, (refl, (refl, tt))))) h

pub height_told : (f : Forest) (place : ℕ) (ts : List PlainLexeme) → is_place place ≡ true → IsForest jml_productions f (Name place ∷ []) []
    → IsProper f ts → (form_of f ts).height ≡ min (highest (clauses_of_tree f ts)) 201
height_told f place ts at h q = by (told f (Name place ∷ []) [] ts h q)
  where
    clauses : (p : Both) → Tells place p.0 p.1 → IsForm p.1 (highest (clauses_of p.0)) 0
    clauses p k = subst (λ r. told_by r p.0 p.1) (clauses_at place at) k

    by : AllTold (Name place ∷ []) (values value_of_node f ts) (values form_of_node f ts) → (form_of f ts).height ≡ min (highest (clauses_of_tree f ts)) 201
    by ([], e, g, k) = absurd k
    by (p ∷ ps, e, g, k) =
        ap (λ fs. (first_form fs).height) g
        ∙ (clauses p k.0).height_is
        ∙ sym (ap (λ vs. min (highest (clauses_of (first_value vs))) 201) e)

within : (m h : ℕ) → m ≡ min h 201 → m ≤ 200 → h ≤ 200
within m h e le = omega arith

within_told : (m h : ℕ) → m ≡ min h 201 → h ≤ 200 → m ≤ 200
within_told m h e le = omega arith

pub high_told : (f : Forest) (place : ℕ) (ts : List PlainLexeme) → is_place place ≡ true → IsForest jml_productions f (Name place ∷ []) []
    → IsProper f ts → ((form_of f ts).high ≡ None) ↔ (highest (clauses_of_tree f ts) ≤ 200)
high_told f place ts at h q =
    let is = height_told f place ts at h q in (
      λ e. within (form_of f ts).height (highest (clauses_of_tree f ts)) is (root_none f ts e),
      λ le. root_low f ts (within_told (form_of f ts).height (highest (clauses_of_tree f ts)) is le),
    )

-- A derivation without fault is proper.
use Rattle.std.proofs.Common.{◌≡◌, ℕ, zero, suc, ◌+◌, ◌≤◌, Bool, true, false, ◌&&◌, true≢false, nat_le, List, [], ◌∷◌, ◌++◌, map, drop, length, Some, None, slice_index_or, refl, sym, ap, subst, ◌∙◌, arith}
use Rattle.std.specs.List.{slice_get, list_all}
use Rattle.std.proofs.lemmas.Bool.Decides.{nat_tests}
use Rattle.jd_grammar.specs.Grammars.{Production, Forest, Done, Leaf, Node, yield, IsForest}
use Rattle.jd_grammar.specs.Folds.{values, name_count}
use Rattle.jd_grammar.specs.Nodes.{all_of, filled}
use Rattle.jd_grammar.specs.declared.piles.NodeParts.{NodeParts}
use Rattle.jd_grammar.specs.declared.table.Symbol.{Symbol}
use Rattle.jd_grammar.specs.declared.table.Symbol.TheVariants.{Token, Name}
use Rattle.jd_jml_grammar.specs.Productions.{jml_productions}
use Rattle.jd_jml_tokens.specs.Lexemes.{PlainLexeme}
use Rattle.jd_jml_values.specs.Values.{PlainValue, Nothing}
use Rattle.jd_jml_attributes.specs.Forms.{PlainForm, empty}
use Rattle.jd_jml_attributes.specs.Judging.{form_of_node, first_form, form_of}
use Rattle.jd_jml_attributes.specs.Rules.{row_of, made, with_high}
use Rattle.jd_jml_trees.specs.Meaning.{action_of, value_of_node}
use Rattle.jd_jml_texts.specs.Kept.{IsProper, IsProperNode}
use Rattle.jd_jml_proper.proofs.Rules.{NoFaults}
use Rattle.jd_jml_proper.proofs.Roles.{Role, Plain, Operand, RelationalTail, AndTail, Tail, Identifier, Call, Parenthesis, OtherKind, BehindParenthesis, told_by, roles, Tells, Fits, Shows, Each, Ends, ShowsNone, EachNone}
use Rattle.jd_jml_proper.proofs.Table.{each}
use Rattle.jd_jml_proper.proofs.Faultless.{each_none}

-- ---- one production of the list

same_some : {A : Type 0} (x y : A) → Some x ≡ Some y → x ≡ y
same_some x y e = cc

at_each : (g : List Production) (n p : ℕ) (r : Production) → Each n g → slice_get g p ≡ Some r → Shows (n + p) r
at_each [] n p r h e = absurd cc
at_each (x ∷ g) n zero r h e =
    let same : n ≡ n + 0 = omega arith in
    subst (λ m. Shows m r) same (subst (Shows n) (same_some x r e) h.0)
at_each (x ∷ g) n (suc p) r h e =
    let same : n + 1 + p ≡ n + suc p = omega arith in
    subst (λ m. Shows m r) same (at_each g (n + 1) p r h.1 e)

shows : (p : ℕ) (r : Production) → slice_get jml_productions p ≡ Some r → Shows p r
shows p r e =
    let same : 0 + p ≡ p = omega arith in
    subst (λ m. Shows m r) same (at_each jml_productions 0 p r each e)

none_at_each : (g : List Production) (n p : ℕ) (r : Production) → EachNone n g → slice_get g p ≡ Some r → ShowsNone (n + p) r
none_at_each [] n p r h e = absurd cc
none_at_each (x ∷ g) n zero r h e =
    let same : n ≡ n + 0 = omega arith in
    subst (λ m. ShowsNone m r) same (subst (ShowsNone n) (same_some x r e) h.0)
none_at_each (x ∷ g) n (suc p) r h e =
    let same : n + 1 + p ≡ n + suc p = omega arith in
    subst (λ m. ShowsNone m r) same (none_at_each g (n + 1) p r h.1 e)

shows_none : (p : ℕ) (r : Production) → slice_get jml_productions p ≡ Some r → ShowsNone p r
shows_none p r e =
    let same : 0 + p ≡ p = omega arith in
    subst (λ m. ShowsNone m r) same (none_at_each jml_productions 0 p r each_none e)

test_at : (test : Production → Bool) (g : List Production) (p : ℕ) (r : Production) → list_all test g ≡ true → slice_get g p ≡ Some r → test r ≡ true
test_at test [] p r all e = absurd cc
test_at test (x ∷ g) zero r all e = ap test (sym (same_some x r e)) ∙ first (test x) all
  where
    first : (b : Bool) → (b && list_all test g) ≡ true → b ≡ true
    first true k = refl
    first false k = k
test_at test (x ∷ g) (suc p) r all e = test_at test g p r (others (test x) all) e
  where
    others : (b : Bool) → (b && list_all test g) ≡ true → list_all test g ≡ true
    others true k = k
    others false k = absurd (true≢false (sym k))

few : list_all (λ r. nat_le (name_count r.body) 4) jml_productions ≡ true
few = refl

few_names : (p : ℕ) (r : Production) → slice_get jml_productions p ≡ Some r → name_count r.body ≤ 4
few_names p r e = let t = test_at (λ s. nat_le (name_count s.body) 4) jml_productions p r few e in grind (arith, nat_tests, t)

-- ---- trees, from the last to the first: what they tell, where there are no faults

abbrev Both : Type 0
Both = PlainValue × PlainForm

abbrev values_in : List Both → List PlainValue
values_in ps = map (λ (p : Both). p.0) ps

abbrev forms_in : List Both → List PlainForm
forms_in ps = map (λ (p : Both). p.1) ps

abbrev AllNone : List PlainForm → Type 0
AllNone [] = Unit {0}
AllNone (f ∷ fs) = (f.fault ≡ None) × AllNone fs

abbrev FitsPairs : List Symbol → List Both → Type 0
FitsPairs [] ps = ps ≡ []
FitsPairs (Token kind ∷ ss) ps = FitsPairs ss ps
FitsPairs (Name a ∷ ss) [] = ⊥
FitsPairs (Name a ∷ ss) (p ∷ ps) = Tells a p.0 p.1 × FitsPairs ss ps

abbrev AreParts : List Symbol → List Both → Type 0
AreParts ss ps = Fits ss (filled (all_of Nothing) (values_in ps)) (filled (all_of empty) (forms_in ps))

no_cons : {A : Type 0} (x : A) (xs : List A) → x ∷ xs ≡ [] → ⊥
no_cons x xs e = cc

fits0 : (ss : List Symbol) → FitsPairs ss [] → AreParts ss []
fits0 [] h = (refl, refl, refl, refl, refl)
fits0 (Token kind ∷ ss) h = fits0 ss h
fits0 (Name a ∷ ss) h = absurd h

fits1 : (ss : List Symbol) (p : Both) → FitsPairs ss (p ∷ []) → AreParts ss (p ∷ [])
fits1 [] p h = absurd (no_cons p [] h)
fits1 (Token kind ∷ ss) p h = fits1 ss p h
fits1 (Name a ∷ ss) p h = (h.0, fits0 ss h.1)

fits2 : (ss : List Symbol) (p q : Both) → FitsPairs ss (p ∷ q ∷ []) → AreParts ss (p ∷ q ∷ [])
fits2 [] p q h = absurd (no_cons p (q ∷ []) h)
fits2 (Token kind ∷ ss) p q h = fits2 ss p q h
fits2 (Name a ∷ ss) p q h = (h.0, fits1 ss q h.1)

fits3 : (ss : List Symbol) (p q r : Both) → FitsPairs ss (p ∷ q ∷ r ∷ []) → AreParts ss (p ∷ q ∷ r ∷ [])
fits3 [] p q r h = absurd (no_cons p (q ∷ r ∷ []) h)
fits3 (Token kind ∷ ss) p q r h = fits3 ss p q r h
fits3 (Name a ∷ ss) p q r h = (h.0, fits2 ss q r h.1)

fits4 : (ss : List Symbol) (p q r s : Both) → FitsPairs ss (p ∷ q ∷ r ∷ s ∷ []) → AreParts ss (p ∷ q ∷ r ∷ s ∷ [])
fits4 [] p q r s h = absurd (no_cons p (q ∷ r ∷ s ∷ []) h)
fits4 (Token kind ∷ ss) p q r s h = fits4 ss p q r s h
fits4 (Name a ∷ ss) p q r s h = (h.0, fits3 ss q r s h.1)

count : (ss : List Symbol) (ps : List Both) → FitsPairs ss ps → length ps ≡ name_count ss
count [] ps h = ap length h
count (Token kind ∷ ss) ps h = count ss ps h
count (Name a ∷ ss) [] h = absurd h
count (Name a ∷ ss) (p ∷ ps) h = let k = count ss ps h.1 in omega (arith, k)

fits : (ss : List Symbol) (ps : List Both) → name_count ss ≤ 4 → FitsPairs ss ps → AreParts ss ps
fits ss [] le h = fits0 ss h
fits ss (p ∷ []) le h = fits1 ss p h
fits ss (p ∷ q ∷ []) le h = fits2 ss p q h
fits ss (p ∷ q ∷ r ∷ []) le h = fits3 ss p q r h
fits ss (p ∷ q ∷ r ∷ s ∷ []) le h = fits4 ss p q r s h
fits ss (p ∷ q ∷ r ∷ s ∷ t ∷ ps) le h =
    let k = count ss (p ∷ q ∷ r ∷ s ∷ t ∷ ps) h in
    let no_more : ⊥ = omega (arith, k, le) in
    absurd no_more

-- ---- forms alone

abbrev form_parts : List PlainForm → NodeParts PlainForm
form_parts fs = filled (all_of empty) fs

ends0 : (ss : List Symbol) → name_count ss ≡ 0 → Ends ss (form_parts [])
ends0 [] h = (refl, refl, refl, refl)
ends0 (Token kind ∷ ss) h = ends0 ss h
ends0 (Name a ∷ ss) h = let no_more : ⊥ = omega (arith, h) in absurd no_more

ends1 : (ss : List Symbol) (a : PlainForm) → name_count ss ≡ 1 → Ends ss (form_parts (a ∷ []))
ends1 [] a h = let no_more : ⊥ = omega (arith, h) in absurd no_more
ends1 (Token kind ∷ ss) a h = ends1 ss a h
ends1 (Name n ∷ ss) a h = ends0 ss (omega (arith, h))

ends2 : (ss : List Symbol) (a b : PlainForm) → name_count ss ≡ 2 → Ends ss (form_parts (a ∷ b ∷ []))
ends2 [] a b h = let no_more : ⊥ = omega (arith, h) in absurd no_more
ends2 (Token kind ∷ ss) a b h = ends2 ss a b h
ends2 (Name n ∷ ss) a b h = ends1 ss b (omega (arith, h))

ends3 : (ss : List Symbol) (a b c : PlainForm) → name_count ss ≡ 3 → Ends ss (form_parts (a ∷ b ∷ c ∷ []))
ends3 [] a b c h = let no_more : ⊥ = omega (arith, h) in absurd no_more
ends3 (Token kind ∷ ss) a b c h = ends3 ss a b c h
ends3 (Name n ∷ ss) a b c h = ends2 ss b c (omega (arith, h))

ends4 : (ss : List Symbol) (a b c d : PlainForm) → name_count ss ≡ 4 → Ends ss (form_parts (a ∷ b ∷ c ∷ d ∷ []))
ends4 [] a b c d h = let no_more : ⊥ = omega (arith, h) in absurd no_more
ends4 (Token kind ∷ ss) a b c d h = ends4 ss a b c d h
ends4 (Name n ∷ ss) a b c d h = ends3 ss b c d (omega (arith, h))

ends : (ss : List Symbol) (fs : List PlainForm) → name_count ss ≤ 4 → length fs ≡ name_count ss → Ends ss (form_parts fs)
ends ss [] le h = ends0 ss (omega (arith, h))
ends ss (a ∷ []) le h = ends1 ss a (omega (arith, h))
ends ss (a ∷ b ∷ []) le h = ends2 ss a b (omega (arith, h))
ends ss (a ∷ b ∷ c ∷ []) le h = ends3 ss a b c (omega (arith, h))
ends ss (a ∷ b ∷ c ∷ d ∷ []) le h = ends4 ss a b c d (omega (arith, h))
ends ss (a ∷ b ∷ c ∷ d ∷ f ∷ fs) le h = let no_more : ⊥ = omega (arith, h, le) in absurd no_more

all_none_in : (fs : List PlainForm) → length fs ≤ 4 → NoFaults (form_parts fs) → AllNone fs
all_none_in [] le h = tt
all_none_in (a ∷ []) le (x, y, z, w) = (x, tt)
all_none_in (a ∷ b ∷ []) le (x, y, z, w) = (x, (y, tt))
all_none_in (a ∷ b ∷ c ∷ []) le (x, y, z, w) = (x, (y, (z, tt)))
all_none_in (a ∷ b ∷ c ∷ d ∷ []) le (x, y, z, w) = (x, (y, (z, (w, tt))))
all_none_in (a ∷ b ∷ c ∷ d ∷ f ∷ fs) le h = let no_more : ⊥ = omega (arith, le) in absurd no_more

forms_count : (f : Forest) (ss : List Symbol) (after : List ℕ) (ts : List PlainLexeme) → IsForest jml_productions f ss after → length (values form_of_node f ts) ≡ name_count ss
forms_count Done [] after ts h = refl
forms_count Done (s ∷ ss) after ts h = absurd h
forms_count (Leaf k f) [] after ts h = absurd h
forms_count (Leaf k f) (Token j ∷ ss) after ts h = forms_count f ss after (drop 1 ts) h.1
forms_count (Leaf k f) (Name a ∷ ss) after ts h = absurd h
forms_count (Node p c f) [] after ts h = absurd h
forms_count (Node p c f) (Token j ∷ ss) after ts h = absurd h
forms_count (Node p c f) (Name a ∷ ss) after ts (r, at, is, unless, below, behind) =
    let n = forms_count f ss after (drop (length (yield c)) ts) behind in
    omega (arith, n)

-- ---- trees

abbrev AllTold : List Symbol → List PlainValue → List PlainForm → Type 0
AllTold ss vs fs = (ps : List Both) × (vs ≡ values_in ps) × (fs ≡ forms_in ps) × FitsPairs ss ps

node_told : (p a : ℕ) (r : Production) (ts : List PlainLexeme) (vs : List PlainValue) (fs : List PlainForm) → slice_get jml_productions p ≡ Some r → r.head ≡ a
    → AllTold r.body vs fs → (form_of_node p ts fs).fault ≡ None → IsProperNode (action_of p) (filled (all_of Nothing) vs) × Tells a (value_of_node p ts vs) (made (row_of p).1 ts (form_parts fs))
node_told p a r ts vs fs at is (ps, e, g, h) q =
    let (proper, told) = shows p r at ts (filled (all_of Nothing) vs) (form_parts fs) parts q in
    (proper, subst (λ b. Tells b (value_of_node p ts vs) (made (row_of p).1 ts (form_parts fs))) is told)
  where
    parts : Fits r.body (filled (all_of Nothing) vs) (form_parts fs)
    parts =
        subst (λ ws. Fits r.body (filled (all_of Nothing) ws) (form_parts fs)) (sym e)
        (subst (λ xs. Fits r.body (filled (all_of Nothing) (values_in ps)) (form_parts xs)) (sym g) (fits r.body ps (few_names p r at) h))

-- what is told hangs on the kind and the cast, which are those of the node
tells_high : (a : ℕ) (v : PlainValue) (ts : List PlainLexeme) (f : PlainForm) → Tells a v f → Tells a v (with_high ts f)
tells_high a v ts f h = by (slice_index_or roles a Plain) h
  where
    by : (r : Role) → told_by r v f → told_by r v (with_high ts f)
    by Plain k = k
    by Operand k = k
    by RelationalTail k = k
    by AndTail k = k
    by Tail k = k
    by Identifier k = k
    by Call k = k
    by Parenthesis k = k
    by OtherKind k = k
    by BehindParenthesis k = k

told : (f : Forest) (ss : List Symbol) (after : List ℕ) (ts : List PlainLexeme) → IsForest jml_productions f ss after → AllNone (values form_of_node f ts)
    → AllTold ss (values value_of_node f ts) (values form_of_node f ts) × IsProper f ts
told Done [] after ts h q = (([], refl, refl, refl), tt)
told Done (s ∷ ss) after ts h q = absurd h
told (Leaf k f) [] after ts h q = absurd h
told (Leaf k f) (Token j ∷ ss) after ts h q = told f ss after (drop 1 ts) h.1 q
told (Leaf k f) (Name a ∷ ss) after ts h q = absurd h
told (Node p c f) [] after ts h q = absurd h
told (Node p c f) (Token j ∷ ss) after ts h q = absurd h
told (Node p c f) (Name a ∷ ss) after ts (r, at, is, unless, below, behind) (none, others) =
    let le = few_names p r at in
    let n = forms_count c r.body (yield f ++ after) ts below in
    let small : length (values form_of_node c ts) ≤ 4 = omega (arith, le, n) in
    let clean = shows_none p r at ts (form_parts (values form_of_node c ts)) (ends r.body (values form_of_node c ts) le n) none in
    let inner = told c r.body (yield f ++ after) ts below (all_none_in (values form_of_node c ts) small clean) in
    let (proper, node) = node_told p a r ts (values value_of_node c ts) (values form_of_node c ts) at is inner.0 none in
    let ((ps, ws, xs, fit), rest) = told f ss after (drop (length (yield c)) ts) behind others in (
      (
        (value_of_node p ts (values value_of_node c ts), form_of_node p ts (values form_of_node c ts)) ∷ ps,
        ap (λ l. value_of_node p ts (values value_of_node c ts) ∷ l) ws,
        ap (λ l. form_of_node p ts (values form_of_node c ts) ∷ l) xs,
        (tells_high a (value_of_node p ts (values value_of_node c ts)) ts (made (row_of p).1 ts (form_parts (values form_of_node c ts))) node, fit),
      ),
      (proper, inner.1, rest),
    )

pub is_proper : (f : Forest) (place : ℕ) (ts : List PlainLexeme) → IsForest jml_productions f (Name place ∷ []) [] → (form_of f ts).fault ≡ None → IsProper f ts
is_proper f place ts h q = (told f (Name place ∷ []) [] ts h (whole (values form_of_node f ts) (forms_count f (Name place ∷ []) [] ts h) q)).1
  where
    whole : (fs : List PlainForm) → length fs ≡ 1 → (first_form fs).fault ≡ None → AllNone fs
    whole [] n e = tt
    whole (g ∷ []) n e = (e, tt)
    whole (g ∷ k ∷ fs) n e = let no_more : ⊥ = omega (arith, n) in absurd no_more

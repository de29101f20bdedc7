-- A derivation without fault is proper.
use Rattle.std.proofs.Common.{◌≡◌, ℕ, zero, suc, ◌+◌, ◌≤◌, Bool, true, false, cond, ◌&&◌, true≢false, nat_le, List, [], ◌∷◌, ◌++◌, map, drop, length, Some, None, refl, sym, ap, subst, ◌∙◌, arith}
use Rattle.std.specs.List.{slice_get, list_all}
use Rattle.std.proofs.lemmas.Bool.Decides.{nat_tests}
use Rattle.jd_grammar.specs.Grammars.{Production, Forest, Done, Leaf, Node, yield, IsForest}
use Rattle.jd_grammar.specs.Folds.{values, name_count}
use Rattle.jd_grammar.specs.Nodes.{all_of, filled}
use Rattle.jd_grammar.specs.declared.piles.NodeParts.{NodeParts}
use Rattle.jd_grammar.specs.declared.table.Symbol.{Symbol}
use Rattle.jd_grammar.specs.declared.table.Symbol.TheVariants.{Token, Name}
use Rattle.jd_java_grammar.specs.Productions.{java_productions}
use Rattle.jd_java_grammar.specs.declared.names.TheConstants.{COMPILATION_UNIT}
use Rattle.jd_java_tokens.specs.Contents.{PlainLexeme}
use Rattle.jd_java_values.specs.Values.{PlainValue, Nothing}
use Rattle.jd_java_attributes.specs.Rules.{row_of}
use Rattle.jd_java_attributes.specs.Judging.{PlainAttributes, nothing, fault_of, plain_forms, plain_headings, attributes, first_of_all, attributes_of}
use Rattle.jd_java_trees.specs.Meaning.{action_of, value_of_node}
use Rattle.jd_java_texts.specs.Kept.{IsProper, IsProperNode}
use Rattle.jd_java_proper.proofs.Rules.{first_none, both_none, is_single, NoFaults, NoneBehind, forms_none, NoHeadingFaults, headings_none}
use Rattle.jd_java_proper.proofs.Roles.{Tells, Fits, Shows, Each}
use Rattle.jd_java_proper.proofs.Table.{each}

-- ---- one production of the list

same_some : {A : Type 0} (x y : A) → Some x ≡ Some y → x ≡ y
same_some x y e = cc

at_each : (g : List Production) (n p : ℕ) (r : Production) → Each n g → slice_get g p ≡ Some r → Shows (n + p) r
at_each [] n p r h e = absurd cc
at_each (x ∷ g) n zero r h e =
    let same : n ≡ n + 0 = omega arith in
    subst (λ m. Shows m r) same (subst (Shows n) (same_some x r e) h.0)
at_each (x ∷ g) n (suc p) r h e =
    let same : n + 1 + p ≡ n + suc p = omega arith in
    subst (λ m. Shows m r) same (at_each g (n + 1) p r h.1 e)

shows : (p : ℕ) (r : Production) → slice_get java_productions p ≡ Some r → Shows p r
shows p r e =
    let same : 0 + p ≡ p = omega arith in
    subst (λ m. Shows m r) same (at_each java_productions 0 p r each e)

test_at : (test : Production → Bool) (g : List Production) (p : ℕ) (r : Production) → list_all test g ≡ true → slice_get g p ≡ Some r → test r ≡ true
test_at test [] p r all e = absurd cc
test_at test (x ∷ g) zero r all e = ap test (sym (same_some x r e)) ∙ first (test x) all
  where
    first : (b : Bool) → (b && list_all test g) ≡ true → b ≡ true
    first true k = refl
    first false k = k
test_at test (x ∷ g) (suc p) r all e = test_at test g p r (others (test x) all) e
  where
    others : (b : Bool) → (b && list_all test g) ≡ true → list_all test g ≡ true
    others true k = k
    others false k = absurd (true≢false (sym k))

few : list_all (λ r. nat_le (name_count r.body) 4) java_productions ≡ true
few = refl

few_names : (p : ℕ) (r : Production) → slice_get java_productions p ≡ Some r → name_count r.body ≤ 4
few_names p r e = let t = test_at (λ s. nat_le (name_count s.body) 4) java_productions p r few e in grind (arith, nat_tests, t)

-- rules that look at the first part alone have no other
abbrev singles : ℕ → List Production → Bool
singles n [] = true
singles n (r ∷ rs) = cond (is_single (row_of n).2) (nat_le (name_count r.body) 1) true && singles (n + 1) rs

all_singles : singles 0 java_productions ≡ true
all_singles = refl

abbrev IsSingleRow : ℕ → Production → Type 0
IsSingleRow n r = cond (is_single (row_of n).2) (nat_le (name_count r.body) 1) true ≡ true

both_true : (a b : Bool) → (a && b) ≡ true → (a ≡ true) × (b ≡ true)
both_true true b e = (refl, e)
both_true false b e = absurd (true≢false (sym e))

single_at : (g : List Production) (n p : ℕ) (r : Production) → singles n g ≡ true → slice_get g p ≡ Some r → IsSingleRow (n + p) r
single_at [] n p r h e = absurd cc
single_at (x ∷ g) n zero r h e =
    let same : n ≡ n + 0 = omega arith in
    let (here, others) = both_true (cond (is_single (row_of n).2) (nat_le (name_count x.body) 1) true) (singles (n + 1) g) h in
    subst (λ m. IsSingleRow m r) same (subst (IsSingleRow n) (same_some x r e) here)
single_at (x ∷ g) n (suc p) r h e =
    let same : n + 1 + p ≡ n + suc p = omega arith in
    let (here, others) = both_true (cond (is_single (row_of n).2) (nat_le (name_count x.body) 1) true) (singles (n + 1) g) h in
    subst (λ m. IsSingleRow m r) same (single_at g (n + 1) p r others e)

single : (p : ℕ) (r : Production) → slice_get java_productions p ≡ Some r → is_single (row_of p).2 ≡ true → name_count r.body ≤ 1
single p r e is = few_of (is_single (row_of p).2) is (subst (λ m. IsSingleRow m r) same (single_at java_productions 0 p r all_singles e))
  where
    same : 0 + p ≡ p
    same = omega arith

    few_of : (b : Bool) → b ≡ true → cond b (nat_le (name_count r.body) 1) true ≡ true → name_count r.body ≤ 1
    few_of true k t = grind (arith, nat_tests, t)
    few_of false k t = absurd (true≢false (sym k))

-- ---- values with their attributes

abbrev Both : Type 0
Both = PlainValue × PlainAttributes

abbrev FitsPairs : List Symbol → List Both → Type 0
FitsPairs [] ps = ps ≡ []
FitsPairs (Token kind ∷ ss) ps = FitsPairs ss ps
FitsPairs (Name a ∷ ss) [] = ⊥
FitsPairs (Name a ∷ ss) (p ∷ ps) = Tells a p.0 p.1 × FitsPairs ss ps

abbrev values_in : List Both → List PlainValue
values_in ps = map (λ (p : Both). p.0) ps

abbrev attributes_in : List Both → List PlainAttributes
attributes_in ps = map (λ (p : Both). p.1) ps

abbrev AreParts : List Symbol → List Both → Type 0
AreParts ss ps = Fits ss (filled (all_of Nothing) (values_in ps)) (filled (all_of nothing) (attributes_in ps))

no_cons : {A : Type 0} (x : A) (xs : List A) → x ∷ xs ≡ [] → ⊥
no_cons x xs e = cc

fits0 : (ss : List Symbol) → FitsPairs ss [] → AreParts ss []
fits0 [] h = (refl, refl, refl, refl, refl, refl, refl, refl)
fits0 (Token kind ∷ ss) h = fits0 ss h
fits0 (Name a ∷ ss) h = absurd h

fits1 : (ss : List Symbol) (p : Both) → FitsPairs ss (p ∷ []) → AreParts ss (p ∷ [])
fits1 [] p h = absurd (no_cons p [] h)
fits1 (Token kind ∷ ss) p h = fits1 ss p h
fits1 (Name a ∷ ss) p h = (h.0, fits0 ss h.1)

fits2 : (ss : List Symbol) (p q : Both) → FitsPairs ss (p ∷ q ∷ []) → AreParts ss (p ∷ q ∷ [])
fits2 [] p q h = absurd (no_cons p (q ∷ []) h)
fits2 (Token kind ∷ ss) p q h = fits2 ss p q h
fits2 (Name a ∷ ss) p q h = (h.0, fits1 ss q h.1)

fits3 : (ss : List Symbol) (p q r : Both) → FitsPairs ss (p ∷ q ∷ r ∷ []) → AreParts ss (p ∷ q ∷ r ∷ [])
fits3 [] p q r h = absurd (no_cons p (q ∷ r ∷ []) h)
fits3 (Token kind ∷ ss) p q r h = fits3 ss p q r h
fits3 (Name a ∷ ss) p q r h = (h.0, fits2 ss q r h.1)

fits4 : (ss : List Symbol) (p q r s : Both) → FitsPairs ss (p ∷ q ∷ r ∷ s ∷ []) → AreParts ss (p ∷ q ∷ r ∷ s ∷ [])
fits4 [] p q r s h = absurd (no_cons p (q ∷ r ∷ s ∷ []) h)
fits4 (Token kind ∷ ss) p q r s h = fits4 ss p q r s h
fits4 (Name a ∷ ss) p q r s h = (h.0, fits3 ss q r s h.1)

count : (ss : List Symbol) (ps : List Both) → FitsPairs ss ps → length ps ≡ name_count ss
count [] ps h = ap length h
count (Token kind ∷ ss) ps h = count ss ps h
count (Name a ∷ ss) [] h = absurd h
count (Name a ∷ ss) (p ∷ ps) h = let k = count ss ps h.1 in omega (arith, k)

fits : (ss : List Symbol) (ps : List Both) → name_count ss ≤ 4 → FitsPairs ss ps → AreParts ss ps
fits ss [] le h = fits0 ss h
fits ss (p ∷ []) le h = fits1 ss p h
fits ss (p ∷ q ∷ []) le h = fits2 ss p q h
fits ss (p ∷ q ∷ r ∷ []) le h = fits3 ss p q r h
fits ss (p ∷ q ∷ r ∷ s ∷ []) le h = fits4 ss p q r s h
fits ss (p ∷ q ∷ r ∷ s ∷ t ∷ ps) le h =
    let k = count ss (p ∷ q ∷ r ∷ s ∷ t ∷ ps) h in
    let no_more : ⊥ = omega (arith, k, le) in
    absurd no_more

-- ---- attributes alone

abbrev AllNone : List PlainAttributes → Type 0
AllNone [] = Unit {0}
AllNone (u ∷ us) = (fault_of u ≡ None) × AllNone us

abbrev attribute_parts : List PlainAttributes → NodeParts PlainAttributes
attribute_parts us = filled (all_of nothing) us

none_behind : (us : List PlainAttributes) → length us ≤ 1 → NoneBehind (plain_forms (attribute_parts us))
none_behind [] le = (refl, refl, refl)
none_behind (a ∷ []) le = (refl, refl, refl)
none_behind (a ∷ b ∷ us) le = let no_more : ⊥ = omega (arith, le) in absurd no_more

without : (u : PlainAttributes) → u.form.fault ≡ None → u.heading.fault ≡ None → fault_of u ≡ None
without u h k = both_none u.form.fault u.heading.fault h k

all_none_in : (us : List PlainAttributes) → length us ≤ 4 → NoFaults (plain_forms (attribute_parts us)) → NoHeadingFaults (plain_headings (attribute_parts us)) → AllNone us
all_none_in [] le h k = tt
all_none_in (a ∷ []) le (x, y, z, w) (x', y', z', w') = (without a x x', tt)
all_none_in (a ∷ b ∷ []) le (x, y, z, w) (x', y', z', w') = (without a x x', (without b y y', tt))
all_none_in (a ∷ b ∷ c ∷ []) le (x, y, z, w) (x', y', z', w') = (without a x x', (without b y y', (without c z z', tt)))
all_none_in (a ∷ b ∷ c ∷ d ∷ []) le (x, y, z, w) (x', y', z', w') = (without a x x', (without b y y', (without c z z', (without d w w', tt))))
all_none_in (a ∷ b ∷ c ∷ d ∷ f ∷ us) le h k = let no_more : ⊥ = omega (arith, le) in absurd no_more

attributes_count : (f : Forest) (ss : List Symbol) (after : List ℕ) (ts : List PlainLexeme) → IsForest java_productions f ss after → length (values attributes f ts) ≡ name_count ss
attributes_count Done [] after ts h = refl
attributes_count Done (s ∷ ss) after ts h = absurd h
attributes_count (Leaf k f) [] after ts h = absurd h
attributes_count (Leaf k f) (Token j ∷ ss) after ts h = attributes_count f ss after (drop 1 ts) h.1
attributes_count (Leaf k f) (Name a ∷ ss) after ts h = absurd h
attributes_count (Node p c f) [] after ts h = absurd h
attributes_count (Node p c f) (Token j ∷ ss) after ts h = absurd h
attributes_count (Node p c f) (Name a ∷ ss) after ts (r, at, is, unless, below, behind) =
    let n = attributes_count f ss after (drop (length (yield c)) ts) behind in
    omega (arith, n)

-- the parts of a node without fault have none
parts_none : (p : ℕ) (r : Production) (ts : List PlainLexeme) (us : List PlainAttributes) → slice_get java_productions p ≡ Some r → length us ≡ name_count r.body → fault_of (attributes p ts us) ≡ None → AllNone us
parts_none p r ts us at n none =
    let le = few_names p r at in
    let small : length us ≤ 4 = omega (arith, le, n) in
    let (form, heading) = first_none (attributes p ts us).form.fault (attributes p ts us).heading.fault none in
    let alone : is_single (row_of p).2 ≡ true → NoneBehind (plain_forms (attribute_parts us)) = λ is. (let one = single p r at is in none_behind us (omega (arith, one, n))) in
    all_none_in us small (forms_none (row_of p).2 (row_of p).0 ts (plain_forms (attribute_parts us)) alone form) (headings_none (row_of p).2 ts (plain_headings (attribute_parts us)) heading)

-- ---- trees

abbrev AllTold : List Symbol → List PlainValue → List PlainAttributes → Type 0
AllTold ss vs us = (ps : List Both) × (vs ≡ values_in ps) × (us ≡ attributes_in ps) × FitsPairs ss ps

node_told : (p a : ℕ) (r : Production) (ts : List PlainLexeme) (vs : List PlainValue) (us : List PlainAttributes) → slice_get java_productions p ≡ Some r → r.head ≡ a → AllTold r.body vs us
    → fault_of (attributes p ts us) ≡ None → IsProperNode (action_of p) (filled (all_of Nothing) vs) × Tells a (value_of_node p ts vs) (attributes p ts us)
node_told p a r ts vs us at is (ps, e, g, h) q =
    let (proper, tells) = shows p r at ts (filled (all_of Nothing) vs) (attribute_parts us) parts q in
    (proper, subst (λ b. Tells b (value_of_node p ts vs) (attributes p ts us)) is tells)
  where
    parts : Fits r.body (filled (all_of Nothing) vs) (attribute_parts us)
    parts =
        subst (λ ws. Fits r.body (filled (all_of Nothing) ws) (attribute_parts us)) (sym e)
        (subst (λ xs. Fits r.body (filled (all_of Nothing) (values_in ps)) (attribute_parts xs)) (sym g) (fits r.body ps (few_names p r at) h))

all_told : (f : Forest) (ss : List Symbol) (after : List ℕ) (ts : List PlainLexeme) → IsForest java_productions f ss after → AllNone (values attributes f ts)
    → AllTold ss (values value_of_node f ts) (values attributes f ts) × IsProper f ts
all_told Done [] after ts h q = (([], refl, refl, refl), tt)
all_told Done (s ∷ ss) after ts h q = absurd h
all_told (Leaf k f) [] after ts h q = absurd h
all_told (Leaf k f) (Token j ∷ ss) after ts h q = all_told f ss after (drop 1 ts) h.1 q
all_told (Leaf k f) (Name a ∷ ss) after ts h q = absurd h
all_told (Node p c f) [] after ts h q = absurd h
all_told (Node p c f) (Token j ∷ ss) after ts h q = absurd h
all_told (Node p c f) (Name a ∷ ss) after ts (r, at, is, unless, below, behind) (none, others) =
    let n = attributes_count c r.body (yield f ++ after) ts below in
    let inner = all_told c r.body (yield f ++ after) ts below (parts_none p r ts (values attributes c ts) at n none) in
    let (proper, node) = node_told p a r ts (values value_of_node c ts) (values attributes c ts) at is inner.0 none in
    let ((ps, ws, xs, fit), rest) = all_told f ss after (drop (length (yield c)) ts) behind others in (
      (
        (value_of_node p ts (values value_of_node c ts), attributes p ts (values attributes c ts)) ∷ ps,
        ap (λ l. value_of_node p ts (values value_of_node c ts) ∷ l) ws,
        ap (λ l. attributes p ts (values attributes c ts) ∷ l) xs,
        (node, fit),
      ),
      (proper, inner.1, rest),
    )

pub is_proper : (f : Forest) (ts : List PlainLexeme) → IsForest java_productions f (Name COMPILATION_UNIT ∷ []) [] → fault_of (attributes_of f ts) ≡ None → IsProper f ts
is_proper f ts h q = (all_told f (Name COMPILATION_UNIT ∷ []) [] ts h (whole (values attributes f ts) (attributes_count f (Name COMPILATION_UNIT ∷ []) [] ts h) q)).1
  where
    whole : (us : List PlainAttributes) → length us ≡ 1 → fault_of (first_of_all us) ≡ None → AllNone us
    whole [] n e = tt
    whole (u ∷ []) n e = (e, tt)
    whole (u ∷ v ∷ us) n e = let no_more : ⊥ = omega (arith, n) in absurd no_more

-- What a derivation tells of heights is what its tree has.
use Rattle.std.proofs.Common.{◌≡◌, ◌↔◌, ℕ, zero, suc, ◌+◌, ◌≤◌, min, Bool, true, false, ◌&&◌, true≢false, nat_le, List, [], ◌∷◌, ◌++◌, map, drop, length, Some, None, refl, sym, ap, subst, ◌∙◌, arith}
use Rattle.std.specs.List.{slice_get, list_all}
use Rattle.std.proofs.lemmas.Bool.Decides.{nat_tests}
use Rattle.jd_grammar.specs.Grammars.{Production, Forest, Done, Leaf, Node, yield, IsForest}
use Rattle.jd_grammar.specs.Folds.{values, name_count}
use Rattle.jd_grammar.specs.Nodes.{all_of, filled}
use Rattle.jd_grammar.specs.declared.table.Symbol.{Symbol}
use Rattle.jd_grammar.specs.declared.table.Symbol.TheVariants.{Token, Name}
use Rattle.jd_java_grammar.specs.Productions.{java_productions}
use Rattle.jd_java_grammar.specs.declared.names.TheConstants.{COMPILATION_UNIT}
use Rattle.jd_java_tokens.specs.Contents.{PlainLexeme}
use Rattle.jd_java_values.specs.Values.{PlainValue, Nothing}
use Rattle.jd_java_values.specs.Parts.{classes_of}
use Rattle.jd_java_attributes.specs.Judging.{PlainAttributes, nothing, attributes, first_of_all, attributes_of}
use Rattle.jd_java_trees.specs.Meaning.{action_of, value_of_node, first_value, unit_of}
use Rattle.jd_java_texts.specs.Kept.{IsProper, IsProperNode}
use Rattle.jd_java_heights.specs.Heights.{highest_in_classes, classes_height, highest_expression, highest_statement}
use Rattle.jd_java_heights.specs.Told.{IsLow}
use Rattle.jd_java_heights.proofs.Levels.{IsForm}
use Rattle.jd_java_heights.proofs.Low.{root_low, root_none}
use Rattle.jd_java_heights.proofs.Roles.{Tells}
use Rattle.jd_java_heights.proofs.Rows.{Fits, Shows, Each}
use Rattle.jd_java_heights.proofs.Table.{each}

-- ---- one production of the list

same_some : {A : Type 0} (x y : A) → Some x ≡ Some y → x ≡ y
same_some x y e = cc

at_each : (g : List Production) (n p : ℕ) (r : Production) → Each n g → slice_get g p ≡ Some r → Shows (n + p) r
at_each [] n p r h e = absurd cc
at_each (x ∷ g) n zero r h e =
    let same : n ≡ n + 0 = omega arith in
    subst (λ m. Shows m r) same (subst (Shows n) (same_some x r e) h.0)
at_each (x ∷ g) n (suc p) r h e =
    let same : n + 1 + p ≡ n + suc p = omega arith in
    subst (λ m. Shows m r) same (at_each g (n + 1) p r h.1 e)

shows : (p : ℕ) (r : Production) → slice_get java_productions p ≡ Some r → Shows p r
shows p r e =
    let same : 0 + p ≡ p = omega arith in
    subst (λ m. Shows m r) same (at_each java_productions 0 p r each e)

test_at : (test : Production → Bool) (g : List Production) (p : ℕ) (r : Production) → list_all test g ≡ true → slice_get g p ≡ Some r → test r ≡ true
test_at test [] p r all e = absurd cc
test_at test (x ∷ g) zero r all e = ap test (sym (same_some x r e)) ∙ first (test x) all
  where
    first : (b : Bool) → (b && list_all test g) ≡ true → b ≡ true
    first true k = refl
    first false k = k
test_at test (x ∷ g) (suc p) r all e = test_at test g p r (others (test x) all) e
  where
    others : (b : Bool) → (b && list_all test g) ≡ true → list_all test g ≡ true
    others true k = k
    others false k = absurd (true≢false (sym k))

few : list_all (λ r. nat_le (name_count r.body) 4) java_productions ≡ true
few = refl

few_names : (p : ℕ) (r : Production) → slice_get java_productions p ≡ Some r → name_count r.body ≤ 4
few_names p r e = let t = test_at (λ s. nat_le (name_count s.body) 4) java_productions p r few e in grind (arith, nat_tests, t)

-- ---- trees, from the last to the first

abbrev Both : Type 0
Both = PlainValue × PlainAttributes

abbrev values_in : List Both → List PlainValue
values_in ps = map (λ (p : Both). p.0) ps

abbrev attributes_in : List Both → List PlainAttributes
attributes_in ps = map (λ (p : Both). p.1) ps

abbrev FitsPairs : List Symbol → List Both → Type 0
FitsPairs [] ps = ps ≡ []
FitsPairs (Token kind ∷ ss) ps = FitsPairs ss ps
FitsPairs (Name a ∷ ss) [] = ⊥
FitsPairs (Name a ∷ ss) (p ∷ ps) = Tells a p.0 p.1.form × FitsPairs ss ps

abbrev AreParts : List Symbol → List Both → Type 0
AreParts ss ps = Fits ss (filled (all_of Nothing) (values_in ps)) (filled (all_of nothing) (attributes_in ps))

no_cons : {A : Type 0} (x : A) (xs : List A) → x ∷ xs ≡ [] → ⊥
no_cons x xs e = cc

fits0 : (ss : List Symbol) → FitsPairs ss [] → AreParts ss []
fits0 [] h = (refl, refl, refl, refl, refl, refl, refl, refl)
fits0 (Token kind ∷ ss) h = fits0 ss h
fits0 (Name a ∷ ss) h = absurd h

fits1 : (ss : List Symbol) (p : Both) → FitsPairs ss (p ∷ []) → AreParts ss (p ∷ [])
fits1 [] p h = absurd (no_cons p [] h)
fits1 (Token kind ∷ ss) p h = fits1 ss p h
fits1 (Name a ∷ ss) p h = (h.0, fits0 ss h.1)

fits2 : (ss : List Symbol) (p q : Both) → FitsPairs ss (p ∷ q ∷ []) → AreParts ss (p ∷ q ∷ [])
fits2 [] p q h = absurd (no_cons p (q ∷ []) h)
fits2 (Token kind ∷ ss) p q h = fits2 ss p q h
fits2 (Name a ∷ ss) p q h = (h.0, fits1 ss q h.1)

fits3 : (ss : List Symbol) (p q r : Both) → FitsPairs ss (p ∷ q ∷ r ∷ []) → AreParts ss (p ∷ q ∷ r ∷ [])
fits3 [] p q r h = absurd (no_cons p (q ∷ r ∷ []) h)
fits3 (Token kind ∷ ss) p q r h = fits3 ss p q r h
fits3 (Name a ∷ ss) p q r h = (h.0, fits2 ss q r h.1)

fits4 : (ss : List Symbol) (p q r s : Both) → FitsPairs ss (p ∷ q ∷ r ∷ s ∷ []) → AreParts ss (p ∷ q ∷ r ∷ s ∷ [])
fits4 [] p q r s h = absurd (no_cons p (q ∷ r ∷ s ∷ []) h)
fits4 (Token kind ∷ ss) p q r s h = fits4 ss p q r s h
fits4 (Name a ∷ ss) p q r s h = (h.0, fits3 ss q r s h.1)

count : (ss : List Symbol) (ps : List Both) → FitsPairs ss ps → length ps ≡ name_count ss
count [] ps h = ap length h
count (Token kind ∷ ss) ps h = count ss ps h
count (Name a ∷ ss) [] h = absurd h
count (Name a ∷ ss) (p ∷ ps) h = let k = count ss ps h.1 in omega (arith, k)

fits : (ss : List Symbol) (ps : List Both) → name_count ss ≤ 4 → FitsPairs ss ps → AreParts ss ps
fits ss [] le h = fits0 ss h
fits ss (p ∷ []) le h = fits1 ss p h
fits ss (p ∷ q ∷ []) le h = fits2 ss p q h
fits ss (p ∷ q ∷ r ∷ []) le h = fits3 ss p q r h
fits ss (p ∷ q ∷ r ∷ s ∷ []) le h = fits4 ss p q r s h
fits ss (p ∷ q ∷ r ∷ s ∷ t ∷ ps) le h =
    let k = count ss (p ∷ q ∷ r ∷ s ∷ t ∷ ps) h in
    let no_more : ⊥ = omega (arith, k, le) in
    absurd no_more

-- ---- trees

abbrev AllTold : List Symbol → List PlainValue → List PlainAttributes → Type 0
AllTold ss vs marks = (ps : List Both) × (vs ≡ values_in ps) × (marks ≡ attributes_in ps) × FitsPairs ss ps

node_told : (p a : ℕ) (r : Production) (ts : List PlainLexeme) (vs : List PlainValue) (marks : List PlainAttributes)
    → slice_get java_productions p ≡ Some r → r.head ≡ a
    → AllTold r.body vs marks → IsProperNode (action_of p) (filled (all_of Nothing) vs) → Tells a (value_of_node p ts vs) (attributes p ts marks).form
node_told p a r ts vs marks at is (ps, e, g, h) q =
    subst (λ b. Tells b (value_of_node p ts vs) (attributes p ts marks).form) is (shows p r at ts (filled (all_of Nothing) vs) (filled (all_of nothing) marks) parts q)
  where
    parts : Fits r.body (filled (all_of Nothing) vs) (filled (all_of nothing) marks)
    parts =
        subst (λ ws. Fits r.body (filled (all_of Nothing) ws) (filled (all_of nothing) marks)) (sym e)
        (subst (λ xs. Fits r.body (filled (all_of Nothing) (values_in ps)) (filled (all_of nothing) xs)) (sym g) (fits r.body ps (few_names p r at) h))

all_told : (f : Forest) (ss : List Symbol) (after : List ℕ) (ts : List PlainLexeme) → IsForest java_productions f ss after → IsProper f ts
    → AllTold ss (values value_of_node f ts) (values attributes f ts)
all_told Done [] after ts h q = ([], refl, refl, refl)
all_told Done (s ∷ ss) after ts h q = absurd h
all_told (Leaf k f) [] after ts h q = absurd h
all_told (Leaf k f) (Token j ∷ ss) after ts h q = all_told f ss after (drop 1 ts) h.1 q
all_told (Leaf k f) (Name a ∷ ss) after ts h q = absurd h
all_told (Node p c f) [] after ts h q = absurd h
all_told (Node p c f) (Token j ∷ ss) after ts h q = absurd h
all_told (Node p c f) (Name a ∷ ss) after ts (r, at, is, unless, below, behind) (proper, q, others) =
    let (ps, ws, xs, fit) = all_told f ss after (drop (length (yield c)) ts) behind others in
    let node = node_told p a r ts (values value_of_node c ts) (values attributes c ts) at is (all_told c r.body (yield f ++ after) ts below q) proper in (
      (value_of_node p ts (values value_of_node c ts), attributes p ts (values attributes c ts)) ∷ ps,
      ap (λ l. value_of_node p ts (values value_of_node c ts) ∷ l) ws,
      ap (λ l. attributes p ts (values attributes c ts) ∷ l) xs,
      (node, fit),
    )

-- ---- a file

file_told : (f : Forest) (ts : List PlainLexeme) → IsForest java_productions f (Name COMPILATION_UNIT ∷ []) [] → IsProper f ts
    → IsForm (attributes_of f ts).form (highest_expression (unit_of f ts)) 0 (highest_statement (unit_of f ts))
file_told f ts h q = by (all_told f (Name COMPILATION_UNIT ∷ []) [] ts h q)
  where
    by : AllTold (Name COMPILATION_UNIT ∷ []) (values value_of_node f ts) (values attributes f ts)
        → IsForm (attributes_of f ts).form (highest_expression (unit_of f ts)) 0 (highest_statement (unit_of f ts))
    by ([], e, g, k) = absurd k
    by (p ∷ ps, e, g, k) =
        subst (λ vs. IsForm (attributes_of f ts).form (highest_in_classes (classes_of (first_value vs))) 0 (classes_height (classes_of (first_value vs)))) (sym e)
        (subst (λ marks. IsForm (first_of_all marks).form (highest_in_classes (classes_of p.0)) 0 (classes_height (classes_of p.0))) (sym g) k.0)

pub height_told : (f : Forest) (ts : List PlainLexeme) → IsForest java_productions f (Name COMPILATION_UNIT ∷ []) [] → IsProper f ts
    → (attributes_of f ts).form.height ≡ min (highest_expression (unit_of f ts)) 201
height_told f ts h q = (file_told f ts h q).height_is

pub nesting_told : (f : Forest) (ts : List PlainLexeme) → IsForest java_productions f (Name COMPILATION_UNIT ∷ []) [] → IsProper f ts
    → (attributes_of f ts).form.nesting ≡ min (highest_statement (unit_of f ts)) 201
nesting_told f ts h q = (file_told f ts h q).nesting_is

within : (m h : ℕ) → m ≡ min h 201 → m ≤ 200 → h ≤ 200
within m h e le = omega arith

within_told : (m h : ℕ) → m ≡ min h 201 → h ≤ 200 → m ≤ 200
within_told m h e le = omega arith

pub high_told : (f : Forest) (ts : List PlainLexeme) → IsForest java_productions f (Name COMPILATION_UNIT ∷ []) [] → IsProper f ts
    → ((attributes_of f ts).form.high ≡ None) ↔ IsLow f ts
high_told f ts h q =
    let is = file_told f ts h q in (
      λ e. (
        within (attributes_of f ts).form.height (highest_expression (unit_of f ts)) is.height_is (root_none f ts e).0,
        within (attributes_of f ts).form.nesting (highest_statement (unit_of f ts)) is.nesting_is (root_none f ts e).1,
      ),
      λ low. root_low f ts (within_told (attributes_of f ts).form.height (highest_expression (unit_of f ts)) is.height_is low.0)
          (within_told (attributes_of f ts).form.nesting (highest_statement (unit_of f ts)) is.nesting_is low.1),
    )

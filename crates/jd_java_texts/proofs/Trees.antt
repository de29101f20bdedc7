-- The texts of a derivation are those of what it stands for.
use Rattle.std.proofs.Common.{◌≡◌, ℕ, zero, suc, ◌+◌, ◌≤◌, Bool, true, false, ◌&&◌, true≢false, nat_le, List, [], ◌∷◌, ◌++◌, map, drop, length, Some, refl, sym, ap, subst, ◌∙◌, arith}
use Rattle.std.specs.List.{slice_get, list_all}
use Rattle.std.specs.Option.{option_map_or}
use Rattle.std.proofs.lemmas.Bool.Decides.{nat_tests}
use Rattle.jd_grammar.specs.Grammars.{Production, Forest, Done, Leaf, Node, yield, IsForest}
use Rattle.jd_grammar.specs.Folds.{values, name_count}
use Rattle.jd_grammar.specs.Nodes.{all_of, filled}
use Rattle.jd_grammar.specs.declared.table.Symbol.{Symbol}
use Rattle.jd_grammar.specs.declared.table.Symbol.TheVariants.{Token, Name}
use Rattle.jd_java_grammar.specs.Productions.{java_productions}
use Rattle.jd_java_grammar.specs.declared.names.TheConstants.{COMPILATION_UNIT}
use Rattle.jd_java_tokens.specs.Contents.{PlainLexeme}
use Rattle.jd_java_values.specs.Values.{PlainValue, Nothing}
use Rattle.jd_java_trees.specs.Meaning.{action_of, value_of_node, first_value, unit_by, unit_of}
use Rattle.jd_java_texts.specs.Texts.{unit_texts}
use Rattle.jd_java_texts.specs.Kept.{NodeTexts, no_texts, node_texts, texts_of_node, first_of_all, texts_of_tree, IsProper, IsProperNode}
use Rattle.jd_java_texts.proofs.Frames.{Shown}
use Rattle.jd_java_texts.proofs.Rows.{Fits, Shows, Each}
use Rattle.jd_java_texts.proofs.Table.{each}

-- ---- one production of the list

same_some : {A : Type 0} (x y : A) → Some x ≡ Some y → x ≡ y
same_some x y e = cc

at_each : (g : List Production) (n p : ℕ) (r : Production) → Each n g → slice_get g p ≡ Some r → Shows (n + p) r
at_each [] n p r h e = absurd cc
at_each (x ∷ g) n zero r h e =
    let same : n ≡ n + 0 = omega arith in
    subst (λ m. Shows m r) same (subst (Shows n) (same_some x r e) h.0)
at_each (x ∷ g) n (suc p) r h e =
    let same : n + 1 + p ≡ n + suc p = omega arith in
    subst (λ m. Shows m r) same (at_each g (n + 1) p r h.1 e)

shows : (p : ℕ) (r : Production) → slice_get java_productions p ≡ Some r → Shows p r
shows p r e =
    let same : 0 + p ≡ p = omega arith in
    subst (λ m. Shows m r) same (at_each java_productions 0 p r each e)

pub test_at : (test : Production → Bool) (g : List Production) (p : ℕ) (r : Production) → list_all test g ≡ true → slice_get g p ≡ Some r → test r ≡ true
test_at test [] p r all e = absurd cc
test_at test (x ∷ g) zero r all e = ap test (sym (same_some x r e)) ∙ first (test x) all
  where
    first : (b : Bool) → (b && list_all test g) ≡ true → b ≡ true
    first true k = refl
    first false k = k
test_at test (x ∷ g) (suc p) r all e = test_at test g p r (others (test x) all) e
  where
    others : (b : Bool) → (b && list_all test g) ≡ true → list_all test g ≡ true
    others true k = k
    others false k = absurd (true≢false (sym k))

few : list_all (λ r. nat_le (name_count r.body) 4) java_productions ≡ true
few = refl

pub few_names : (p : ℕ) (r : Production) → slice_get java_productions p ≡ Some r → name_count r.body ≤ 4
few_names p r e = let t = test_at (λ s. nat_le (name_count s.body) 4) java_productions p r few e in grind (arith, nat_tests, t)

-- ---- values with their texts

abbrev pub Both : Type 0
Both = PlainValue × NodeTexts

abbrev pub FitsPairs : List Symbol → List Both → Type 0
FitsPairs [] ps = ps ≡ []
FitsPairs (Token kind ∷ ss) ps = FitsPairs ss ps
FitsPairs (Name a ∷ ss) [] = ⊥
FitsPairs (Name a ∷ ss) (p ∷ ps) = Shown a p.0 p.1 × FitsPairs ss ps

abbrev pub values_in : List Both → List PlainValue
values_in ps = map (λ (p : Both). p.0) ps

abbrev pub texts_in : List Both → List NodeTexts
texts_in ps = map (λ (p : Both). p.1) ps

abbrev AreParts : List Symbol → List Both → Type 0
AreParts ss ps = Fits ss (filled (all_of Nothing) (values_in ps)) (filled (all_of no_texts) (texts_in ps))

pub no_cons : {A : Type 0} (x : A) (xs : List A) → x ∷ xs ≡ [] → ⊥
no_cons x xs e = cc

fits0 : (ss : List Symbol) → FitsPairs ss [] → AreParts ss []
fits0 [] h = (refl, refl, refl, refl)
fits0 (Token kind ∷ ss) h = fits0 ss h
fits0 (Name a ∷ ss) h = absurd h

fits1 : (ss : List Symbol) (p : Both) → FitsPairs ss (p ∷ []) → AreParts ss (p ∷ [])
fits1 [] p h = absurd (no_cons p [] h)
fits1 (Token kind ∷ ss) p h = fits1 ss p h
fits1 (Name a ∷ ss) p h = (h.0, fits0 ss h.1)

fits2 : (ss : List Symbol) (p q : Both) → FitsPairs ss (p ∷ q ∷ []) → AreParts ss (p ∷ q ∷ [])
fits2 [] p q h = absurd (no_cons p (q ∷ []) h)
fits2 (Token kind ∷ ss) p q h = fits2 ss p q h
fits2 (Name a ∷ ss) p q h = (h.0, fits1 ss q h.1)

fits3 : (ss : List Symbol) (p q r : Both) → FitsPairs ss (p ∷ q ∷ r ∷ []) → AreParts ss (p ∷ q ∷ r ∷ [])
fits3 [] p q r h = absurd (no_cons p (q ∷ r ∷ []) h)
fits3 (Token kind ∷ ss) p q r h = fits3 ss p q r h
fits3 (Name a ∷ ss) p q r h = (h.0, fits2 ss q r h.1)

fits4 : (ss : List Symbol) (p q r s : Both) → FitsPairs ss (p ∷ q ∷ r ∷ s ∷ []) → AreParts ss (p ∷ q ∷ r ∷ s ∷ [])
fits4 [] p q r s h = absurd (no_cons p (q ∷ r ∷ s ∷ []) h)
fits4 (Token kind ∷ ss) p q r s h = fits4 ss p q r s h
fits4 (Name a ∷ ss) p q r s h = (h.0, fits3 ss q r s h.1)

count : (ss : List Symbol) (ps : List Both) → FitsPairs ss ps → length ps ≡ name_count ss
count [] ps h = ap length h
count (Token kind ∷ ss) ps h = count ss ps h
count (Name a ∷ ss) [] h = absurd h
count (Name a ∷ ss) (p ∷ ps) h = let k = count ss ps h.1 in omega (arith, k)

fits : (ss : List Symbol) (ps : List Both) → name_count ss ≤ 4 → FitsPairs ss ps → AreParts ss ps
fits ss [] le h = fits0 ss h
fits ss (p ∷ []) le h = fits1 ss p h
fits ss (p ∷ q ∷ []) le h = fits2 ss p q h
fits ss (p ∷ q ∷ r ∷ []) le h = fits3 ss p q r h
fits ss (p ∷ q ∷ r ∷ s ∷ []) le h = fits4 ss p q r s h
fits ss (p ∷ q ∷ r ∷ s ∷ t ∷ ps) le h =
    let k = count ss (p ∷ q ∷ r ∷ s ∷ t ∷ ps) h in
    let no_more : ⊥ = omega (arith, k, le) in
    absurd no_more

-- ---- trees

abbrev pub AllShown : List Symbol → List PlainValue → List NodeTexts → Type 0
AllShown ss vs us = (ps : List Both) × (vs ≡ values_in ps) × (us ≡ texts_in ps) × FitsPairs ss ps

node_shown : (p a : ℕ) (r : Production) (ts : List PlainLexeme) (vs : List PlainValue) (us : List NodeTexts) → slice_get java_productions p ≡ Some r → r.head ≡ a
    → AllShown r.body vs us → IsProperNode (action_of p) (filled (all_of Nothing) vs) → Shown a (value_of_node p ts vs) (texts_of_node p ts us)
node_shown p a r ts vs us at is (ps, e, g, h) q =
    subst (λ b. Shown b (value_of_node p ts vs) (texts_of_node p ts us)) is
    (subst (λ o. Shown r.head (value_of_node p ts vs) (option_map_or (λ s. node_texts s ts (filled (all_of no_texts) us)) o no_texts)) (sym at)
    (shows p r at ts (filled (all_of Nothing) vs) (filled (all_of no_texts) us) parts q))
  where
    parts : Fits r.body (filled (all_of Nothing) vs) (filled (all_of no_texts) us)
    parts =
        subst (λ ws. Fits r.body (filled (all_of Nothing) ws) (filled (all_of no_texts) us)) (sym e)
        (subst (λ xs. Fits r.body (filled (all_of Nothing) (values_in ps)) (filled (all_of no_texts) xs)) (sym g) (fits r.body ps (few_names p r at) h))

pub shown : (f : Forest) (ss : List Symbol) (after : List ℕ) (ts : List PlainLexeme) → IsForest java_productions f ss after → IsProper f ts → AllShown ss (values value_of_node f ts) (values texts_of_node f ts)
shown Done [] after ts h q = ([], refl, refl, refl)
shown Done (s ∷ ss) after ts h q = absurd h
shown (Leaf k f) [] after ts h q = absurd h
shown (Leaf k f) (Token j ∷ ss) after ts h q = shown f ss after (drop 1 ts) h.1 q
shown (Leaf k f) (Name a ∷ ss) after ts h q = absurd h
shown (Node p c f) [] after ts h q = absurd h
shown (Node p c f) (Token j ∷ ss) after ts h q = absurd h
shown (Node p c f) (Name a ∷ ss) after ts (r, at, is, unless, below, behind) (proper, q, others) =
    let (ps, ws, xs, fit) = shown f ss after (drop (length (yield c)) ts) behind others in
    let node = node_shown p a r ts (values value_of_node c ts) (values texts_of_node c ts) at is (shown c r.body (yield f ++ after) ts below q) proper in (
      (value_of_node p ts (values value_of_node c ts), texts_of_node p ts (values texts_of_node c ts)) ∷ ps,
      ap (λ l. value_of_node p ts (values value_of_node c ts) ∷ l) ws,
      ap (λ l. texts_of_node p ts (values texts_of_node c ts) ∷ l) xs,
      (node, fit),
    )

-- ---- a file

pub texts_kept : (f : Forest) (ts : List PlainLexeme) → IsForest java_productions f (Name COMPILATION_UNIT ∷ []) [] → IsProper f ts → texts_of_tree f ts ≡ unit_texts (unit_of f ts)
texts_kept f ts h q = by (shown f (Name COMPILATION_UNIT ∷ []) [] ts h q)
  where
    by : AllShown (Name COMPILATION_UNIT ∷ []) (values value_of_node f ts) (values texts_of_node f ts) → texts_of_tree f ts ≡ unit_texts (unit_of f ts)
    by ([], e, g, k) = absurd k
    by (p ∷ ps, e, g, k) = ap (λ us. (first_of_all us).texts) g ∙ k.0 ∙ sym (ap (λ vs. unit_texts (unit_by (first_value vs))) e)

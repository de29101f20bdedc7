-- The tree of a derivation over lexemes whose identifiers are such has identifiers for names.
use Rattle.std.proofs.Common.{◌≡◌, ℕ, zero, suc, ◌+◌, ◌≤◌, Bool, true, nat_le, List, [], ◌∷◌, ◌++◌, map, drop, length, Some, refl, sym, ap, subst, ◌∙◌, append_assoc, arith}
use Rattle.std.specs.List.{AllByRecursion as Every, slice_get, list_all}
use Rattle.std.proofs.Math.Seq.{drop-append_seam}
use Rattle.std.proofs.lemmas.Bool.{and_parts}
use Rattle.std.proofs.lemmas.Bool.Decides.{nat_tests}
use Rattle.std.proofs.lemmas.List.{append-nil, drop-map}
use Rattle.std.proofs.lemmas.Option.{same_Some}
use Rattle.jd_grammar.specs.Grammars.{Production, Forest, Done, Leaf, Node, yield, IsForest}
use Rattle.jd_grammar.specs.Folds.{values, name_count}
use Rattle.jd_grammar.specs.Nodes.{all_of, filled}
use Rattle.jd_grammar.specs.declared.table.Symbol.{Symbol}
use Rattle.jd_grammar.specs.declared.table.Symbol.TheVariants.{Token, Name}
use Rattle.jd_java_grammar.specs.Productions.{java_productions}
use Rattle.jd_java_grammar.specs.declared.names.TheConstants.{COMPILATION_UNIT}
use Rattle.jd_java_grammar.specs.declared.kinds.TheConstants.{IDENTIFIER}
use Rattle.jd_java_tokens.specs.Contents.{PlainLexeme}
use Rattle.jd_java_tokens.specs.Heads.{word_in}
use Rattle.jd_java_values.specs.Values.{PlainValue, Nothing}
use Rattle.jd_java_trees.specs.Meaning.{value_of_node, first_value, unit_by, unit_of}
use Rattle.jd_names.specs.Identifiers.{is_identifier}
use Rattle.jd_java_names.proofs.Every.{every_drop}
use Rattle.jd_java_names.proofs.Named.{UnitIsNamed, Shown}
use Rattle.jd_java_names.proofs.Table.{Fits, BeginsSo, Shows, Each, each}

-- ---- one production of the list

at_each : (g : List Production) (n p : ℕ) (r : Production) → Each n g → slice_get g p ≡ Some r → Shows (n + p) r
at_each [] n p r h e = absurd cc
at_each (x ∷ g) n zero r h e =
    let same : n ≡ n + 0 = omega arith in
    subst (λ m. Shows m r) same (subst (Shows n) (same_Some x r e) h.0)
at_each (x ∷ g) n (suc p) r h e =
    let same : n + 1 + p ≡ n + suc p = omega arith in
    subst (λ m. Shows m r) same (at_each g (n + 1) p r h.1 e)

shows : (p : ℕ) (r : Production) → slice_get java_productions p ≡ Some r → Shows p r
shows p r e =
    let same : 0 + p ≡ p = omega arith in
    subst (λ m. Shows m r) same (at_each java_productions 0 p r each e)

test_at : (test : Production → Bool) (g : List Production) (p : ℕ) (r : Production) → list_all test g ≡ true → slice_get g p ≡ Some r → test r ≡ true
test_at test [] p r all e = absurd cc
test_at test (x ∷ g) zero r all e = ap test (sym (same_Some x r e)) ∙ (and_parts (test x) (list_all test g) all).0
test_at test (x ∷ g) (suc p) r all e = test_at test g p r (and_parts (test x) (list_all test g) all).1 e

few : list_all (λ r. nat_le (name_count r.body) 4) java_productions ≡ true
few = refl

few_names : (p : ℕ) (r : Production) → slice_get java_productions p ≡ Some r → name_count r.body ≤ 4
few_names p r e = let t = test_at (λ s. nat_le (name_count s.body) 4) java_productions p r few e in grind (arith, nat_tests, t)

-- ---- values as the parts of a node

abbrev FitValues : List Symbol → List PlainValue → Type 0
FitValues [] vs = vs ≡ []
FitValues (Token kind ∷ ss) vs = FitValues ss vs
FitValues (Name a ∷ ss) [] = ⊥
FitValues (Name a ∷ ss) (v ∷ vs) = Shown a v × FitValues ss vs

abbrev AreParts : List Symbol → List PlainValue → Type 0
AreParts ss vs = Fits ss (filled (all_of Nothing) vs)

no_cons : {A : Type 0} (x : A) (xs : List A) → x ∷ xs ≡ [] → ⊥
no_cons x xs e = cc

fits0 : (ss : List Symbol) → FitValues ss [] → AreParts ss []
fits0 [] h = tt
fits0 (Token kind ∷ ss) h = fits0 ss h
fits0 (Name a ∷ ss) h = absurd h

fits1 : (ss : List Symbol) (u : PlainValue) → FitValues ss (u ∷ []) → AreParts ss (u ∷ [])
fits1 [] u h = absurd (no_cons u [] h)
fits1 (Token kind ∷ ss) u h = fits1 ss u h
fits1 (Name a ∷ ss) u h = (h.0, fits0 ss h.1)

fits2 : (ss : List Symbol) (u v : PlainValue) → FitValues ss (u ∷ v ∷ []) → AreParts ss (u ∷ v ∷ [])
fits2 [] u v h = absurd (no_cons u (v ∷ []) h)
fits2 (Token kind ∷ ss) u v h = fits2 ss u v h
fits2 (Name a ∷ ss) u v h = (h.0, fits1 ss v h.1)

fits3 : (ss : List Symbol) (u v w : PlainValue) → FitValues ss (u ∷ v ∷ w ∷ []) → AreParts ss (u ∷ v ∷ w ∷ [])
fits3 [] u v w h = absurd (no_cons u (v ∷ w ∷ []) h)
fits3 (Token kind ∷ ss) u v w h = fits3 ss u v w h
fits3 (Name a ∷ ss) u v w h = (h.0, fits2 ss v w h.1)

fits4 : (ss : List Symbol) (u v w x : PlainValue) → FitValues ss (u ∷ v ∷ w ∷ x ∷ []) → AreParts ss (u ∷ v ∷ w ∷ x ∷ [])
fits4 [] u v w x h = absurd (no_cons u (v ∷ w ∷ x ∷ []) h)
fits4 (Token kind ∷ ss) u v w x h = fits4 ss u v w x h
fits4 (Name a ∷ ss) u v w x h = (h.0, fits3 ss v w x h.1)

count : (ss : List Symbol) (vs : List PlainValue) → FitValues ss vs → length vs ≡ name_count ss
count [] vs h = ap length h
count (Token kind ∷ ss) vs h = count ss vs h
count (Name a ∷ ss) [] h = absurd h
count (Name a ∷ ss) (v ∷ vs) h = let k = count ss vs h.1 in omega (arith, k)

fits : (ss : List Symbol) (vs : List PlainValue) → name_count ss ≤ 4 → FitValues ss vs → AreParts ss vs
fits ss [] le h = fits0 ss h
fits ss (u ∷ []) le h = fits1 ss u h
fits ss (u ∷ v ∷ []) le h = fits2 ss u v h
fits ss (u ∷ v ∷ w ∷ []) le h = fits3 ss u v w h
fits ss (u ∷ v ∷ w ∷ x ∷ []) le h = fits4 ss u v w x h
fits ss (u ∷ v ∷ w ∷ x ∷ y ∷ vs) le h =
    let k = count ss (u ∷ v ∷ w ∷ x ∷ y ∷ vs) h in
    let no_more : ⊥ = omega (arith, k, le) in
    absurd no_more

-- ---- the tokens of a node

-- the word of an identifier is one
abbrev pub IsSo : PlainLexeme → Type 0
IsSo l = l.kind ≡ IDENTIFIER → is_identifier (word_in l.content) ≡ true

abbrev kinds : List PlainLexeme → List ℕ
kinds ts = map (λ t. t.kind) ts

kinds_behind : (n : ℕ) (ts : List PlainLexeme) (ks : List ℕ) → kinds ts ≡ ks → kinds (drop n ts) ≡ drop n ks
kinds_behind n ts ks e = sym (drop-map (λ (t : PlainLexeme). t.kind) n ts) ∙ ap (λ l. drop n l) e

begins_so : (ss : List Symbol) (f : Forest) (after : List ℕ) (ts : List PlainLexeme) (ks : List ℕ) → IsForest java_productions f ss after → Every IsSo ts
    → kinds ts ≡ yield f ++ ks → BeginsSo ss ts
begins_so [] f after ts ks h so e = tt
begins_so (Name a ∷ ss) f after ts ks h so e = tt
begins_so (Token kind ∷ ss) Done after ts ks h so e = absurd h
begins_so (Token kind ∷ ss) (Node p c f) after ts ks h so e = absurd h
begins_so (Token kind ∷ ss) (Leaf k f) after [] ks h so e = absurd (no_cons k (yield f ++ ks) (sym e))
begins_so (Token kind ∷ ss) (Leaf k f) after (t ∷ ts) ks h so e = λ is. so.0 (same_head t.kind k (kinds ts) (yield f ++ ks) e ∙ sym h.0 ∙ is)
  where
    same_head : (x y : ℕ) (xs ys : List ℕ) → x ∷ xs ≡ y ∷ ys → x ≡ y
    same_head x y xs ys e = cc

-- ---- trees

node_shown : (p a : ℕ) (r : Production) (ts : List PlainLexeme) (vs : List PlainValue) → slice_get java_productions p ≡ Some r → r.head ≡ a
    → FitValues r.body vs → BeginsSo r.body ts → Shown a (value_of_node p ts vs)
node_shown p a r ts vs at is fit begins =
    subst (λ b. Shown b (value_of_node p ts vs)) is
    (shows p r at ts (filled (all_of Nothing) vs) (fits r.body vs (few_names p r at) fit) begins)

shown : (f : Forest) (ss : List Symbol) (after : List ℕ) (ts : List PlainLexeme) (ks : List ℕ) → IsForest java_productions f ss after → Every IsSo ts
    → kinds ts ≡ yield f ++ ks → FitValues ss (values value_of_node f ts)
shown Done [] after ts ks h so e = refl
shown Done (s ∷ ss) after ts ks h so e = absurd h
shown (Leaf k f) [] after ts ks h so e = absurd h
shown (Leaf k f) (Token j ∷ ss) after ts ks h so e = shown f ss after (drop 1 ts) ks h.1 (every_drop IsSo 1 ts so) (kinds_behind 1 ts (k ∷ (yield f ++ ks)) e)
shown (Leaf k f) (Name a ∷ ss) after ts ks h so e = absurd h
shown (Node p c f) [] after ts ks h so e = absurd h
shown (Node p c f) (Token j ∷ ss) after ts ks h so e = absurd h
shown (Node p c f) (Name a ∷ ss) after ts ks (r, at, is, unless, below, behind) so e =
    let inner : kinds ts ≡ yield c ++ (yield f ++ ks) = e ∙ append_assoc (yield c) (yield f) ks in
    let outer : kinds (drop (length (yield c)) ts) ≡ yield f ++ ks = kinds_behind (length (yield c)) ts _ inner ∙ drop-append_seam (yield c) (yield f ++ ks) in
    let parts = shown c r.body (yield f ++ after) ts (yield f ++ ks) below so inner in
    let begins = begins_so r.body c (yield f ++ after) ts (yield f ++ ks) below so inner in (
      node_shown p a r ts (values value_of_node c ts) at is parts begins,
      shown f ss after (drop (length (yield c)) ts) ks behind (every_drop IsSo (length (yield c)) ts so) outer,
    )

-- ---- a file

pub unit_named : (f : Forest) (ts : List PlainLexeme) → IsForest java_productions f (Name COMPILATION_UNIT ∷ []) []
    → yield f ≡ kinds ts → Every IsSo ts → UnitIsNamed (unit_of f ts)
unit_named f ts h e so = by (values value_of_node f ts) (shown f (Name COMPILATION_UNIT ∷ []) [] ts [] h so (sym e ∙ sym (append-nil (yield f))))
  where
    by : (vs : List PlainValue) → FitValues (Name COMPILATION_UNIT ∷ []) vs → UnitIsNamed (unit_by (first_value vs))
    by [] k = absurd k
    by (v ∷ vs) k = k.0

-- The tree of a derivation over the lexemes of tokens calls its variables by words.
use Rattle.std.proofs.Common.{◌≡◌, ℕ, zero, suc, ◌+◌, List, [], ◌∷◌, ◌++◌, map, drop, length, Some, refl, sym, ap, subst, ◌∙◌, append_assoc, arith}
use Rattle.std.specs.List.{AllByRecursion as Every, slice_get}
use Rattle.std.proofs.Math.Seq.{drop-append_seam}
use Rattle.std.proofs.lemmas.List.{append-nil, drop-map}
use Rattle.std.proofs.lemmas.Option.{same_Some}
use Rattle.jd_grammar.specs.Grammars.{Production, Forest, Done, Leaf, Node, yield, IsForest}
use Rattle.jd_grammar.specs.Folds.{values}
use Rattle.jd_grammar.specs.declared.table.Symbol.{Symbol}
use Rattle.jd_grammar.specs.declared.table.Symbol.TheVariants.{Token, Name}
use Rattle.jd_java_grammar.specs.Productions.{java_productions}
use Rattle.jd_java_grammar.specs.declared.names.TheConstants.{COMPILATION_UNIT}
use Rattle.jd_java_tokens.specs.Contents.{PlainLexeme}
use Rattle.jd_java_values.specs.Values as shapes
use Rattle.jd_java_values.specs.Values.{PlainValue}
use Rattle.jd_java_trees.specs.Meaning.{value_of_node, first_value, unit_by, unit_of}
use Rattle.jd_java_names.proofs.Every.{every_drop}
use Rattle.jd_variable_words.proofs.Good.{Good, GoodUnit}
use Rattle.jd_variable_words.proofs.Table.{Begins, Each, FitValues, Shown, Shows, each}
use Rattle.jd_variable_words.proofs.Tokens.{TokenSo}

at_each : (g : List Production) (n p : ℕ) (r : Production) → Each n g → slice_get g p ≡ Some r → Shows (n + p) r
at_each [] n p r h e = absurd cc
at_each (x ∷ g) n zero r h e =
    let same : n ≡ n + 0 = omega arith in
    subst (λ m. Shows m r) same (subst (Shows n) (same_Some x r e) h.0)
at_each (x ∷ g) n (suc p) r h e =
    let same : n + 1 + p ≡ n + suc p = omega arith in
    subst (λ m. Shows m r) same (at_each g (n + 1) p r h.1 e)

shows : (p : ℕ) (r : Production) → slice_get java_productions p ≡ Some r → Shows p r
shows p r e =
    let same : 0 + p ≡ p = omega arith in
    subst (λ m. Shows m r) same (at_each java_productions 0 p r each e)

-- ---- the tokens of a node

abbrev kinds : List PlainLexeme → List ℕ
kinds ts = map (λ t. t.kind) ts

kinds_behind : (n : ℕ) (ts : List PlainLexeme) (ks : List ℕ) → kinds ts ≡ ks → kinds (drop n ts) ≡ drop n ks
kinds_behind n ts ks e = sym (drop-map (λ (t : PlainLexeme). t.kind) n ts) ∙ ap (λ l. drop n l) e

no_cons : {A : Type 0} (x : A) (xs : List A) → x ∷ xs ≡ [] → ⊥
no_cons x xs e = cc

begins : (ss : List Symbol) (f : Forest) (after : List ℕ) (ts : List PlainLexeme) (ks : List ℕ) → IsForest java_productions f ss after → kinds ts ≡ yield f ++ ks → Begins ss ts
begins [] f after ts ks h e = tt
begins (Name a ∷ ss) f after ts ks h e = tt
begins (Token kind ∷ ss) Done after ts ks h e = absurd h
begins (Token kind ∷ ss) (Node p c f) after ts ks h e = absurd h
begins (Token kind ∷ ss) (Leaf k f) after [] ks h e = absurd (no_cons k (yield f ++ ks) (sym e))
begins (Token kind ∷ ss) (Leaf k f) after (t ∷ ts) ks h e = same_head t.kind k (kinds ts) (yield f ++ ks) e ∙ sym h.0
  where
    same_head : (x y : ℕ) (xs ys : List ℕ) → x ∷ xs ≡ y ∷ ys → x ≡ y
    same_head x y xs ys e = cc

-- ---- trees

node_shown : (p a : ℕ) (r : Production) (ts : List PlainLexeme) (vs : List PlainValue) → slice_get java_productions p ≡ Some r → r.head ≡ a → Every TokenSo ts → FitValues r.body vs → Begins r.body ts → Shown a (value_of_node p ts vs)
node_shown p a r ts vs at is so fit begun = subst (λ b. Shown b (value_of_node p ts vs)) is (shows p r at ts vs so fit begun)

shown : (f : Forest) (ss : List Symbol) (after : List ℕ) (ts : List PlainLexeme) (ks : List ℕ) → IsForest java_productions f ss after → Every TokenSo ts
    → kinds ts ≡ yield f ++ ks → FitValues ss (values value_of_node f ts)
shown Done [] after ts ks h so e = refl
shown Done (s ∷ ss) after ts ks h so e = absurd h
shown (Leaf k f) [] after ts ks h so e = absurd h
shown (Leaf k f) (Token j ∷ ss) after ts ks h so e = shown f ss after (drop 1 ts) ks h.1 (every_drop TokenSo 1 ts so) (kinds_behind 1 ts (k ∷ (yield f ++ ks)) e)
shown (Leaf k f) (Name a ∷ ss) after ts ks h so e = absurd h
shown (Node p c f) [] after ts ks h so e = absurd h
shown (Node p c f) (Token j ∷ ss) after ts ks h so e = absurd h
shown (Node p c f) (Name a ∷ ss) after ts ks (r, at, is, unless, below, behind) so e =
    let inner : kinds ts ≡ yield c ++ (yield f ++ ks) = e ∙ append_assoc (yield c) (yield f) ks in
    let outer : kinds (drop (length (yield c)) ts) ≡ yield f ++ ks = kinds_behind (length (yield c)) ts _ inner ∙ drop-append_seam (yield c) (yield f ++ ks) in
    let parts = shown c r.body (yield f ++ after) ts (yield f ++ ks) below so inner in
    let begun = begins r.body c (yield f ++ after) ts (yield f ++ ks) below inner in (
      node_shown p a r ts (values value_of_node c ts) at is so parts begun,
      shown f ss after (drop (length (yield c)) ts) ks behind (every_drop TokenSo (length (yield c)) ts so) outer,
    )

-- ---- a file

of_value : (v : PlainValue) → Good v → GoodUnit (unit_by v)
of_value (shapes.Classes cs) h = h
of_value v h = tt

pub unit_good : (f : Forest) (ts : List PlainLexeme) → IsForest java_productions f (Name COMPILATION_UNIT ∷ []) [] → yield f ≡ kinds ts → Every TokenSo ts → GoodUnit (unit_of f ts)
unit_good f ts h e so = by (values value_of_node f ts) (shown f (Name COMPILATION_UNIT ∷ []) [] ts [] h so (sym e ∙ sym (append-nil (yield f))))
  where
    by : (vs : List PlainValue) → FitValues (Name COMPILATION_UNIT ∷ []) vs → GoodUnit (unit_by (first_value vs))
    by [] k = absurd k
    by (v ∷ vs) k = of_value v k.0.0

-- Below expressions and statements nothing is left out but tokens, so the texts of a node are those of its leaves.
use Rattle.std.proofs.Common.{◌≡◌, ℕ, ◌≤◌, Bool, true, false, cond, not, ◌&&◌, ◌||◌, true≢false, ◌==◌, List, [], ◌∷◌, ◌++◌, map, drop, length, Some, refl, sym, ap, ◌∙◌, arith, append_assoc}
use Rattle.std.specs.List.{slice_get, list_all}
use Rattle.std.specs.Option.{option_map_or}
use Rattle.std.proofs.lemmas.List.{append-nil}
use Rattle.std.proofs.lemmas.List.Concat.{flat_map-append}
use Rattle.std.proofs.lemmas.Bool.{eqb-true}
use Rattle.jd_grammar.specs.Grammars.{Production, Forest, Done, Leaf, Node, yield, IsForest}
use Rattle.jd_grammar.specs.Folds.{values, name_count}
use Rattle.jd_grammar.specs.Nodes.{all_of, filled}
use Rattle.jd_grammar.specs.declared.table.Symbol.{Symbol}
use Rattle.jd_grammar.specs.declared.table.Symbol.TheVariants.{Token, Name}
use Rattle.jd_java_grammar.specs.Productions.{java_productions}
use Rattle.jd_java_grammar.specs.declared.kinds.TheConstants as kinds
use Rattle.jd_java_grammar.specs.declared.names.TheConstants as names
use Rattle.jd_java_tokens.specs.Contents.{PlainLexeme}
use Rattle.jd_java_tokens.specs.Heads.{text_of, number_of}
use Rattle.jd_java_tokens.specs.Words.{reserved_words, used_signs}
use Rattle.std.specs.Fmt.{decimal}
use Rattle.jd_java_texts.specs.Texts.{Texts}
use Rattle.jd_java_texts.specs.Kept.{is_among, kinds_left_out, kinds_of_numbers, first_spelled, token_text, body_texts, names_left_out, NodeTexts, no_texts, all_texts, node_texts, texts_of_node, first_of_all, texts_of_tree}
use Rattle.jd_java_texts.specs.Tokens.{lexeme_texts, tokens_texts, IsOver}
use Rattle.jd_java_texts.proofs.Shapes.{two}
use Rattle.jd_java_texts.proofs.Trees.{test_at, few_names, no_cons}

-- ---- the leaves

abbrev leaf_texts : Forest → List PlainLexeme → Texts
leaf_texts Done ts = []
leaf_texts (Leaf k f) ts = token_text k ts ++ leaf_texts f (drop 1 ts)
leaf_texts (Node p c f) ts = leaf_texts c ts ++ leaf_texts f (drop (length (yield c)) ts)

abbrev kinds_in : List PlainLexeme → List ℕ
kinds_in ls = map (λ (l : PlainLexeme). l.kind) ls

same_head : (j k : ℕ) (js ks : List ℕ) → j ∷ js ≡ k ∷ ks → j ≡ k
same_head j k js ks e = cc

same_tail : (j k : ℕ) (js ks : List ℕ) → j ∷ js ≡ k ∷ ks → js ≡ ks
same_tail j k js ks e = cc

-- tokens in two parts
abbrev InTwo : List PlainLexeme → List ℕ → List ℕ → Type 0
InTwo ls js ks = (xs ys : List PlainLexeme) × (ls ≡ xs ++ ys) × (kinds_in xs ≡ js) × (kinds_in ys ≡ ks)

in_two : (ls : List PlainLexeme) (js ks : List ℕ) → kinds_in ls ≡ js ++ ks → InTwo ls js ks
in_two ls [] ks e = ([], ls, refl, refl, e)
in_two [] (j ∷ js) ks e = absurd (no_cons j (js ++ ks) (sym e))
in_two (l ∷ ls) (j ∷ js) ks e =
    let (xs, ys, is, x, y) = in_two ls js ks (same_tail l.kind j (kinds_in ls) (js ++ ks) e) in
    (l ∷ xs, ys, ap (λ zs. l ∷ zs) is, two (λ k zs. k ∷ zs) (same_head l.kind j (kinds_in ls) (js ++ ks) e) x, y)

behind_first : (xs ys : List PlainLexeme) (js : List ℕ) → kinds_in xs ≡ js → drop (length js) (xs ++ ys) ≡ ys
behind_first [] ys js e = ap (λ ks. drop (length ks) ys) (sym e)
behind_first (x ∷ xs) ys js e = ap (λ ks. drop (length ks) (x ∷ xs ++ ys)) (sym e) ∙ behind_first xs ys (kinds_in xs) refl

leaves_over : (f : Forest) (ls behind : List PlainLexeme) → kinds_in ls ≡ yield f → leaf_texts f (ls ++ behind) ≡ tokens_texts ls
leaves_over Done [] behind e = refl
leaves_over Done (l ∷ ls) behind e = absurd (no_cons l.kind (kinds_in ls) e)
leaves_over (Leaf k f) [] behind e = absurd (no_cons k (yield f) (sym e))
leaves_over (Leaf k f) (l ∷ ls) behind e =
    two (λ x y. x ++ y) (ap (λ j. token_text j (l ∷ [])) (sym (same_head l.kind k (kinds_in ls) (yield f) e))) (leaves_over f ls behind (same_tail l.kind k (kinds_in ls) (yield f) e))
leaves_over (Node p c f) ls behind e =
    let (xs, ys, is, x, y) = in_two ls (yield c) (yield f) e in
    ap (λ zs. leaf_texts (Node p c f) (zs ++ behind)) is
    ∙ ap (λ zs. leaf_texts (Node p c f) zs) (append_assoc xs ys behind)
    ∙ two (λ s t. s ++ t) (leaves_over c xs (ys ++ behind) x) (ap (leaf_texts f) (behind_first xs (ys ++ behind) (yield c) x) ∙ leaves_over f ys behind y)
    ∙ sym (flat_map-append lexeme_texts xs ys)
    ∙ sym (ap tokens_texts is)

-- ---- names below which nothing is left out

abbrev plain_names : List ℕ
plain_names =
    names.TYPE
    ∷ names.DIMENSION
    ∷ names.CONSTRUCTOR_BODY
    ∷ names.CONSTRUCTOR_STATEMENTS
    ∷ names.BLOCK
    ∷ names.BLOCK_STATEMENTS
    ∷ names.BLOCK_STATEMENT
    ∷ names.BLOCK_STATEMENT_BEHIND_NAME
    ∷ names.VARIABLES
    ∷ names.INITIALIZER
    ∷ names.MORE_VARIABLES
    ∷ names.STATEMENT
    ∷ names.STATEMENT_BEHIND_NAME
    ∷ names.STATEMENT_WITHOUT_NAME
    ∷ names.ELSE
    ∷ names.LOOP
    ∷ names.ANNOTATED_LOOP
    ∷ names.LOOP_BEHIND_LABEL
    ∷ names.FOR_INIT
    ∷ names.FOR_INIT_BEHIND_NAME
    ∷ names.FOR_TEST
    ∷ names.FOR_UPDATE
    ∷ names.MORE_EFFECTS
    ∷ names.TARGET
    ∷ names.RESULT
    ∷ names.RESCUE
    ∷ names.CATCHES
    ∷ names.CATCH
    ∷ names.FINAL
    ∷ names.FINALLY
    ∷ names.EFFECT
    ∷ names.NAME_EFFECT
    ∷ names.OTHER_EFFECT
    ∷ names.EFFECT_CREATION
    ∷ names.EFFECT_TAIL
    ∷ names.EXPRESSION
    ∷ names.ASSIGNMENT_TAIL
    ∷ names.CONDITIONAL
    ∷ names.CONDITIONAL_TAIL
    ∷ names.OR
    ∷ names.OR_TAIL
    ∷ names.AND
    ∷ names.AND_TAIL
    ∷ names.EQUALITY
    ∷ names.EQUALITY_TAIL
    ∷ names.RELATIONAL
    ∷ names.RELATIONAL_TAIL
    ∷ names.REFERENCE_TYPE
    ∷ names.ADDITIVE
    ∷ names.ADDITIVE_TAIL
    ∷ names.MULTIPLICATIVE
    ∷ names.MULTIPLICATIVE_TAIL
    ∷ names.UNARY
    ∷ names.NEGATED
    ∷ names.UNSIGNED
    ∷ names.PARENTHESIS
    ∷ names.INT_CAST
    ∷ names.BEHIND_PARENTHESIS
    ∷ names.LITERAL
    ∷ names.CREATION
    ∷ names.ARRAY_SUFFIX
    ∷ names.ARRAY_MEMBER
    ∷ names.CALL
    ∷ names.ARGUMENTS
    ∷ names.MORE_ARGUMENTS
    ∷ names.SUFFIXES
    ∷ names.COUNT
    ∷ names.IDENTIFIER
    ∷ []

abbrev is_plain : ℕ → Bool
is_plain a = is_among plain_names a

-- the kinds whose texts hang on the token
abbrev spoken : ℕ → Bool
spoken k = (k == kinds.IDENTIFIER) || is_among kinds_of_numbers k

abbrev all_unspoken : List Symbol → Bool
all_unspoken [] = true
all_unspoken (Token k ∷ ss) = not (spoken k) && all_unspoken ss
all_unspoken (Name a ∷ ss) = is_plain a && all_unspoken ss

abbrev is_plain_body : List Symbol → Bool
is_plain_body (Token k ∷ ss) = all_unspoken ss
is_plain_body ss = all_unspoken ss

all_plain : list_all (λ r. cond (is_plain r.head) (is_plain_body r.body) true) java_productions ≡ true
all_plain = refl

abbrev is_special : ℕ → Bool
is_special a =
    (a == names.MEMBER_DECLARATION) || (is_among names_left_out a || ((a == names.COMPILATION_UNIT) || ((a == names.MODIFIER) || ((a == names.MODIFIERS) || ((a == names.PARAMETER) || ((a == names.MAGNITUDE) || (a == names.CONSTANT)))))))

none_special : list_all (λ a. not (is_special a)) plain_names ≡ true
none_special = refl

both_true : (a b : Bool) → (a && b) ≡ true → (a ≡ true) × (b ≡ true)
both_true true b e = (refl, e)
both_true false b e = absurd (true≢false (sym e))

both_false : (a b : Bool) → (a || b) ≡ false → (a ≡ false) × (b ≡ false)
both_false true b e = absurd (true≢false e)
both_false false b e = (refl, e)

not_true : (b : Bool) → not b ≡ true → b ≡ false
not_true true e = absurd (true≢false (sym e))
not_true false e = refl

-- what holds of each of a list
of_each : (test : ℕ → Bool) (xs : List ℕ) (a : ℕ) → list_all test xs ≡ true → is_among xs a ≡ true → test a ≡ true
of_each test [] a all e = absurd (true≢false (sym e))
of_each test (x ∷ xs) a all e =
    let (here, others) = both_true (test x) (list_all test xs) all in
    by (a == x) refl here (λ k. of_each test xs a others k) e
  where
    by : (b : Bool) → (a == x) ≡ b → test x ≡ true → (is_among xs a ≡ true → test a ≡ true) → (b || is_among xs a) ≡ true → test a ≡ true
    by true is here others k = ap test (eqb-true a x is) ∙ here
    by false is here others k = others k

plain_body : (p : ℕ) (r : Production) → slice_get java_productions p ≡ Some r → is_plain r.head ≡ true → is_plain_body r.body ≡ true
plain_body p r at e = by (is_plain r.head) e (test_at (λ s. cond (is_plain s.head) (is_plain_body s.body) true) java_productions p r all_plain at)
  where
    by : (b : Bool) → b ≡ true → cond b (is_plain_body r.body) true ≡ true → is_plain_body r.body ≡ true
    by true k t = t
    by false k t = absurd (true≢false (sym k))

if_false : {A : Type 0} (b : Bool) (x y : A) → b ≡ false → cond b x y ≡ y
if_false b x y e = ap (λ c. cond c x y) e

plain_texts : (r : Production) (ts : List PlainLexeme) (vs : List NodeTexts) → is_plain r.head ≡ true
    → (node_texts r ts (filled (all_of no_texts) vs)).texts ≡ body_texts r.body ts (all_texts (filled (all_of no_texts) vs))
plain_texts r ts vs e =
    let none = not_true (is_special r.head) (of_each (λ a. not (is_special a)) plain_names r.head none_special e) in
    let (a, h1) = both_false (r.head == names.MEMBER_DECLARATION) _ none in
    let (b, h2) = both_false (is_among names_left_out r.head) _ h1 in
    let (c, h3) = both_false (r.head == names.COMPILATION_UNIT) _ h2 in
    let (d, h4) = both_false (r.head == names.MODIFIER) _ h3 in
    let (f, h5) = both_false (r.head == names.MODIFIERS) _ h4 in
    let (g, h6) = both_false (r.head == names.PARAMETER) _ h5 in
    let (h, i) = both_false (r.head == names.MAGNITUDE) (r.head == names.CONSTANT) h6 in
    if_false _ _ _ a ∙ (if_false _ _ _ b ∙ (if_false _ _ _ c ∙ (if_false _ _ _ d ∙ (if_false _ _ _ f ∙ (if_false _ _ _ g ∙ (if_false _ _ _ h ∙ if_false _ _ _ i))))))

-- ---- bodies over lists

abbrev list_body : List Symbol → List PlainLexeme → List NodeTexts → Texts
list_body [] ts us = []
list_body (Token k ∷ ss) ts us = token_text k ts ++ list_body ss (drop 1 ts) us
list_body (Name a ∷ ss) ts [] = []
list_body (Name a ∷ ss) ts (u ∷ us) = u.texts ++ list_body ss [] us

abbrev filled_body : List Symbol → List PlainLexeme → List NodeTexts → Texts
filled_body ss ts us = body_texts ss ts (all_texts (filled (all_of no_texts) us))

body0 : (ss : List Symbol) (ts : List PlainLexeme) → name_count ss ≡ 0 → filled_body ss ts [] ≡ list_body ss ts []
body0 [] ts n = refl
body0 (Token k ∷ ss) ts n = ap (λ t. token_text k ts ++ t) (body0 ss (drop 1 ts) n)
body0 (Name a ∷ ss) ts n = let no_more : ⊥ = omega (arith, n) in absurd no_more

body1 : (ss : List Symbol) (ts : List PlainLexeme) (a : NodeTexts) → name_count ss ≡ 1 → filled_body ss ts (a ∷ []) ≡ list_body ss ts (a ∷ [])
body1 [] ts a n = let no_more : ⊥ = omega (arith, n) in absurd no_more
body1 (Token k ∷ ss) ts a n = ap (λ t. token_text k ts ++ t) (body1 ss (drop 1 ts) a n)
body1 (Name x ∷ []) ts a n = sym (append-nil a.texts)
body1 (Name x ∷ s ∷ ss) ts a n = ap (λ t. a.texts ++ t) (body0 (s ∷ ss) [] (omega (arith, n)))

body2 : (ss : List Symbol) (ts : List PlainLexeme) (a b : NodeTexts) → name_count ss ≡ 2 → filled_body ss ts (a ∷ b ∷ []) ≡ list_body ss ts (a ∷ b ∷ [])
body2 [] ts a b n = let no_more : ⊥ = omega (arith, n) in absurd no_more
body2 (Token k ∷ ss) ts a b n = ap (λ t. token_text k ts ++ t) (body2 ss (drop 1 ts) a b n)
body2 (Name x ∷ []) ts a b n = let no_more : ⊥ = omega (arith, n) in absurd no_more
body2 (Name x ∷ s ∷ ss) ts a b n = ap (λ t. a.texts ++ t) (body1 (s ∷ ss) [] b (omega (arith, n)))

body3 : (ss : List Symbol) (ts : List PlainLexeme) (a b c : NodeTexts) → name_count ss ≡ 3 → filled_body ss ts (a ∷ b ∷ c ∷ []) ≡ list_body ss ts (a ∷ b ∷ c ∷ [])
body3 [] ts a b c n = let no_more : ⊥ = omega (arith, n) in absurd no_more
body3 (Token k ∷ ss) ts a b c n = ap (λ t. token_text k ts ++ t) (body3 ss (drop 1 ts) a b c n)
body3 (Name x ∷ []) ts a b c n = let no_more : ⊥ = omega (arith, n) in absurd no_more
body3 (Name x ∷ s ∷ ss) ts a b c n = ap (λ t. a.texts ++ t) (body2 (s ∷ ss) [] b c (omega (arith, n)))

body4 : (ss : List Symbol) (ts : List PlainLexeme) (a b c d : NodeTexts) → name_count ss ≡ 4 → filled_body ss ts (a ∷ b ∷ c ∷ d ∷ []) ≡ list_body ss ts (a ∷ b ∷ c ∷ d ∷ [])
body4 [] ts a b c d n = let no_more : ⊥ = omega (arith, n) in absurd no_more
body4 (Token k ∷ ss) ts a b c d n = ap (λ t. token_text k ts ++ t) (body4 ss (drop 1 ts) a b c d n)
body4 (Name x ∷ []) ts a b c d n = let no_more : ⊥ = omega (arith, n) in absurd no_more
body4 (Name x ∷ s ∷ ss) ts a b c d n = ap (λ t. a.texts ++ t) (body3 (s ∷ ss) [] b c d (omega (arith, n)))

body_is : (ss : List Symbol) (ts : List PlainLexeme) (us : List NodeTexts) → name_count ss ≤ 4 → length us ≡ name_count ss → filled_body ss ts us ≡ list_body ss ts us
body_is ss ts [] le n = body0 ss ts (omega (arith, n))
body_is ss ts (a ∷ []) le n = body1 ss ts a (omega (arith, n))
body_is ss ts (a ∷ b ∷ []) le n = body2 ss ts a b (omega (arith, n))
body_is ss ts (a ∷ b ∷ c ∷ []) le n = body3 ss ts a b c (omega (arith, n))
body_is ss ts (a ∷ b ∷ c ∷ d ∷ []) le n = body4 ss ts a b c d (omega (arith, n))
body_is ss ts (a ∷ b ∷ c ∷ d ∷ e ∷ us) le n = let no_more : ⊥ = omega (arith, n, le) in absurd no_more

texts_count : (f : Forest) (ss : List Symbol) (after : List ℕ) (ts : List PlainLexeme) → IsForest java_productions f ss after → length (values texts_of_node f ts) ≡ name_count ss
texts_count Done [] after ts h = refl
texts_count Done (s ∷ ss) after ts h = absurd h
texts_count (Leaf k f) [] after ts h = absurd h
texts_count (Leaf k f) (Token j ∷ ss) after ts h = texts_count f ss after (drop 1 ts) h.1
texts_count (Leaf k f) (Name a ∷ ss) after ts h = absurd h
texts_count (Node p c f) [] after ts h = absurd h
texts_count (Node p c f) (Token j ∷ ss) after ts h = absurd h
texts_count (Node p c f) (Name a ∷ ss) after ts (r, at, is, unless, below, behind) =
    let n = texts_count f ss after (drop (length (yield c)) ts) behind in
    omega (arith, n)

-- ---- a node's texts are those of its leaves

unspoken_text : (k : ℕ) (ts us : List PlainLexeme) → spoken k ≡ false → token_text k ts ≡ token_text k us
unspoken_text k ts us e =
    let (a, b) = both_false (k == kinds.IDENTIFIER) (is_among kinds_of_numbers k) e in
    ap (λ c. cond (is_among kinds_left_out k) [] (cond c (text_of ts ∷ []) (cond (is_among kinds_of_numbers k) (decimal (number_of ts) ∷ []) spelled))) a
    ∙ ap (λ c. cond (is_among kinds_left_out k) [] (cond c (decimal (number_of ts) ∷ []) spelled)) b
    ∙ sym (ap (λ c. cond (is_among kinds_left_out k) [] (cond c (decimal (number_of us) ∷ []) spelled)) b)
    ∙ sym (ap (λ c. cond (is_among kinds_left_out k) [] (cond c (text_of us ∷ []) (cond (is_among kinds_of_numbers k) (decimal (number_of us) ∷ []) spelled))) a)
  where
    spelled : Texts
    spelled = first_spelled k reserved_words ++ first_spelled k used_signs

abbrev Unspoken : Forest → List Symbol → List PlainLexeme → Type 0
Unspoken f ss ts = all_unspoken ss ≡ true → (us : List PlainLexeme) → leaf_texts f ts ≡ list_body ss us (values texts_of_node f ts)

abbrev Whole : Forest → List Symbol → List PlainLexeme → Type 0
Whole f ss ts = is_plain_body ss ≡ true → leaf_texts f ts ≡ list_body ss ts (values texts_of_node f ts)

node_is : (p a : ℕ) (r : Production) (c : Forest) (after : List ℕ) (ts : List PlainLexeme) → slice_get java_productions p ≡ Some r → r.head ≡ a → is_plain a ≡ true
    → IsForest java_productions c r.body after → Whole c r.body ts → leaf_texts c ts ≡ (texts_of_node p ts (values texts_of_node c ts)).texts
node_is p a r c after ts at is plain below whole =
    let head : is_plain r.head ≡ true = ap is_plain is ∙ plain in
    whole (plain_body p r at head)
    ∙ sym (body_is r.body ts (values texts_of_node c ts) (few_names p r at) (texts_count c r.body after ts below))
    ∙ sym (plain_texts r ts (values texts_of_node c ts) head)
    ∙ sym (ap (λ o. (option_map_or (λ s. node_texts s ts (filled (all_of no_texts) (values texts_of_node c ts))) o no_texts).texts) at)

leaves : (f : Forest) (ss : List Symbol) (after : List ℕ) (ts : List PlainLexeme) → IsForest java_productions f ss after → Unspoken f ss ts × Whole f ss ts
leaves Done [] after ts h = (λ e us. refl, λ e. refl)
leaves Done (s ∷ ss) after ts h = absurd h
leaves (Leaf k f) [] after ts h = absurd h
leaves (Leaf k f) (Token j ∷ ss) after ts h =
    let inner = leaves f ss after (drop 1 ts) h.1 in (
      λ e us. (let (quiet, others) = both_true (not (spoken j)) (all_unspoken ss) e in two (λ x y. x ++ y) (ap (λ i. token_text i ts) (sym h.0) ∙ unspoken_text j ts us (not_true (spoken j) quiet)) (inner.0 others (drop 1 us))),
      λ e. two (λ x y. x ++ y) (ap (λ i. token_text i ts) (sym h.0)) (inner.0 e (drop 1 ts)),
    )
leaves (Leaf k f) (Name a ∷ ss) after ts h = absurd h
leaves (Node p c f) [] after ts h = absurd h
leaves (Node p c f) (Token j ∷ ss) after ts h = absurd h
leaves (Node p c f) (Name a ∷ ss) after ts (r, at, is, unless, below, behind) =
    let node = leaves c r.body (yield f ++ after) ts below in
    let others = leaves f ss after (drop (length (yield c)) ts) behind in
    let both : (is_plain a && all_unspoken ss) ≡ true → leaf_texts (Node p c f) ts ≡ (texts_of_node p ts (values texts_of_node c ts)).texts ++ list_body ss [] (values texts_of_node f (drop (length (yield c)) ts)) =
    λ e. (let (plain, quiet) = both_true (is_plain a) (all_unspoken ss) e in two (λ x y. x ++ y) (node_is p a r c (yield f ++ after) ts at is plain below node.1) (others.0 quiet [])) in
    (λ e us. both e, λ e. both e)

-- ---- names

-- the texts of a node of a plain name are those of its tokens
pub over_tokens : (f : Forest) (a : ℕ) (after : List ℕ) (ls behind : List PlainLexeme) → is_plain a ≡ true → IsForest java_productions f (Name a ∷ []) after → IsOver f ls → texts_of_tree f (ls ++ behind) ≡ tokens_texts ls
over_tokens f a after ls behind plain h over =
    one (values texts_of_node f (ls ++ behind)) (texts_count f (Name a ∷ []) after (ls ++ behind) h)
    ∙ sym ((leaves f (Name a ∷ []) after (ls ++ behind) h).1 (ap (λ b. b && true) plain))
    ∙ leaves_over f ls behind over
  where
    one : (us : List NodeTexts) → length us ≡ 1 → (first_of_all us).texts ≡ list_body (Name a ∷ []) (ls ++ behind) us
    one [] n = refl
    one (u ∷ us) n = sym (append-nil u.texts)

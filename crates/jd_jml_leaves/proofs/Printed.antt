-- The texts of a derivation are those of its leaves.
use Rattle.std.proofs.Common.{◌≡◌, ◌⊎◌, inl, inr, ℕ, ◌≤◌, Bool, true, false, not, ◌&&◌, ◌==◌, cond, nat_le, List, [], ◌∷◌, ◌++◌, drop, length, Some, refl, sym, ap, ◌∙◌, arith}
use Rattle.std.specs.Fmt.{signed_decimal}
use Rattle.std.specs.List.{slice_get}
use Rattle.std.specs.Option.{option_map_or}
use Rattle.std.proofs.lemmas.Bool.{false≢true, and_parts, not-true, leb-true, cond-false}
use Rattle.std.proofs.lemmas.List.{append-nil}
use Rattle.jd_grammar.specs.Grammars.{Production, Forest, Done, Leaf, Node, yield, IsForest}
use Rattle.jd_grammar.specs.Folds.{values, name_count}
use Rattle.jd_grammar.specs.Nodes.{all_of, filled}
use Rattle.jd_grammar.specs.declared.table.Symbol.{Symbol}
use Rattle.jd_grammar.specs.declared.table.Symbol.TheVariants.{Token, Name}
use Rattle.jd_jml_grammar.specs.Productions.{jml_productions}
use Rattle.jd_jml_grammar.specs.declared.kinds.TheConstants as kinds
use Rattle.jd_jml_grammar.specs.declared.names.TheConstants as names
use Rattle.jd_jml_tokens.specs.Lexemes.{PlainLexeme, text_of, number_of}
use Rattle.jd_jml_tokens.specs.Words.{words, used_signs}
use Rattle.jd_jml_print.specs.Texts.{Texts}
use Rattle.jd_jml_texts.specs.Kept.{first_spelled, token_text, rest, body_texts, without_also, production_texts, texts_of_node, texts_of_tree}
use Rattle.jd_jml_trimmed.specs.Trimmed.{begins_with_also, leaves_out, IsTrimmed}
use Rattle.jd_jml_trimmed.proofs.Shapes.{IsShape, shape_of, passes, tested, implies, implied, count}
use Rattle.jd_jml_trimmed.proofs.Near.{two}
use Rattle.jd_jml_leaves.specs.Leaves.{is_name, leaf_texts}

-- ---- the texts of a body by a list of those of its parts

abbrev interleaved : List Symbol → List Texts → List PlainLexeme → Texts
interleaved [] xs ts = []
interleaved (Token kind ∷ ss) xs ts = token_text kind ts ++ interleaved ss xs ts
interleaved (Name a ∷ ss) [] ts = []
interleaved (Name a ∷ ss) (x ∷ xs) ts = x ++ interleaved ss xs ts

first_is : (x : Texts) (xs : List Texts) → (filled (all_of []) (x ∷ xs)).first ≡ x
first_is x [] = refl
first_is x (y ∷ []) = refl
first_is x (y ∷ z ∷ []) = refl
first_is x (y ∷ z ∷ w ∷ xs) = refl

rest_is : (x : Texts) (xs : List Texts) → length xs ≤ 3 → rest [] (filled (all_of []) (x ∷ xs)) ≡ filled (all_of []) xs
rest_is x [] l = refl
rest_is x (y ∷ []) l = refl
rest_is x (y ∷ z ∷ []) l = refl
rest_is x (y ∷ z ∷ w ∷ []) l = refl
rest_is x (y ∷ z ∷ w ∷ v ∷ xs) l = let no_more : ⊥ = omega (arith, l) in absurd no_more

body_is : (ss : List Symbol) (xs : List Texts) (ts : List PlainLexeme) → length xs ≡ name_count ss → name_count ss ≤ 4
    → body_texts ss ts (filled (all_of []) xs) ≡ interleaved ss xs ts
body_is [] xs ts e l = refl
body_is (Token kind ∷ ss) xs ts e l = ap (λ ys. token_text kind ts ++ ys) (body_is ss xs ts e l)
body_is (Name a ∷ []) [] ts e l = let no_more : ⊥ = omega (arith, e) in absurd no_more
body_is (Name a ∷ []) (x ∷ xs) ts e l = first_is x xs ∙ sym (append-nil x)
body_is (Name a ∷ s ∷ ss) [] ts e l = let no_more : ⊥ = omega (arith, e) in absurd no_more
body_is (Name a ∷ s ∷ ss) (x ∷ xs) ts e l =
    two (λ y ys. y ++ ys) (first_is x xs)
    (ap (body_texts (s ∷ ss) ts) (rest_is x xs (omega (arith, e, l))) ∙ body_is (s ∷ ss) xs ts (omega (arith, e)) (omega (arith, l)))

-- ---- tokens that are no names and no numbers

abbrev pub is_plain : ℕ → Bool
is_plain k = not (k == kinds.IDENTIFIER) && not (k == kinds.NUMBER)

abbrev are_plain : List Symbol → Bool
are_plain [] = true
are_plain (Token k ∷ ss) = is_plain k && are_plain ss
are_plain (Name a ∷ ss) = are_plain ss

-- but for the first
abbrev are_plain_behind : List Symbol → Bool
are_plain_behind (Token k ∷ ss) = are_plain ss
are_plain_behind ss = are_plain ss

pub one_way : (k : ℕ) (ts : List PlainLexeme) → is_plain k ≡ true
    → token_text k ts ≡ cond (k == kinds.VISIBILITY) [] (first_spelled k words ++ first_spelled k used_signs)
one_way k ts u =
    let (a, b) = and_parts (not (k == kinds.IDENTIFIER)) (not (k == kinds.NUMBER)) u in
    ap (λ x. cond (k == kinds.VISIBILITY) [] (cond x (text_of ts ∷ []) (cond (k == kinds.NUMBER) (signed_decimal (number_of ts) ∷ []) (first_spelled k words ++ first_spelled k used_signs)))) (not-true (k == kinds.IDENTIFIER) a)
    ∙ ap (λ x. cond (k == kinds.VISIBILITY) [] (cond x (signed_decimal (number_of ts) ∷ []) (first_spelled k words ++ first_spelled k used_signs))) (not-true (k == kinds.NUMBER) b)

plain_token : (k : ℕ) (ts us : List PlainLexeme) → is_plain k ≡ true → token_text k ts ≡ token_text k us
plain_token k ts us u = one_way k ts u ∙ sym (one_way k us u)

-- ---- productions

abbrev is_one_token : List Symbol → Bool
is_one_token (Token k ∷ []) = true
is_one_token ss = false

abbrev fits : ℕ → Production → Bool
fits p r = nat_le (name_count r.body) 4 && (are_plain_behind r.body && implies (r.head == names.IDENTIFIER) (is_one_token r.body))

all_fit : passes fits 0 jml_productions ≡ true
all_fit = refl

record Fits (r : Production) : Type 0 where
  few : name_count r.body ≤ 4
  plain : are_plain_behind r.body ≡ true
  one : (r.head == names.IDENTIFIER) ≡ true → is_one_token r.body ≡ true

fits_at : (p : ℕ) (r : Production) → slice_get jml_productions p ≡ Some r → Fits r
fits_at p r at =
    let (a, b) = and_parts (nat_le (name_count r.body) 4) (are_plain_behind r.body && implies (r.head == names.IDENTIFIER) (is_one_token r.body)) (tested fits p r all_fit at) in
    let (c, d) = and_parts (are_plain_behind r.body) (implies (r.head == names.IDENTIFIER) (is_one_token r.body)) b in
    record { few = leb-true (name_count r.body) 4 a; plain = c; one = implied (r.head == names.IDENTIFIER) (is_one_token r.body) d }

without_none : (ss : List Symbol) → begins_with_also ss ≡ false → without_also ss ≡ ss
without_none [] e = refl
without_none (Token k ∷ ss) e = cond-false (k == kinds.ALSO) ss (Token k ∷ ss) e
without_none (Name a ∷ ss) e = refl

name_leaf : (c : Forest) (ss : List Symbol) (ts : List PlainLexeme) → IsShape c ss → is_one_token ss ≡ true → text_of ts ∷ [] ≡ leaf_texts true c ts
name_leaf c [] ts h u = absurd (false≢true u)
name_leaf c (Name a ∷ ss) ts h u = absurd (false≢true u)
name_leaf c (Token j ∷ s ∷ ss) ts h u = absurd (false≢true u)
name_leaf Done (Token j ∷ []) ts h u = absurd h
name_leaf (Node p d f) (Token j ∷ []) ts h u = absurd h
name_leaf (Leaf k Done) (Token j ∷ []) ts h u = refl
name_leaf (Leaf k (Leaf i f)) (Token j ∷ []) ts h u = absurd h.1
name_leaf (Leaf k (Node p d f)) (Token j ∷ []) ts h u = absurd h.1

node_is : (p : ℕ) (r : Production) (c : Forest) (ts : List PlainLexeme) → slice_get jml_productions p ≡ Some r → IsShape c r.body
    → option_map_or leaves_out (slice_get jml_productions p) false ≡ false
    → interleaved r.body (values texts_of_node c ts) ts ≡ leaf_texts false c ts
    → texts_of_node p ts (values texts_of_node c ts) ≡ leaf_texts (is_name p) c ts
node_is p r c ts at h kept parts =
    ap (λ o. option_map_or (λ s. production_texts s ts (filled (all_of []) (values texts_of_node c ts))) o []) at
    ∙ by (r.head == names.IDENTIFIER) refl
    ∙ ap (λ o. leaf_texts (option_map_or (λ s. s.head == names.IDENTIFIER) o false) c ts) (sym at)
  where
    body : Texts
    body = body_texts r.body ts (filled (all_of []) (values texts_of_node c ts))

    fit : Fits r
    fit = fits_at p r at

    out : leaves_out r ≡ false
    out = sym (ap (λ o. option_map_or leaves_out o false) at) ∙ kept

    bodies : (x : Bool) → (r.head == names.CONTRACT) ≡ x
        → cond x (body_texts (without_also r.body) ts (filled (all_of []) (values texts_of_node c ts))) body ≡ body
    bodies false e = refl
    bodies true e =
        ap (λ ss. body_texts ss ts (filled (all_of []) (values texts_of_node c ts)))
        (without_none r.body (sym (ap (λ x. x && begins_with_also r.body) e) ∙ out))

    by : (x : Bool) → (r.head == names.IDENTIFIER) ≡ x
        → cond x (text_of ts ∷ []) (cond (r.head == names.CONTRACT) (body_texts (without_also r.body) ts (filled (all_of []) (values texts_of_node c ts))) body) ≡ leaf_texts x c ts
    by true e = name_leaf c r.body ts h (fit.one e)
    by false e = bodies (r.head == names.CONTRACT) refl ∙ (body_is r.body (values texts_of_node c ts) ts (count texts_of_node c r.body ts h) fit.few ∙ parts)

-- ---- trees

-- the tokens are plain, or the first is the one that stands there
abbrev Placed : List Symbol → List PlainLexeme → List PlainLexeme → Type 0
Placed ss first ts = (are_plain ss ≡ true) ⊎ ((first ≡ ts) × (are_plain_behind ss ≡ true))

token_placed : (j : ℕ) (ss : List Symbol) (first ts : List PlainLexeme) → Placed (Token j ∷ ss) first ts
    → (token_text j first ≡ token_text j ts) × (are_plain ss ≡ true)
token_placed j ss first ts (inl u) = let (a, b) = and_parts (is_plain j) (are_plain ss) u in (plain_token j first ts a, b)
token_placed j ss first ts (inr (e, u)) = (ap (token_text j) e, u)

name_placed : (a : ℕ) (ss : List Symbol) (first ts : List PlainLexeme) → Placed (Name a ∷ ss) first ts → are_plain ss ≡ true
name_placed a ss first ts (inl u) = u
name_placed a ss first ts (inr (e, u)) = u

all_leaves : (f : Forest) (ss : List Symbol) (first ts : List PlainLexeme) → IsShape f ss → IsTrimmed f → Placed ss first ts
    → interleaved ss (values texts_of_node f ts) first ≡ leaf_texts false f ts
all_leaves Done [] first ts h t w = refl
all_leaves Done (s ∷ ss) first ts h t w = absurd h
all_leaves (Leaf k f) [] first ts h t w = absurd h
all_leaves (Leaf k f) (Token j ∷ ss) first ts h t w =
    let (a, b) = token_placed j ss first ts w in
    two (λ x xs. x ++ xs) (a ∙ ap (λ n. token_text n ts) h.0) (all_leaves f ss first (drop 1 ts) h.1 t.1 (inl b))
all_leaves (Leaf k f) (Name a ∷ ss) first ts h t w = absurd h
all_leaves (Node p c f) [] first ts h t w = absurd h
all_leaves (Node p c f) (Token j ∷ ss) first ts h t w = absurd h
all_leaves (Node p c f) (Name a ∷ ss) first ts (r, at, is, below, behind) (kept, t, others) w =
    two (λ x xs. x ++ xs)
    (node_is p r c ts at below kept (all_leaves c r.body ts ts below t (inr (refl, (fits_at p r at).plain))))
    (all_leaves f ss first (drop (length (yield c)) ts) behind others (inl (name_placed a ss first ts w)))

whole_tree : (f : Forest) (a : ℕ) (ts : List PlainLexeme) → IsShape f (Name a ∷ []) → IsTrimmed f → texts_of_tree f ts ≡ leaf_texts false f ts
whole_tree Done a ts h t = absurd h
whole_tree (Leaf k f) a ts h t = absurd h
whole_tree (Node p c Done) a ts h t =
    sym (append-nil (texts_of_node p ts (values texts_of_node c ts))) ∙ all_leaves (Node p c Done) (Name a ∷ []) ts ts h t (inl refl)
whole_tree (Node p c (Leaf k f)) a ts (r, at, is, below, behind) t = absurd behind
whole_tree (Node p c (Node q d f)) a ts (r, at, is, below, behind) t = absurd behind

pub leaves_printed : (f : Forest) (a : ℕ) (ts : List PlainLexeme) → IsForest jml_productions f (Name a ∷ []) [] → IsTrimmed f
    → texts_of_tree f ts ≡ leaf_texts false f ts
leaves_printed f a ts h t = whole_tree f a ts (shape_of f (Name a ∷ []) [] h) t

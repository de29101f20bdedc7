-- The texts of the leaves of a derivation are those of tokens that say the same.
use Rattle.std.proofs.Common.{◌≡◌, ◌≢◌, ◌⊎◌, inl, inr, ℕ, zero, suc, ◌+◌, Bool, true, false, not, ◌&&◌, ◌||◌, ◌==◌, nat_eq, List, [], ◌∷◌, ◌++◌, map, drop, length, Some, refl, sym, ap, subst, ◌∙◌, append_assoc, length-append}
use Rattle.std.specs.Fmt.{signed_decimal}
use Rattle.std.specs.List.{slice_get}
use Rattle.std.specs.Option.{option_map_or}
use Rattle.std.proofs.lemmas.Bool.{and_parts, or_cases, both_ways, not-true, eqb-true, eq-eqb, ne_eqb, cond-false, false≢true}
use Rattle.std.proofs.lemmas.List.{map-append}
use Rattle.jd_lex.specs.Parts as lexed
use Rattle.jd_lex.specs.Parts.{start_of}
use Rattle.jd_grammar.specs.Grammars.{Production, Forest, Done, Leaf, Node, yield}
use Rattle.jd_grammar.specs.declared.table.Symbol.{Symbol}
use Rattle.jd_grammar.specs.declared.table.Symbol.TheVariants.{Token, Name}
use Rattle.jd_jml_grammar.specs.Productions.{jml_productions}
use Rattle.jd_jml_grammar.specs.declared.kinds.TheConstants as kinds
use Rattle.jd_jml_grammar.specs.declared.names.TheConstants as names
use Rattle.jd_jml_tokens.specs.Words as tokens
use Rattle.jd_jml_tokens.specs.Words.{words, used_signs, word_kind, sign_kind, number_kind}
use Rattle.jd_jml_tokens.specs.Lexemes.{PlainLexeme, kinds_of, word_in, number_in}
use Rattle.jd_jml_print.specs.Texts.{Texts}
use Rattle.jd_jml_texts.specs.Kept.{first_spelled, token_text}
use Rattle.jd_jml_spelled.specs.Clauses.{kind_of, AreTokens}
use Rattle.jd_jml_spelled.specs.Comments.{IsTokenText}
use Rattle.jd_jml_trimmed.specs.Trimmed.{IsTrimmed}
use Rattle.jd_jml_trimmed.proofs.Shapes.{IsShape, passes, tested, implied}
use Rattle.jd_jml_trimmed.proofs.Near.{two}
use Rattle.jd_jml_leaves.specs.Leaves.{is_name, leaf_text, leaf_texts, SaysSame, SayTheSame}
use Rattle.jd_jml_leaves.proofs.Printed.{is_plain, one_way}
use Rattle.jd_jml_reprinted.specs.Reprinted.{IsWhole}
use Rattle.jd_jml_reprinted.proofs.Alone.{is_token_text, tested_text, kind_alone, word_text, number_text}
use Rattle.jd_jml_reprinted.proofs.Words.{is_name_kind, word_passes, sign_passes, number_passes}

-- ---- tokens

abbrev pub HasKind : PlainLexeme → Type 0
HasKind l = l.kind ≡ tokens.kind_of l.token.kind

abbrev pub HaveKinds : List PlainLexeme → Type 0
HaveKinds [] = Unit {0}
HaveKinds (l ∷ ls) = HasKind l × HaveKinds ls

abbrev pub IsRight : PlainLexeme → Type 0
IsRight l = HasKind l × IsWhole l.token.kind

abbrev pub AreRight : List PlainLexeme → Type 0
AreRight [] = Unit {0}
AreRight (l ∷ ls) = IsRight l × AreRight ls

abbrev pub said : List PlainLexeme → List lexed.Kind
said ls = map (λ l. l.token.kind) ls

have_drop : (n : ℕ) (ls : List PlainLexeme) → HaveKinds ls → HaveKinds (drop n ls)
have_drop zero ls h = h
have_drop (suc n) [] h = h
have_drop (suc n) (l ∷ ls) h = have_drop n ls h.1

right_drop : (n : ℕ) (ls : List PlainLexeme) → AreRight ls → AreRight (drop n ls)
right_drop zero ls h = h
right_drop (suc n) [] h = h
right_drop (suc n) (l ∷ ls) h = right_drop n ls h.1

-- ---- lists

map_drop : {A B : Type 0} (f : A → B) (n : ℕ) (xs : List A) → map f (drop n xs) ≡ drop n (map f xs)
map_drop f zero xs = refl
map_drop f (suc n) [] = refl
map_drop f (suc n) (x ∷ xs) = map_drop f n xs

drop_front : {A : Type 0} (xs ys : List A) → drop (length xs) (xs ++ ys) ≡ ys
drop_front [] ys = refl
drop_front (x ∷ xs) ys = drop_front xs ys

drop_all : {A : Type 0} (n : ℕ) (xs ys : List A) → length xs ≡ n → drop n (xs ++ ys) ≡ ys
drop_all n xs ys e = subst (λ m. drop m (xs ++ ys) ≡ ys) e (drop_front xs ys)

pub length_map : {A B : Type 0} (f : A → B) (xs : List A) → length (map f xs) ≡ length xs
length_map f [] = refl
length_map f (x ∷ xs) = ap (λ n. suc n) (length_map f xs)

kinds_drop : (ts : List PlainLexeme) (ks ls : List ℕ) → kinds_of ts ≡ ks ++ ls → kinds_of (drop (length ks) ts) ≡ ls
kinds_drop ts ks ls e = map_drop (λ l. l.kind) (length ks) ts ∙ (ap (drop (length ks)) e ∙ drop_front ks ls)

-- ---- kinds that are printed

abbrev literal_texts : ℕ → Texts
literal_texts k = first_spelled k words ++ first_spelled k used_signs

abbrev is_literal : ℕ → Texts → Bool
is_literal k (x ∷ []) = is_token_text x && nat_eq (tokens.kind_of (kind_of x)) k
is_literal k xs = false

abbrev is_printed : Bool → ℕ → Bool
is_printed true k = is_name_kind k
is_printed false k = (k == kinds.VISIBILITY) || ((k == kinds.NUMBER) || (is_plain k && is_literal k (literal_texts k)))

abbrev pub are_printed : Bool → List Symbol → Bool
are_printed named [] = true
are_printed named (Token k ∷ ss) = is_printed named k && are_printed named ss
are_printed named (Name a ∷ ss) = are_printed named ss

abbrev prints : ℕ → Production → Bool
prints p r = are_printed (r.head == names.IDENTIFIER) r.body

all_print : passes prints 0 jml_productions ≡ true
all_print = refl

prints_at : (p : ℕ) (r : Production) → slice_get jml_productions p ≡ Some r → are_printed (is_name p) r.body ≡ true
prints_at p r at =
    ap (λ o. are_printed (option_map_or (λ (q : Production). q.head == names.IDENTIFIER) o false) r.body) at ∙ tested prints p r all_print at

-- ---- one leaf

name_leaf : (kind : lexed.Kind) (k : ℕ) → tokens.kind_of kind ≡ k → is_name_kind k ≡ true → IsWhole kind
    → IsTokenText (kind_of (word_in kind)) (word_in kind) × (kind_of (word_in kind) ≡ kind)
name_leaf (lexed.Word w) k e u whole =
    let named = implied (is_name_kind (word_kind w)) _ (word_passes w).0 (ap is_name_kind e ∙ u) in
    (word_text w (not-true _ named) whole, kind_alone (start_of true w) (lexed.Word w) w whole)
name_leaf (lexed.Number z) k e u whole = absurd (both_ways (is_name_kind (number_kind z)) (not-true (is_name_kind (number_kind z)) (number_passes z)) (ap is_name_kind e ∙ u))
name_leaf (lexed.Sign s) k e u whole = absurd (both_ways (is_name_kind (sign_kind s)) (not-true (is_name_kind (sign_kind s)) (sign_passes s).0) (ap is_name_kind e ∙ u))

number_leaf : (kind : lexed.Kind) → tokens.kind_of kind ≡ kinds.NUMBER → IsWhole kind
    → IsTokenText (kind_of (signed_decimal (number_in kind))) (signed_decimal (number_in kind)) × (kind_of (signed_decimal (number_in kind)) ≡ kind)
number_leaf (lexed.Word w) e whole = absurd (both_ways (word_kind w == kinds.NUMBER) (not-true (word_kind w == kinds.NUMBER) (word_passes w).1) (eq-eqb (word_kind w) kinds.NUMBER e))
number_leaf (lexed.Number z) e whole =
    (number_text (lexed.Number z) (signed_decimal z) (λ is. cc) (λ is. cc) whole, kind_alone (start_of true (signed_decimal z)) (lexed.Number z) (signed_decimal z) whole)
number_leaf (lexed.Sign s) e whole = absurd (both_ways (sign_kind s == kinds.NUMBER) (not-true (sign_kind s == kinds.NUMBER) (sign_passes s).1) (eq-eqb (sign_kind s) kinds.NUMBER e))

record Literal (k : ℕ) (xs : Texts) : Type 0 where
  text : List ℕ
  is : xs ≡ text ∷ []
  token : IsTokenText (kind_of text) text
  kind : tokens.kind_of (kind_of text) ≡ k

literal_leaf : (k : ℕ) (xs : Texts) → is_literal k xs ≡ true → Literal k xs
literal_leaf k [] u = absurd (false≢true u)
literal_leaf k (x ∷ []) u =
    let (a, b) = and_parts (is_token_text x) (nat_eq (tokens.kind_of (kind_of x)) k) u in
    record { text = x; is = refl; token = tested_text x a; kind = eqb-true (tokens.kind_of (kind_of x)) k b }
literal_leaf k (x ∷ y ∷ xs) u = absurd (false≢true u)

record LeafSays (named : Bool) (k : ℕ) (t : PlainLexeme) (ts : List PlainLexeme) : Type 0 where
  text : List ℕ
  is : leaf_text named k (t ∷ ts) ≡ text ∷ []
  token : IsTokenText (kind_of text) text
  again : (v : PlainLexeme) (vs : List PlainLexeme) → v.token.kind ≡ kind_of text → HasKind v → (v.kind ≡ k) × SaysSame named k (t ∷ ts) (v ∷ vs)

leaf_says : (named : Bool) (k : ℕ) (t : PlainLexeme) (ts : List PlainLexeme) → is_printed named k ≡ true → k ≢ kinds.VISIBILITY → IsRight t
    → t.kind ≡ k → LeafSays named k t ts
leaf_says true k t ts u seen (has, whole) e =
    let n = name_leaf t.token.kind k (sym has ∙ e) u whole in
    record {
      text = word_in t.token.kind;
      is = refl;
      token = n.0;
      again = λ v vs same hv. (hv ∙ (ap tokens.kind_of (same ∙ n.1) ∙ (sym has ∙ e)), sym (ap word_in (same ∙ n.1)));
    }
leaf_says false k t ts u seen (has, whole) e = elim (or_cases (k == kinds.VISIBILITY) ((k == kinds.NUMBER) || (is_plain k && is_literal k (literal_texts k))) u) [
  | inl v ↦ absurd (seen (eqb-true k kinds.VISIBILITY v))
  | inr w ↦ by_kind (or_cases (k == kinds.NUMBER) (is_plain k && is_literal k (literal_texts k)) w)
]
  where
    number : k ≡ kinds.NUMBER → LeafSays false k t ts
    number is =
        let n = number_leaf t.token.kind (sym has ∙ (e ∙ is)) whole in
        record {
          text = signed_decimal (number_in t.token.kind);
          is = ap (λ m. token_text m (t ∷ ts)) is;
          token = n.0;
          again = λ v vs same hv. (hv ∙ (ap tokens.kind_of (same ∙ n.1) ∙ (sym has ∙ e)), λ _. sym (ap number_in (same ∙ n.1)));
        }

    literal : is_plain k ≡ true → Literal k (literal_texts k) → LeafSays false k t ts
    literal plain l = record {
      text = l.text;
      is = one_way k (t ∷ ts) plain ∙ (cond-false (k == kinds.VISIBILITY) [] (literal_texts k) (ne_eqb k kinds.VISIBILITY seen) ∙ l.is);
      token = l.token;
      again = λ v vs same hv. (
        hv ∙ (ap tokens.kind_of same ∙ l.kind),
        λ is. absurd (both_ways (k == kinds.NUMBER) (not-true (k == kinds.NUMBER) (and_parts (not (k == kinds.IDENTIFIER)) (not (k == kinds.NUMBER)) plain).1) (eq-eqb k kinds.NUMBER is)),
      );
    }

    by_kind : ((k == kinds.NUMBER) ≡ true) ⊎ ((is_plain k && is_literal k (literal_texts k)) ≡ true) → LeafSays false k t ts
    by_kind (inl n) = number (eqb-true k kinds.NUMBER n)
    by_kind (inr l) =
        let (a, b) = and_parts (is_plain k) (is_literal k (literal_texts k)) l in
        literal a (literal_leaf k (literal_texts k) b)

-- ---- trees

tokens_both : (xs ys : Texts) → AreTokens xs → AreTokens ys → AreTokens (xs ++ ys)
tokens_both [] ys h k = k
tokens_both (x ∷ xs) ys h k = (h.0, tokens_both xs ys h.1 k)

-- with others behind them
abbrev Again : Bool → Forest → List PlainLexeme → List PlainLexeme → Type 0
Again named f ts vs = ((ls : List ℕ) × (kinds_of vs ≡ yield f ++ ls)) × SayTheSame named f ts vs

pub record TreeSays (named : Bool) (f : Forest) (ts : List PlainLexeme) : Type 0 where
  pub tokens : AreTokens (leaf_texts named f ts)
  pub long : length (leaf_texts named f ts) ≡ length (yield f)
  pub again : (vs : List PlainLexeme) (ks : List lexed.Kind) → HaveKinds vs → said vs ≡ map kind_of (leaf_texts named f ts) ++ ks
      → ((ls : List ℕ) × (kinds_of vs ≡ yield f ++ ls)) × SayTheSame named f ts vs

leaf_then : (named : Bool) (k : ℕ) (f : Forest) (t : PlainLexeme) (ts : List PlainLexeme) → LeafSays named k t ts → TreeSays named f ts
    → TreeSays named (Leaf k f) (t ∷ ts)
leaf_then named k f t ts l r = record {
  tokens = subst AreTokens (sym all) (l.token, r.tokens);
  long = ap length all ∙ ap (λ n. suc n) r.long;
  again = λ vs ks h e. by vs ks h (e ∙ ap (λ xs. map kind_of xs ++ ks) all);
}
  where
    all : leaf_texts named (Leaf k f) (t ∷ ts) ≡ l.text ∷ leaf_texts named f ts
    all = ap (λ xs. xs ++ leaf_texts named f ts) l.is

    by : (vs : List PlainLexeme) (ks : List lexed.Kind) → HaveKinds vs → said vs ≡ kind_of l.text ∷ (map kind_of (leaf_texts named f ts) ++ ks)
        → Again named (Leaf k f) (t ∷ ts) vs
    by [] ks h e = absurd cc
    by (v ∷ vs) ks h e =
        let first : v.token.kind ≡ kind_of l.text = cc in
        let more : said vs ≡ map kind_of (leaf_texts named f ts) ++ ks = cc in
        let (kind, says) = l.again v vs first h.0 in
        let ((ls, is), others) = r.again vs ks h.1 more in
        ((ls, two (λ x xs. x ∷ xs) kind is), (says, others))

node_then : (named : Bool) (p : ℕ) (c f : Forest) (ts : List PlainLexeme) → TreeSays (is_name p) c ts
    → TreeSays named f (drop (length (yield c)) ts) → TreeSays named (Node p c f) ts
node_then named p c f ts a b = record {
  tokens = tokens_both xs ys a.tokens b.tokens;
  long = length-append xs ys ∙ (two (λ x y. x + y) a.long b.long ∙ sym (length-append (yield c) (yield f)));
  again = λ vs ks h e. by vs ks h (e ∙ (ap (λ zs. zs ++ ks) (map-append kind_of xs ys) ∙ append_assoc (map kind_of xs) (map kind_of ys) ks));
}
  where
    n : ℕ
    n = length (yield c)

    xs : Texts
    xs = leaf_texts (is_name p) c ts

    ys : Texts
    ys = leaf_texts named f (drop (length (yield c)) ts)

    by : (vs : List PlainLexeme) (ks : List lexed.Kind) → HaveKinds vs → said vs ≡ map kind_of xs ++ (map kind_of ys ++ ks)
        → Again named (Node p c f) ts vs
    by vs ks h e =
        let ((l1, k1), s1) = a.again vs (map kind_of ys ++ ks) h e in
        let behind : said (drop n vs) ≡ map kind_of ys ++ ks =
        map_drop (λ l. l.token.kind) n vs ∙ (ap (drop n) e ∙ drop_all n (map kind_of xs) (map kind_of ys ++ ks) (length_map kind_of xs ∙ a.long)) in
        let ((l2, k2), s2) = b.again (drop n vs) ks (have_drop n vs h) behind in
        let rest : l1 ≡ yield f ++ l2 = sym (kinds_drop vs (yield c) l1 k1) ∙ k2 in
        ((l2, k1 ∙ (ap (λ ls. yield c ++ ls) rest ∙ sym (append_assoc (yield c) (yield f) l2))), (s1, s2))

pub says : (named : Bool) (f : Forest) (ss : List Symbol) (ts : List PlainLexeme) (ls : List ℕ) → IsShape f ss → IsTrimmed f
    → are_printed named ss ≡ true → AreRight ts → kinds_of ts ≡ yield f ++ ls
    → TreeSays named f ts
says named Done ss ts ls h t u w e = record { tokens = tt; long = refl; again = λ vs ks i j. ((kinds_of vs, refl), tt) }
says named (Leaf k f) [] ts ls h t u w e = absurd h
says named (Leaf k f) (Token j ∷ ss) [] ls h t u w e = absurd cc
says named (Leaf k f) (Token j ∷ ss) (l ∷ ts) ls h t u w e =
    let (a, b) = and_parts (is_printed named j) (are_printed named ss) u in
    let first : l.kind ≡ k = cc in
    let more : kinds_of ts ≡ yield f ++ ls = cc in
    leaf_then named k f l ts (leaf_says named k l ts (subst (λ n. is_printed named n ≡ true) h.0 a) t.0 w.0 first) (says named f ss ts ls h.1 t.1 b w.1 more)
says named (Leaf k f) (Name a ∷ ss) ts ls h t u w e = absurd h
says named (Node p c f) [] ts ls h t u w e = absurd h
says named (Node p c f) (Token j ∷ ss) ts ls h t u w e = absurd h
says named (Node p c f) (Name a ∷ ss) ts ls (r, at, is, below, behind) (kept, t, others) u w e =
    let whole = e ∙ append_assoc (yield c) (yield f) ls in
    node_then named p c f ts
    (says (is_name p) c r.body ts (yield f ++ ls) below t (prints_at p r at) w whole)
    (says named f ss (drop (length (yield c)) ts) ls behind others u (right_drop (length (yield c)) ts w) (kinds_drop ts (yield c) (yield f ++ ls) whole))

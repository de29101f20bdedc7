-- What a tree stands for hangs on its own tokens alone, where a token ends it.
use Rattle.std.proofs.Common.{◌≡◌, ℕ, zero, suc, ◌+◌, ◌≤◌, ◌<◌, Bool, true, false, ◌&&◌, ◌==◌, cond, nat_le, nat_lt, List, [], ◌∷◌, ◌++◌, drop, length, Option, Some, None, refl, sym, ap, ◌∙◌, arith, length-append}
use Rattle.std.specs.List.{slice_get}
use Rattle.std.specs.Option.{option_map_or}
use Rattle.std.proofs.lemmas.Bool.{false≢true, and_parts, leb-true}
use Rattle.std.proofs.lemmas.Option.{none-some, same_Some}
use Rattle.jd_grammar.specs.Grammars.{Production, Forest, Done, Leaf, Node, yield}
use Rattle.jd_grammar.specs.Folds.{values}
use Rattle.jd_grammar.specs.Nodes.{all_of, filled}
use Rattle.jd_grammar.specs.declared.piles.NodeParts.{NodeParts}
use Rattle.jd_grammar.specs.declared.table.Symbol.{Symbol}
use Rattle.jd_grammar.specs.declared.table.Symbol.TheVariants.{Token, Name}
use Rattle.jd_jml_grammar.specs.Productions.{jml_productions}
use Rattle.jd_jml_grammar.specs.declared.names.TheConstants as names
use Rattle.jd_jml_tokens.specs.Lexemes.{PlainLexeme, place_of, text_of, word_in}
use Rattle.jd_jml_values.specs.Values.{PlainValue, Nothing, ArrayOperand}
use Rattle.jd_jml_expressions.specs.Meaning.{int_cast}
use Rattle.jd_jml_expressions.specs.Meaning as expressions
use Rattle.jd_jml_expressions.specs.declared.action.Action as expression_actions
use Rattle.jd_jml_expressions.specs.declared.action.Action.TheVariants as expression
use Rattle.jd_jml_clauses.specs.Meaning as clauses
use Rattle.jd_jml_clauses.specs.declared.action.Action as clause_actions
use Rattle.jd_jml_clauses.specs.declared.action.Action.TheVariants as clause
use Rattle.jd_jml_trees.specs.declared.actions.Action.{Action}
use Rattle.jd_jml_trees.specs.declared.actions.Action.TheVariants as actions
use Rattle.jd_jml_trees.specs.Meaning.{action_of, meaning_by, value_of_node}
use Rattle.jd_jml_attributes.specs.declared.rows.Rule.{Rule}
use Rattle.jd_jml_attributes.specs.declared.rows.Rule.TheVariants as rules
use Rattle.jd_jml_attributes.specs.Forms as forms
use Rattle.jd_jml_attributes.specs.Forms.{PlainForm, empty, first_of, is_range, in_order}
use Rattle.jd_jml_attributes.specs.Rules.{row_of, all_in_order, of_kind, above, made, high_at, with_high}
use Rattle.jd_jml_attributes.specs.Judging.{form_of_node}
use Rattle.jd_jml_print.specs.Texts.{Texts}
use Rattle.jd_jml_texts.specs.Kept.{token_text, rest, body_texts, without_also, production_texts, texts_of_node}
use Rattle.jd_jml_trimmed.proofs.Shapes.{IsShape, passes, tested, implies, implied, token_count, long}

pub two : {A B C : Type 0} (f : A → B → C) {a a' : A} {b b' : B} → a ≡ a' → b ≡ b' → f a b ≡ f a' b'
two f {a} {a'} {b} {b'} e g = ap (λ x. f x b) e ∙ ap (f a') g

-- ---- tokens that agree

-- so many of the first are the same
abbrev pub Agree : ℕ → List PlainLexeme → List PlainLexeme → Type 0
Agree n ts us = (i : ℕ) → i < n → slice_get ts i ≡ slice_get us i

at_drop : {A : Type 0} (m i : ℕ) (ts : List A) → slice_get (drop m ts) i ≡ slice_get ts (m + i)
at_drop zero i ts = let same : i ≡ 0 + i = omega arith in ap (slice_get ts) same
at_drop (suc m) i [] = refl
at_drop (suc m) i (x ∷ ts) = let same : suc (m + i) ≡ suc m + i = omega arith in at_drop m i ts ∙ ap (slice_get (x ∷ ts)) same

agree_drop : (m n k : ℕ) (ts us : List PlainLexeme) → m + n ≤ k → Agree k ts us → Agree n (drop m ts) (drop m us)
agree_drop m n k ts us le h i lt = at_drop m i ts ∙ h (m + i) (omega (arith, lt, le)) ∙ sym (at_drop m i us)

agree_less : (m n : ℕ) (ts us : List PlainLexeme) → m ≤ n → Agree n ts us → Agree m ts us
agree_less m n ts us le h i lt = h i (omega (arith, lt, le))

pub same_front : (xs bs cs : List PlainLexeme) → Agree (length xs) (xs ++ bs) (xs ++ cs)
same_front [] bs cs i lt = let no_more : ⊥ = omega (arith, lt) in absurd no_more
same_front (x ∷ xs) bs cs zero lt = refl
same_front (x ∷ xs) bs cs (suc i) lt = same_front xs bs cs i (omega (arith, lt))

-- ---- folds that look at the first token, and where there are five at the fifth

abbrev pub LooksNear : {V : Type 0} → (ℕ → List PlainLexeme → List V → V) → Type 0
LooksNear {V} make =
    (p : ℕ) (r : Production) (ts us : List PlainLexeme) (vs : List V) → slice_get jml_productions p ≡ Some r → slice_get ts 0 ≡ slice_get us 0
    → (5 ≤ token_count r.body → slice_get ts 4 ≡ slice_get us 4) → make p ts vs ≡ make p us vs

-- with the next token behind them the same
near : {V : Type 0} (make : ℕ → List PlainLexeme → List V → V) → LooksNear make → (f : Forest) (ss : List Symbol) (ts us : List PlainLexeme)
    → IsShape f ss
    → Agree (suc (length (yield f))) ts us → values make f ts ≡ values make f us
near make looks Done ss ts us h a = refl
near make looks (Leaf k f) [] ts us h a = absurd h
near make looks (Leaf k f) (Token j ∷ ss) ts us h a =
    near make looks f ss (drop 1 ts) (drop 1 us) h.1 (agree_drop 1 (suc (length (yield f))) (suc (suc (length (yield f)))) ts us (omega arith) a)
near make looks (Leaf k f) (Name b ∷ ss) ts us h a = absurd h
near make looks (Node p c f) [] ts us h a = absurd h
near make looks (Node p c f) (Token j ∷ ss) ts us h a = absurd h
near make looks (Node p c f) (Name b ∷ ss) ts us (r, at, is, below, behind) a =
    let l = length-append (yield c) (yield f) in
    let n = long c r.body below in
    two (λ x xs. x ∷ xs)
    (looks p r ts us (values make c ts) at (a 0 (omega arith)) (λ five. a 4 (omega (arith, five, n, l)))
    ∙ ap (make p us) (near make looks c r.body ts us below (agree_less (suc (length (yield c))) (suc (length (yield c ++ yield f))) ts us (omega (arith, l)) a)))
    (near make looks f ss (drop (length (yield c)) ts) (drop (length (yield c)) us) behind
    (agree_drop (length (yield c)) (suc (length (yield f))) (suc (length (yield c ++ yield f))) ts us (omega (arith, l)) a))

abbrev pub has_token : List Symbol → Bool
has_token [] = false
has_token (Token k ∷ ss) = true
has_token (Name a ∷ ss) = has_token ss

-- a token stands behind each name
abbrev pub is_closed : List Symbol → Bool
is_closed [] = true
is_closed (Token k ∷ ss) = is_closed ss
is_closed (Name a ∷ ss) = has_token ss && is_closed ss

pub one_token : (ss : List Symbol) → has_token ss ≡ true → 1 ≤ token_count ss
one_token [] e = absurd (false≢true e)
one_token (Token k ∷ ss) e = omega arith
one_token (Name a ∷ ss) e = one_token ss e

pub by_own_tokens : {V : Type 0} (make : ℕ → List PlainLexeme → List V → V) → LooksNear make
    → (f : Forest) (ss : List Symbol) (ts us : List PlainLexeme) → IsShape f ss → is_closed ss ≡ true
    → Agree (length (yield f)) ts us → values make f ts ≡ values make f us
by_own_tokens make looks Done ss ts us h u a = refl
by_own_tokens make looks (Leaf k f) [] ts us h u a = absurd h
by_own_tokens make looks (Leaf k f) (Token j ∷ ss) ts us h u a =
    by_own_tokens make looks f ss (drop 1 ts) (drop 1 us) h.1 u (agree_drop 1 (length (yield f)) (suc (length (yield f))) ts us (omega arith) a)
by_own_tokens make looks (Leaf k f) (Name b ∷ ss) ts us h u a = absurd h
by_own_tokens make looks (Node p c f) [] ts us h u a = absurd h
by_own_tokens make looks (Node p c f) (Token j ∷ ss) ts us h u a = absurd h
by_own_tokens make looks (Node p c f) (Name b ∷ ss) ts us (r, at, is, below, behind) u a =
    let (t, v) = and_parts (has_token ss) (is_closed ss) u in
    let l = length-append (yield c) (yield f) in
    let n = long c r.body below in
    let m = long f ss behind in
    let o = one_token ss t in
    two (λ x xs. x ∷ xs)
    (looks p r ts us (values make c ts) at (a 0 (omega (arith, l, m, o))) (λ five. a 4 (omega (arith, five, n, l)))
    ∙ ap (make p us) (near make looks c r.body ts us below (agree_less (suc (length (yield c))) (length (yield c ++ yield f)) ts us (omega (arith, l, m, o)) a)))
    (by_own_tokens make looks f ss (drop (length (yield c)) ts) (drop (length (yield c)) us) behind v
    (agree_drop (length (yield c)) (length (yield f)) (length (yield c ++ yield f)) ts us (omega (arith, l)) a))

-- ---- clauses

same_cast : (v : PlainValue) (x : PlainLexeme) (ts us : List PlainLexeme) → int_cast (x ∷ ts) v ≡ int_cast (x ∷ us) v
same_cast (ArrayOperand e) x ts us = refl
same_cast _ x ts us = refl

same_expression : (a : expression_actions.Action) (x : PlainLexeme) (ts us : List PlainLexeme) (parts : NodeParts PlainValue)
    → expressions.meaning a (x ∷ ts) parts ≡ expressions.meaning a (x ∷ us) parts
same_expression expression.Nothing x ts us parts = refl
same_expression expression.IntCast x ts us parts = same_cast parts.first x ts us
same_expression _ x ts us parts = refl

same_clause : (a : clause_actions.Action) (x : PlainLexeme) (ts us : List PlainLexeme) (parts : NodeParts PlainValue)
    → clauses.meaning a (x ∷ ts) parts ≡ clauses.meaning a (x ∷ us) parts
same_clause clause.AllClauses x ts us parts = refl
same_clause _ x ts us parts = refl

same_meaning : (a : Action) (x : PlainLexeme) (ts us : List PlainLexeme) (parts : NodeParts PlainValue)
    → meaning_by a (x ∷ ts) parts ≡ meaning_by a (x ∷ us) parts
same_meaning (actions.Expression a) x ts us parts = same_expression a x ts us parts
same_meaning (actions.Clause a) x ts us parts = same_clause a x ts us parts

pub values_near : (p : ℕ) (r : Production) (ts us : List PlainLexeme) (vs : List PlainValue) → slice_get jml_productions p ≡ Some r
    → slice_get ts 0 ≡ slice_get us 0
    → (5 ≤ token_count r.body → slice_get ts 4 ≡ slice_get us 4) → value_of_node p ts vs ≡ value_of_node p us vs
values_near p r [] [] vs at e five = refl
values_near p r [] (y ∷ us) vs at e five = absurd (none-some y e)
values_near p r (x ∷ ts) [] vs at e five = absurd (none-some x (sym e))
values_near p r (x ∷ ts) (y ∷ us) vs at e five =
    ap (λ z. value_of_node p (z ∷ ts) vs) (same_Some x y e) ∙ same_meaning (action_of p) y ts us (filled (all_of Nothing) vs)

-- ---- texts

same_body : (ss : List Symbol) (x : PlainLexeme) (ts us : List PlainLexeme) (parts : NodeParts Texts)
    → body_texts ss (x ∷ ts) parts ≡ body_texts ss (x ∷ us) parts
same_body [] x ts us parts = refl
same_body (Token kind ∷ ss) x ts us parts = ap (λ ys. token_text kind (x ∷ ts) ++ ys) (same_body ss x ts us parts)
same_body (Name a ∷ []) x ts us parts = refl
same_body (Name a ∷ s ∷ ss) x ts us parts = ap (λ ys. parts.first ++ ys) (same_body (s ∷ ss) x ts us (rest [] parts))

same_production : (r : Production) (x : PlainLexeme) (ts us : List PlainLexeme) (parts : NodeParts Texts)
    → production_texts r (x ∷ ts) parts ≡ production_texts r (x ∷ us) parts
same_production r x ts us parts =
    two (λ a b. cond (r.head == names.IDENTIFIER) (text_of (x ∷ ts) ∷ []) (cond (r.head == names.CONTRACT) a b))
    (same_body (without_also r.body) x ts us parts)
    (same_body r.body x ts us parts)

texts_by : (p : ℕ) (r : Production) (ts : List PlainLexeme) (xs : List Texts) → slice_get jml_productions p ≡ Some r
    → texts_of_node p ts xs ≡ production_texts r ts (filled (all_of []) xs)
texts_by p r ts xs at = ap (λ o. option_map_or (λ s. production_texts s ts (filled (all_of []) xs)) o []) at

pub texts_near : (p : ℕ) (r : Production) (ts us : List PlainLexeme) (xs : List Texts) → slice_get jml_productions p ≡ Some r
    → slice_get ts 0 ≡ slice_get us 0
    → (5 ≤ token_count r.body → slice_get ts 4 ≡ slice_get us 4) → texts_of_node p ts xs ≡ texts_of_node p us xs
texts_near p r [] [] xs at e five = refl
texts_near p r [] (y ∷ us) xs at e five = absurd (none-some y e)
texts_near p r (x ∷ ts) [] xs at e five = absurd (none-some x (sym e))
texts_near p r (x ∷ ts) (y ∷ us) xs at e five =
    ap (λ z. texts_of_node p (z ∷ ts) xs) (same_Some x y e) ∙ texts_by p r (y ∷ ts) xs at ∙ same_production r y ts us (filled (all_of []) xs) ∙ sym (texts_by p r (y ∷ us) xs at)

-- ---- attributes

abbrev is_sum : Rule → Bool
is_sum rules.Sum = true
is_sum _ = false

abbrev sum_is_long : ℕ → Production → Bool
sum_is_long p r = implies (is_sum (row_of p).1) (nat_le 5 (token_count r.body))

sums_are_long : passes sum_is_long 0 jml_productions ≡ true
sums_are_long = refl

place_same : (n : ℕ) (ts us : List PlainLexeme) → slice_get ts n ≡ slice_get us n → place_of n ts ≡ place_of n us
place_same n ts us e = ap (λ (o : Option PlainLexeme). option_map_or (λ (l : PlainLexeme). l.token.begins) o 0) e

text_same : (ts us : List PlainLexeme) → slice_get ts 0 ≡ slice_get us 0 → text_of ts ≡ text_of us
text_same ts us e = ap (λ (o : Option PlainLexeme). option_map_or (λ (l : PlainLexeme). word_in l.token.kind) o []) e

same_made : (rule : Rule) (ts us : List PlainLexeme) (parts : NodeParts PlainForm) → slice_get ts 0 ≡ slice_get us 0
    → (is_sum rule ≡ true → slice_get ts 4 ≡ slice_get us 4) → made rule ts parts ≡ made rule us parts
same_made rules.Identifier ts us parts e five = ap (λ x. of_kind (forms.Name x)) (text_same ts us e)
same_made rules.CastOperand ts us parts e five = ap (λ at. record (above forms.Other (in_order empty parts.first)) { cast = Some at }) (place_same 0 ts us e)
same_made rules.Sum ts us parts e five =
    ap (λ at. record (above forms.Other (all_in_order empty parts)) { fault = first_of (above forms.Other (all_in_order empty parts)).fault (cond (is_range parts.first.kind parts.second.kind) None (Some at)) })
    (place_same 4 ts us (five refl))
same_made _ ts us parts e five = refl

same_high_at : (ts us : List PlainLexeme) (h : ℕ) (o : Option ℕ) → slice_get ts 0 ≡ slice_get us 0 → high_at ts h o ≡ high_at us h o
same_high_at ts us h (Some at) e = refl
same_high_at ts us h None e = ap (λ at. cond (nat_lt 200 h) (Some at) None) (place_same 0 ts us e)

pub forms_near : (p : ℕ) (r : Production) (ts us : List PlainLexeme) (fs : List PlainForm) → slice_get jml_productions p ≡ Some r
    → slice_get ts 0 ≡ slice_get us 0
    → (5 ≤ token_count r.body → slice_get ts 4 ≡ slice_get us 4) → form_of_node p ts fs ≡ form_of_node p us fs
forms_near p r ts us fs at e five =
    let parts = filled (all_of empty) fs in
    let f = made (row_of p).1 us parts in
    ap (with_high ts) (same_made (row_of p).1 ts us parts e (λ s. five (leb-true 5 (token_count r.body) (implied (is_sum (row_of p).1) (nat_le 5 (token_count r.body)) (tested sum_is_long p r sums_are_long at) s))))
    ∙ ap (λ o. record f { high = o }) (same_high_at ts us f.height f.high e)

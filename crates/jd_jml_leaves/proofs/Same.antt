-- What a derivation stands for hangs on the places of its tokens, its names and its numbers, and but for places on these alone.
use Rattle.std.proofs.Common.{◌≡◌, ℕ, zero, suc, Bool, true, false, not, ◌&&◌, ◌==◌, cond, nat_lt, List, [], ◌∷◌, map, drop, length, Option, Some, None, refl, sym, ap, subst, ◌∙◌, arith}
use Rattle.std.specs.List.{slice_get}
use Rattle.std.specs.Option.{option_map_or}
use Rattle.std.proofs.lemmas.Bool.{false≢true, and_parts, not-true, eqb-true}
use Rattle.jd_grammar.specs.Grammars.{Production, Forest, Done, Leaf, Node, yield, IsForest}
use Rattle.jd_grammar.specs.Folds.{values}
use Rattle.jd_grammar.specs.Nodes.{all_of, filled}
use Rattle.jd_grammar.specs.declared.piles.NodeParts.{NodeParts}
use Rattle.jd_grammar.specs.declared.table.Symbol.{Symbol}
use Rattle.jd_grammar.specs.declared.table.Symbol.TheVariants.{Token, Name}
use Rattle.jd_jml_grammar.specs.Productions.{jml_productions}
use Rattle.jd_jml_grammar.specs.declared.kinds.TheConstants as kinds
use Rattle.jd_jml_grammar.specs.declared.names.TheConstants as names
use Rattle.jd_jml_tokens.specs.Lexemes.{PlainLexeme, place_of, text_of, number_of, word_in, number_in}
use Rattle.jd_syntax.specs.SpecTrees as jml
use Rattle.jd_jml_values.specs.Values.{PlainValue, Nothing, Expression, Named, ArrayOperand}
use Rattle.jd_jml_values.specs.Parts.{clauses_of}
use Rattle.jd_jml_expressions.specs.Meaning.{int_cast}
use Rattle.jd_jml_expressions.specs.Meaning as expressions
use Rattle.jd_jml_expressions.specs.declared.action.Action as expression_actions
use Rattle.jd_jml_expressions.specs.declared.action.Action.TheVariants as expression
use Rattle.jd_jml_clauses.specs.Meaning as clauses
use Rattle.jd_jml_clauses.specs.declared.action.Action as clause_actions
use Rattle.jd_jml_clauses.specs.declared.action.Action.TheVariants as clause
use Rattle.jd_jml_trees.specs.declared.actions.Action.{Action}
use Rattle.jd_jml_trees.specs.declared.actions.Action.TheVariants as actions
use Rattle.jd_jml_trees.specs.Meaning.{action_of, meaning_by, value_of_node, first_value, clauses_of_tree}
use Rattle.jd_jml_attributes.specs.declared.rows.Rule.{Rule}
use Rattle.jd_jml_attributes.specs.declared.rows.Rule.TheVariants as rules
use Rattle.jd_jml_attributes.specs.Forms as forms
use Rattle.jd_jml_attributes.specs.Forms.{PlainForm, empty, first_of, is_range}
use Rattle.jd_jml_attributes.specs.Rules.{row_of, all_in_order, of_kind, above, made, high_at, with_high}
use Rattle.jd_jml_attributes.specs.Judging.{form_of_node, first_form, form_of}
use Rattle.jd_jml_places.specs.Places.{PlacesAreApart}
use Rattle.jd_jml_places.specs.Unplaced.{unplaced_lexeme, unplaced_clause, Alike}
use Rattle.jd_jml_trimmed.proofs.Shapes.{IsShape, shape_of, passes, tested, implies, implied}
use Rattle.jd_jml_trimmed.proofs.Near.{two}
use Rattle.jd_jml_leaves.specs.Leaves.{is_name, SayTheSame}

-- ---- tokens at the places of others

abbrev moved_one : PlainLexeme → PlainLexeme → PlainLexeme
moved_one t u = record { kind = u.kind; token = record { kind = u.token.kind; begins = t.token.begins; ends = t.token.ends; jml = u.token.jml } }

abbrev moved : List PlainLexeme → List PlainLexeme → List PlainLexeme
moved [] us = []
moved (t ∷ ts) [] = []
moved (t ∷ ts) (u ∷ us) = moved_one t u ∷ moved ts us

moved_none : (ts : List PlainLexeme) → moved ts [] ≡ []
moved_none [] = refl
moved_none (t ∷ ts) = refl

moved_drop : (n : ℕ) (ts us : List PlainLexeme) → drop n (moved ts us) ≡ moved (drop n ts) (drop n us)
moved_drop zero ts us = refl
moved_drop (suc n) [] us = refl
moved_drop (suc n) (t ∷ ts) [] = sym (moved_none (drop n ts))
moved_drop (suc n) (t ∷ ts) (u ∷ us) = moved_drop n ts us

as_long : (n : ℕ) (ts us : List PlainLexeme) → length ts ≡ length us → length (drop n ts) ≡ length (drop n us)
as_long zero ts us e = e
as_long (suc n) [] [] e = refl
as_long (suc n) [] (u ∷ us) e = let no_more : ⊥ = omega (arith, e) in absurd no_more
as_long (suc n) (t ∷ ts) [] e = let no_more : ⊥ = omega (arith, e) in absurd no_more
as_long (suc n) (t ∷ ts) (u ∷ us) e = as_long n ts us (omega (arith, e))

alike : (ts us : List PlainLexeme) → length ts ≡ length us → Alike (moved ts us) us
alike [] [] e = refl
alike [] (u ∷ us) e = let no_more : ⊥ = omega (arith, e) in absurd no_more
alike (t ∷ ts) [] e = let no_more : ⊥ = omega (arith, e) in absurd no_more
alike (t ∷ ts) (u ∷ us) e = ap (λ ls. unplaced_lexeme u ∷ ls) (alike ts us (omega (arith, e)))

place_stays : (n : ℕ) (ts us : List PlainLexeme) → length ts ≡ length us → place_of n ts ≡ place_of n (moved ts us)
place_stays n [] us e = refl
place_stays n (t ∷ ts) [] e = let no_more : ⊥ = omega (arith, e) in absurd no_more
place_stays zero (t ∷ ts) (u ∷ us) e = refl
place_stays (suc n) (t ∷ ts) (u ∷ us) e = place_stays n ts us (omega (arith, e))

text_moves : (ts us : List PlainLexeme) → length ts ≡ length us → text_of us ≡ text_of (moved ts us)
text_moves [] [] e = refl
text_moves [] (u ∷ us) e = let no_more : ⊥ = omega (arith, e) in absurd no_more
text_moves (t ∷ ts) [] e = let no_more : ⊥ = omega (arith, e) in absurd no_more
text_moves (t ∷ ts) (u ∷ us) e = refl

-- ---- nodes that look at texts and numbers

abbrev is_number : List Symbol → Bool
is_number (Token k ∷ ss) = k == kinds.NUMBER
is_number ss = false

abbrev is_token : List Symbol → Bool
is_token (Token k ∷ ss) = true
is_token ss = false

-- what a fold may look at
abbrev LooksAtLeaves : {V : Type 0} → (ℕ → List PlainLexeme → List V → V) → Type 0
LooksAtLeaves {V} make =
    (p : ℕ) (r : Production) (ts us : List PlainLexeme) (vs : List V) → slice_get jml_productions p ≡ Some r → length ts ≡ length us
    → ((r.head == names.IDENTIFIER) ≡ true → text_of ts ≡ text_of us) → (is_number r.body ≡ true → number_of ts ≡ number_of us)
    → make p ts vs ≡ make p (moved ts us) vs

-- ---- clauses

abbrev names_text : Action → Bool
names_text (actions.Expression expression.Identifier) = true
names_text _ = false

abbrev names_number : Action → Bool
names_number (actions.Expression expression.Number) = true
names_number _ = false

abbrev acts_so : ℕ → Production → Bool
acts_so p r = implies (names_text (action_of p)) (r.head == names.IDENTIFIER) && implies (names_number (action_of p)) (is_number r.body)

all_act_so : passes acts_so 0 jml_productions ≡ true
all_act_so = refl

same_cast : (v : PlainValue) (t u : PlainLexeme) (ts us : List PlainLexeme) → int_cast (t ∷ ts) v ≡ int_cast (moved_one t u ∷ us) v
same_cast (ArrayOperand e) t u ts us = refl
same_cast _ t u ts us = refl

same_expression : (a : expression_actions.Action) (t u : PlainLexeme) (ts us : List PlainLexeme) (parts : NodeParts PlainValue)
    → (names_text (actions.Expression a) ≡ true → word_in t.token.kind ≡ word_in u.token.kind)
    → (names_number (actions.Expression a) ≡ true → number_in t.token.kind ≡ number_in u.token.kind)
    → expressions.meaning a (t ∷ ts) parts ≡ expressions.meaning a (moved_one t u ∷ us) parts
same_expression expression.Nothing t u ts us parts w n = refl
same_expression expression.Identifier t u ts us parts w n = ap (λ x. Named (record { at = t.token.begins; name = x })) (w refl)
same_expression expression.Number t u ts us parts w n = ap (λ x. Expression (jml.Integer t.token.begins x)) (n refl)
same_expression expression.IntCast t u ts us parts w n = same_cast parts.first t u ts us
same_expression _ t u ts us parts w n = refl

same_clause : (a : clause_actions.Action) (t u : PlainLexeme) (ts us : List PlainLexeme) (parts : NodeParts PlainValue)
    → clauses.meaning a (t ∷ ts) parts ≡ clauses.meaning a (moved_one t u ∷ us) parts
same_clause clause.AllClauses t u ts us parts = refl
same_clause _ t u ts us parts = refl

same_meaning : (a : Action) (t u : PlainLexeme) (ts us : List PlainLexeme) (parts : NodeParts PlainValue)
    → (names_text a ≡ true → word_in t.token.kind ≡ word_in u.token.kind)
    → (names_number a ≡ true → number_in t.token.kind ≡ number_in u.token.kind)
    → meaning_by a (t ∷ ts) parts ≡ meaning_by a (moved_one t u ∷ us) parts
same_meaning (actions.Expression a) t u ts us parts w n = same_expression a t u ts us parts w n
same_meaning (actions.Clause a) t u ts us parts w n = same_clause a t u ts us parts

values_look : (p : ℕ) (r : Production) (ts us : List PlainLexeme) (vs : List PlainValue) → slice_get jml_productions p ≡ Some r
    → length ts ≡ length us
    → ((r.head == names.IDENTIFIER) ≡ true → text_of ts ≡ text_of us) → (is_number r.body ≡ true → number_of ts ≡ number_of us)
    → value_of_node p ts vs ≡ value_of_node p (moved ts us) vs
values_look p r [] us vs at e w n = refl
values_look p r (t ∷ ts) [] vs at e w n = let no_more : ⊥ = omega (arith, e) in absurd no_more
values_look p r (t ∷ ts) (u ∷ us) vs at e w n =
    let (a, b) = and_parts (implies (names_text (action_of p)) (r.head == names.IDENTIFIER)) (implies (names_number (action_of p)) (is_number r.body)) (tested acts_so p r all_act_so at) in
    same_meaning (action_of p) t u ts (moved ts us) (filled (all_of Nothing) vs)
    (λ x. w (implied (names_text (action_of p)) (r.head == names.IDENTIFIER) a x))
    (λ x. n (implied (names_number (action_of p)) (is_number r.body) b x))

-- ---- attributes

abbrev asks_text : Rule → Bool
asks_text rules.Identifier = true
asks_text _ = false

abbrev asks_so : ℕ → Production → Bool
asks_so p r = implies (asks_text (row_of p).1) (r.head == names.IDENTIFIER)

all_ask_so : passes asks_so 0 jml_productions ≡ true
all_ask_so = refl

same_made : (rule : Rule) (ts us : List PlainLexeme) (parts : NodeParts PlainForm) → length ts ≡ length us
    → (asks_text rule ≡ true → text_of ts ≡ text_of us) → made rule ts parts ≡ made rule (moved ts us) parts
same_made rules.Identifier ts us parts e w = ap (λ x. of_kind (forms.Name x)) (w refl ∙ text_moves ts us e)
same_made rules.CastOperand ts us parts e w = ap (λ at. record (above forms.Other (forms.in_order empty parts.first)) { cast = Some at }) (place_stays 0 ts us e)
same_made rules.Sum ts us parts e w =
    ap (λ at. record (above forms.Other (all_in_order empty parts)) { fault = first_of (above forms.Other (all_in_order empty parts)).fault (cond (is_range parts.first.kind parts.second.kind) None (Some at)) })
    (place_stays 4 ts us e)
same_made _ ts us parts e w = refl

same_high_at : (ts us : List PlainLexeme) (h : ℕ) (o : Option ℕ) → length ts ≡ length us → high_at ts h o ≡ high_at (moved ts us) h o
same_high_at ts us h (Some at) e = refl
same_high_at ts us h None e = ap (λ at. cond (nat_lt 200 h) (Some at) None) (place_stays 0 ts us e)

forms_look : (p : ℕ) (r : Production) (ts us : List PlainLexeme) (fs : List PlainForm) → slice_get jml_productions p ≡ Some r → length ts ≡ length us
    → ((r.head == names.IDENTIFIER) ≡ true → text_of ts ≡ text_of us) → (is_number r.body ≡ true → number_of ts ≡ number_of us)
    → form_of_node p ts fs ≡ form_of_node p (moved ts us) fs
forms_look p r ts us fs at e w n =
    let parts = filled (all_of empty) fs in
    let f = made (row_of p).1 (moved ts us) parts in
    ap (with_high ts) (same_made (row_of p).1 ts us parts e (λ x. w (implied (asks_text (row_of p).1) (r.head == names.IDENTIFIER) (tested asks_so p r all_ask_so at) x)))
    ∙ ap (λ o. record f { high = o }) (same_high_at ts us f.height f.high e)

-- ---- trees

abbrev leaves_are : ℕ → Production → Bool
leaves_are p r = implies (r.head == names.IDENTIFIER) (is_token r.body) && implies (is_number r.body) (not (r.head == names.IDENTIFIER))

all_leaves_are : passes leaves_are 0 jml_productions ≡ true
all_leaves_are = refl

name_says : (c : Forest) (ss : List Symbol) (ts us : List PlainLexeme) → IsShape c ss → is_token ss ≡ true → SayTheSame true c ts us
    → text_of ts ≡ text_of us
name_says c [] ts us h u s = absurd (false≢true u)
name_says c (Name a ∷ ss) ts us h u s = absurd (false≢true u)
name_says Done (Token j ∷ ss) ts us h u s = absurd h
name_says (Leaf k f) (Token j ∷ ss) ts us h u s = s.0
name_says (Node p d f) (Token j ∷ ss) ts us h u s = absurd h

number_says : (c : Forest) (ss : List Symbol) (ts us : List PlainLexeme) → IsShape c ss → is_number ss ≡ true → SayTheSame false c ts us
    → number_of ts ≡ number_of us
number_says c [] ts us h u s = absurd (false≢true u)
number_says c (Name a ∷ ss) ts us h u s = absurd (false≢true u)
number_says Done (Token j ∷ ss) ts us h u s = absurd h
number_says (Leaf k f) (Token j ∷ ss) ts us h u s = s.0 (sym h.0 ∙ eqb-true j kinds.NUMBER u)
number_says (Node p d f) (Token j ∷ ss) ts us h u s = absurd h

says : (p : ℕ) (r : Production) (c : Forest) (ts us : List PlainLexeme) → slice_get jml_productions p ≡ Some r → IsShape c r.body
    → SayTheSame (is_name p) c ts us
    → ((r.head == names.IDENTIFIER) ≡ true → text_of ts ≡ text_of us) × (is_number r.body ≡ true → number_of ts ≡ number_of us)
says p r c ts us at h s =
    let (a, b) = and_parts (implies (r.head == names.IDENTIFIER) (is_token r.body)) (implies (is_number r.body) (not (r.head == names.IDENTIFIER))) (tested leaves_are p r all_leaves_are at) in (
      λ e. name_says c r.body ts us h (implied (r.head == names.IDENTIFIER) (is_token r.body) a e) (subst (λ x. SayTheSame x c ts us) (named ∙ e) s),
      λ e. number_says c r.body ts us h e (subst (λ x. SayTheSame x c ts us) (named ∙ not-true (r.head == names.IDENTIFIER) (implied (is_number r.body) (not (r.head == names.IDENTIFIER)) b e)) s),
    )
  where
    named : is_name p ≡ (r.head == names.IDENTIFIER)
    named = ap (λ o. option_map_or (λ (q : Production). q.head == names.IDENTIFIER) o false) at

same_values : {V : Type 0} (make : ℕ → List PlainLexeme → List V → V) → LooksAtLeaves make
    → (named : Bool) (f : Forest) (ss : List Symbol) (ts us : List PlainLexeme) → IsShape f ss → length ts ≡ length us
    → SayTheSame named f ts us → values make f ts ≡ values make f (moved ts us)
same_values make looks named Done ss ts us h e s = refl
same_values make looks named (Leaf k f) [] ts us h e s = absurd h
same_values make looks named (Leaf k f) (Token j ∷ ss) ts us h e s =
    same_values make looks named f ss (drop 1 ts) (drop 1 us) h.1 (as_long 1 ts us e) s.1 ∙ sym (ap (values make f) (moved_drop 1 ts us))
same_values make looks named (Leaf k f) (Name a ∷ ss) ts us h e s = absurd h
same_values make looks named (Node p c f) [] ts us h e s = absurd h
same_values make looks named (Node p c f) (Token j ∷ ss) ts us h e s = absurd h
same_values make looks named (Node p c f) (Name a ∷ ss) ts us (r, at, is, below, behind) e s =
    let n = length (yield c) in
    let k = says p r c ts us at below s.0 in
    two (λ x xs. x ∷ xs)
    (looks p r ts us (values make c ts) at e k.0 k.1 ∙ ap (make p (moved ts us)) (same_values make looks (is_name p) c r.body ts us below e s.0))
    (same_values make looks named f ss (drop n ts) (drop n us) behind (as_long n ts us e) s.1 ∙ sym (ap (values make f) (moved_drop n ts us)))

-- ---- the laws

same_clauses : (f : Forest) (a : ℕ) (ts us : List PlainLexeme) → IsForest jml_productions f (Name a ∷ []) [] → length ts ≡ length us
    → SayTheSame false f ts us → clauses_of_tree f ts ≡ clauses_of_tree f (moved ts us)
same_clauses f a ts us h e s =
    ap (λ vs. clauses_of (first_value vs)) (same_values value_of_node values_look false f (Name a ∷ []) ts us (shape_of f (Name a ∷ []) [] h) e s)

same_form : (f : Forest) (a : ℕ) (ts us : List PlainLexeme) → IsForest jml_productions f (Name a ∷ []) [] → length ts ≡ length us
    → SayTheSame false f ts us → form_of f ts ≡ form_of f (moved ts us)
same_form f a ts us h e s = ap first_form (same_values form_of_node forms_look false f (Name a ∷ []) ts us (shape_of f (Name a ∷ []) [] h) e s)

pub clauses_same : PlacesAreApart → (f : Forest) (a : ℕ) (ts us : List PlainLexeme) → IsForest jml_productions f (Name a ∷ []) []
    → length ts ≡ length us → SayTheSame false f ts us
    → map unplaced_clause (clauses_of_tree f ts) ≡ map unplaced_clause (clauses_of_tree f us)
clauses_same apart f a ts us h e s = ap (map unplaced_clause) (same_clauses f a ts us h e s) ∙ apart.clauses f (moved ts us) us (alike ts us e)

pub faultless_same : PlacesAreApart → (f : Forest) (a : ℕ) (ts us : List PlainLexeme) → IsForest jml_productions f (Name a ∷ []) []
    → length ts ≡ length us → SayTheSame false f ts us
    → (form_of f ts).fault ≡ None → (form_of f us).fault ≡ None
faultless_same apart f a ts us h e s k = apart.faultless f (moved ts us) us (alike ts us e) (sym (ap (λ (x : PlainForm). x.fault) (same_form f a ts us h e s)) ∙ k)

pub within_same : PlacesAreApart → (f : Forest) (a : ℕ) (ts us : List PlainLexeme) → IsForest jml_productions f (Name a ∷ []) []
    → length ts ≡ length us → SayTheSame false f ts us
    → (form_of f ts).high ≡ None → (form_of f us).high ≡ None
within_same apart f a ts us h e s k = apart.within f (moved ts us) us (alike ts us e) (sym (ap (λ (x : PlainForm). x.high) (same_form f a ts us h e s)) ∙ k)

-- What trees side by side tell: their clauses, the first fault, the first part that is too high, and their texts.
use Rattle.std.proofs.Common.{◌≡◌, ◌==◌, ℕ, cond, List, [], ◌∷◌, ◌++◌, drop, length, Option, None, refl, sym, ap, ◌∙◌}
use Rattle.std.specs.List.{slice_get, flat_map}
use Rattle.std.specs.Option.{option_map_or}
use Rattle.std.proofs.lemmas.List.{append-nil}
use Rattle.jd_grammar.specs.Grammars.{Production, Forest, Done, Leaf, Node, yield}
use Rattle.jd_grammar.specs.Folds.{values}
use Rattle.jd_grammar.specs.declared.table.Symbol.{Symbol}
use Rattle.jd_grammar.specs.declared.table.Symbol.TheVariants.{Token, Name}
use Rattle.jd_jml_grammar.specs.Productions.{jml_productions}
use Rattle.jd_jml_grammar.specs.declared.names.TheConstants as names
use Rattle.jd_jml_tokens.specs.Lexemes.{PlainLexeme, place_of}
use Rattle.jd_syntax.specs.SpecTrees.{PlainClause}
use Rattle.jd_jml_values.specs.Values.{PlainValue}
use Rattle.jd_jml_values.specs.Parts.{clauses_of}
use Rattle.jd_jml_clauses.specs.Meaning.{word}
use Rattle.jd_jml_clauses.specs.declared.action.Action.TheVariants as clauses
use Rattle.jd_jml_trees.specs.declared.actions.Action.{Action}
use Rattle.jd_jml_trees.specs.declared.actions.Action.TheVariants as actions
use Rattle.jd_jml_trees.specs.Meaning.{action_of, value_of_node, clauses_of_tree}
use Rattle.jd_jml_attributes.specs.Forms.{PlainForm, first_of}
use Rattle.jd_jml_attributes.specs.Judging.{form_of_node, form_of}
use Rattle.jd_jml_print.specs.Texts.{Texts}
use Rattle.jd_jml_texts.specs.Kept.{token_text, without_also, texts_of_node, texts_of_tree}
use Rattle.jd_jml_trimmed.proofs.Shapes.{IsShape}
use Rattle.jd_jml_trimmed.proofs.Levels.{faults, highs, first_last}

pub record Told : Type 0 where
  pub clauses : List PlainClause
  pub fault : Option ℕ
  pub high : Option ℕ
  pub texts : Texts

abbrev pub tells : List PlainClause → Option ℕ → Option ℕ → Texts → Told
tells cs f h xs = record { clauses = cs; fault = f; high = h; texts = xs }

pub four : {A B C D E : Type 0} (f : A → B → C → D → E) {a a' : A} {b b' : B} {c c' : C} {d d' : D} → a ≡ a' → b ≡ b' → c ≡ c' → d ≡ d'
    → f a b c d ≡ f a' b' c' d'
four f {a} {a'} {b} {b'} {c} {c'} {d} {d'} e g h i = ap (λ x. f x b c d) e ∙ ap (λ x. f a' x c d) g ∙ ap (λ x. f a' b' x d) h ∙ ap (f a' b' c') i

abbrev pub nothing : Told
nothing = tells [] None None []

abbrev pub beside : Told → Told → Told
beside a b = tells (a.clauses ++ b.clauses) (first_of a.fault b.fault) (first_of a.high b.high) (a.texts ++ b.texts)

pub nothing_beside : (a : Told) → beside nothing a ≡ a
nothing_beside a = refl

pub beside_nothing : (a : Told) → beside a nothing ≡ a
beside_nothing a = four tells (append-nil a.clauses) (first_last a.fault) (first_last a.high) (append-nil a.texts)

-- ---- of values side by side, of a node, of trees side by side

abbrev pub sums : List PlainValue → List PlainForm → List Texts → Told
sums vs fs xs = tells (flat_map clauses_of vs) (faults fs) (highs fs) (flat_map (λ x. x) xs)

abbrev pub told_by : ℕ → List PlainLexeme → List PlainValue → List PlainForm → List Texts → Told
told_by p ts vs fs xs = tells (clauses_of (value_of_node p ts vs)) (form_of_node p ts fs).fault (form_of_node p ts fs).high (texts_of_node p ts xs)

abbrev pub node : ℕ → Forest → List PlainLexeme → Told
node p c ts = told_by p ts (values value_of_node c ts) (values form_of_node c ts) (values texts_of_node c ts)

abbrev pub total : Forest → List PlainLexeme → Told
total f ts = sums (values value_of_node f ts) (values form_of_node f ts) (values texts_of_node f ts)

pub node_then : (p : ℕ) (c f : Forest) (ts : List PlainLexeme) → total (Node p c f) ts ≡ beside (node p c ts) (total f (drop (length (yield c)) ts))
node_then p c f ts = refl

pub alone : (p : ℕ) (c : Forest) (ts : List PlainLexeme) → total (Node p c Done) ts ≡ node p c ts
alone p c ts = beside_nothing (node p c ts)

-- what a whole tree tells
pub tree_tells : (f : Forest) (a : ℕ) (ts : List PlainLexeme) → IsShape f (Name a ∷ [])
    → total f ts ≡ tells (clauses_of_tree f ts) (form_of f ts).fault (form_of f ts).high (texts_of_tree f ts)
tree_tells Done a ts h = absurd h
tree_tells (Leaf k f) a ts h = absurd h
tree_tells (Node p c Done) a ts h = alone p c ts
tree_tells (Node p c (Leaf k f)) a ts (r, at, is, below, behind) = absurd behind
tree_tells (Node p c (Node q d f)) a ts (r, at, is, below, behind) = absurd behind

-- ---- what a node tells beyond its parts

abbrev own_clauses : Action → List PlainLexeme → List PlainClause
own_clauses (actions.Clause (clauses.Word w)) ts = word (place_of 0 ts) w ∷ []
own_clauses _ ts = []

abbrev front_text : List Symbol → List PlainLexeme → Texts
front_text (Token kind ∷ ss) ts = token_text kind ts
front_text ss ts = []

abbrev own_texts : Production → List PlainLexeme → Texts
own_texts r ts = front_text (cond (r.head == names.CONTRACT) (without_also r.body) r.body) ts

abbrev pub own : ℕ → List PlainLexeme → Told
own p ts = tells (own_clauses (action_of p) ts) None None (option_map_or (λ r. own_texts r ts) (slice_get jml_productions p) [])

-- it hangs on the first token alone, where that is of the node
abbrev pub Owns : ℕ → List Symbol → Type 0
Owns p (Token kind ∷ ss) = (t : PlainLexeme) (xs ys : List PlainLexeme) → own p (t ∷ xs) ≡ own p (t ∷ ys)
Owns p ss = (ts us : List PlainLexeme) → own p ts ≡ own p us

abbrev pub StartAlike : List Symbol → List PlainLexeme → List PlainLexeme → Type 0
StartAlike (Token kind ∷ ss) ts us = (t : PlainLexeme) × (xs : List PlainLexeme) × (ys : List PlainLexeme) × (ts ≡ t ∷ xs) × (us ≡ t ∷ ys)
StartAlike ss ts us = Unit {0}

pub own_alike : (p : ℕ) (ss : List Symbol) (ts us bs cs : List PlainLexeme) → Owns p ss → StartAlike ss ts us → own p (ts ++ bs) ≡ own p (us ++ cs)
own_alike p [] ts us bs cs o s = o (ts ++ bs) (us ++ cs)
own_alike p (Name a ∷ ss) ts us bs cs o s = o (ts ++ bs) (us ++ cs)
own_alike p (Token kind ∷ ss) ts us bs cs o (t, xs, ys, e, g) =
    ap (λ zs. own p (zs ++ bs)) e ∙ o t (xs ++ bs) (ys ++ cs) ∙ sym (ap (λ zs. own p (zs ++ cs)) g)

-- The texts of the tokens of a derivation, as they are printed.
use Rattle.std.specs.Prelude.{◌≡◌, ℕ, List, [], ◌∷◌, ◌++◌, length, drop, cond, ◌==◌, true}
use Rattle.std.specs.Fmt.{signed_decimal}
use Rattle.std.specs.List.{slice_get, flat_map}
use Rattle.std.specs.Option.{option_map_or}
use Rattle.jd_grammar.specs.Grammars.{Production, Forest, Done, Leaf, Node, yield, IsForest}
use Rattle.jd_grammar.specs.Folds.{values}
use Rattle.jd_grammar.specs.Nodes.{all_of, filled}
use Rattle.jd_grammar.specs.declared.piles.NodeParts.{NodeParts}
use Rattle.jd_grammar.specs.declared.table.Symbol.{Symbol}
use Rattle.jd_grammar.specs.declared.table.Symbol.TheVariants.{Token, Name}
use Rattle.jd_java_tokens.specs.Words.{Table}
use Rattle.jd_jml_grammar.specs.Jml.{is_place}
use Rattle.jd_jml_grammar.specs.Productions.{jml_productions}
use Rattle.jd_jml_grammar.specs.declared.kinds.TheConstants as kinds
use Rattle.jd_jml_grammar.specs.declared.names.TheConstants as names
use Rattle.jd_jml_tokens.specs.Lexemes.{PlainLexeme, text_of, number_of}
use Rattle.jd_jml_tokens.specs.Words.{words, used_signs}
use Rattle.jd_syntax.specs.SpecTrees as jml
use Rattle.jd_syntax.specs.SpecTrees.{PlainSpec, PlainClause}
use Rattle.jd_syntax.specs.declared.java.InfixOperator.TheVariants.{AndAlso, LessOrEqual, Less}
use Rattle.jd_jml_values.specs.Values.{PlainValue, Nothing, Expression}
use Rattle.jd_jml_values.specs.Parts.{expression_of, name_of}
use Rattle.jd_jml_expressions.specs.declared.action.Action.TheVariants as expressions
use Rattle.jd_jml_trees.specs.declared.actions.Action.{Action}
use Rattle.jd_jml_trees.specs.declared.actions.Action.TheVariants as actions
use Rattle.jd_jml_trees.specs.Meaning.{action_of, value_of_node, clauses_of_tree}
use Rattle.jd_jml_print.specs.Texts.{Texts, clause_texts}

-- ---- the text of a token

-- the first word or sign of a table that is of that kind
abbrev pub first_spelled : ℕ → Table → Texts
first_spelled kind [] = []
first_spelled kind (row ∷ rows) = cond (row.1 == kind) (row.0 ∷ []) (first_spelled kind rows)

-- A token of that kind is printed in the first spelling of its kind, a name and a number as they stand first among the tokens; what is
-- read and left out is not printed.
abbrev pub token_text : ℕ → List PlainLexeme → Texts
token_text kind ts =
    cond (kind == kinds.VISIBILITY) []
    (cond (kind == kinds.IDENTIFIER) (text_of ts ∷ [])
    (cond (kind == kinds.NUMBER) (signed_decimal (number_of ts) ∷ [])
    (first_spelled kind words ++ first_spelled kind used_signs)))

-- ---- the texts of a node

abbrev pub rest : {V : Type 0} → V → NodeParts V → NodeParts V
rest nothing parts = record { first = parts.second; second = parts.third; third = parts.fourth; fourth = nothing }

-- those of its tokens and of its parts, in order
abbrev pub body_texts : List Symbol → List PlainLexeme → NodeParts Texts → Texts
body_texts [] ts parts = []
body_texts (Token kind ∷ ss) ts parts = token_text kind ts ++ body_texts ss ts parts
body_texts (Name a ∷ []) ts parts = parts.first
body_texts (Name a ∷ s ∷ ss) ts parts = parts.first ++ body_texts (s ∷ ss) ts (rest [] parts)

-- the `also` that a contract begins with is left out
abbrev pub without_also : List Symbol → List Symbol
without_also (Token kind ∷ ss) = cond (kind == kinds.ALSO) ss (Token kind ∷ ss)
without_also ss = ss

-- a name is printed as it stands, though it is spelled like a word
abbrev pub production_texts : Production → List PlainLexeme → NodeParts Texts → Texts
production_texts r ts parts =
    cond (r.head == names.IDENTIFIER) (text_of ts ∷ [])
    (cond (r.head == names.CONTRACT) (body_texts (without_also r.body) ts parts) (body_texts r.body ts parts))

abbrev pub texts_of_node : ℕ → List PlainLexeme → List Texts → Texts
texts_of_node p ts us = option_map_or (λ r. production_texts r ts (filled (all_of []) us)) (slice_get jml_productions p) []

abbrev pub first_texts : List Texts → Texts
first_texts [] = []
first_texts (t ∷ ts) = t

-- those of a whole derivation, over its tokens
abbrev pub texts_of_tree : Forest → List PlainLexeme → Texts
texts_of_tree f ts = first_texts (values texts_of_node f ts)

-- ---- casts and sums

-- `a <= x && x < b` of that name
abbrev pub IsRange : List ℕ → PlainSpec → Type 0
IsRange x e =
    (at low name high other : ℕ) × (a b : PlainSpec) × (e ≡ jml.Infix at AndAlso (jml.Infix low LessOrEqual a (jml.Name name x)) (jml.Infix high Less (jml.Name other x) b))

-- What is cast to a class stands behind a name alone, and the range of a sum is one.
abbrev pub IsProperNode : Action → NodeParts PlainValue → Type 0
IsProperNode (actions.Expression expressions.Parenthesis) parts =
    (e : PlainSpec) → parts.second ≡ Expression e → (at : ℕ) × (x : List ℕ) × (expression_of parts.first ≡ jml.Name at x)
IsProperNode (actions.Expression expressions.Sum) parts = IsRange (name_of parts.first).name (expression_of parts.second)
IsProperNode _ parts = Unit {0}

abbrev pub IsProper : Forest → List PlainLexeme → Type 0
IsProper Done ts = Unit {0}
IsProper (Leaf k f) ts = IsProper f (drop 1 ts)
IsProper (Node p c f) ts = IsProperNode (action_of p) (filled (all_of Nothing) (values value_of_node c ts)) × IsProper c ts × IsProper f (drop (length (yield c)) ts)

-- ---- the law

abbrev pub all_texts : List PlainClause → Texts
all_texts cs = flat_map clause_texts cs

-- a derivation of the JML of a place
abbrev pub TextsAreKept : Type 0
TextsAreKept =
    (f : Forest) (place : ℕ) (ts : List PlainLexeme) → is_place place ≡ true → IsForest jml_productions f (Name place ∷ []) [] → IsProper f ts
    → texts_of_tree f ts ≡ all_texts (clauses_of_tree f ts)

-- The texts of the tokens of a derivation of a file, and that its tree has them.
use Rattle.std.specs.Prelude.{◌≡◌, ℕ, zero, suc, List, [], ◌∷◌, ◌++◌, length, drop, cond, ◌==◌, ◌&&◌, Bool, true, false, codes}
use Rattle.std.specs.Fmt.{decimal}
use Rattle.std.specs.List.{slice_get, list_any}
use Rattle.std.specs.Option.{option_map_or}
use Rattle.jd_grammar.specs.Grammars.{Production, Forest, Done, Leaf, Node, yield, IsForest}
use Rattle.jd_grammar.specs.Folds.{values}
use Rattle.jd_grammar.specs.Nodes.{all_of, filled}
use Rattle.jd_grammar.specs.declared.piles.NodeParts.{NodeParts}
use Rattle.jd_grammar.specs.declared.table.Symbol.{Symbol}
use Rattle.jd_grammar.specs.declared.table.Symbol.TheVariants.{Token, Name}
use Rattle.jd_java_grammar.specs.Productions.{java_productions}
use Rattle.jd_java_grammar.specs.declared.kinds.TheConstants as kinds
use Rattle.jd_java_grammar.specs.declared.names.TheConstants as names
use Rattle.jd_java_tokens.specs.Contents.{PlainLexeme}
use Rattle.jd_java_tokens.specs.Heads.{text_of, number_of}
use Rattle.jd_java_tokens.specs.Words.{Table, reserved_words, used_signs}
use Rattle.jd_syntax.specs.JavaTrees as java
use Rattle.jd_syntax.specs.JavaTrees.{JavaExpr}
use Rattle.jd_java_values.specs.Values as tree
use Rattle.jd_java_values.specs.Values.{PlainValue}
use Rattle.jd_java_values.specs.Parts.{expression_of, static_of}
use Rattle.jd_java_expressions.specs.declared.action.Action.TheVariants as expressions
use Rattle.jd_java_members.specs.declared.action.Action.TheVariants as members
use Rattle.jd_java_trees.specs.declared.actions.Action.{Action}
use Rattle.jd_java_trees.specs.declared.actions.Action.TheVariants as actions
use Rattle.jd_java_trees.specs.Meaning.{action_of, value_of_node, unit_of}
use Rattle.jd_java_texts.specs.Texts.{Texts, unit_texts}

abbrev pub is_among : List ℕ → ℕ → Bool
is_among ns n = list_any (λ m. n == m) ns

-- ---- the text of a token

-- JML, modifiers but `static`, and the sign of an annotation
abbrev pub kinds_left_out : List ℕ
kinds_left_out = kinds.SPECS ∷ kinds.IGNORED_MODIFIER ∷ kinds.FINAL ∷ kinds.AT_SIGN ∷ []

abbrev pub kinds_of_numbers : List ℕ
kinds_of_numbers = kinds.NUMBER ∷ kinds.LEAST_NUMBER ∷ []

-- the first word or sign of a table that is of that kind
abbrev pub first_spelled : ℕ → Table → Texts
first_spelled kind [] = []
first_spelled kind (row ∷ rows) = cond (row.1 == kind) (row.0 ∷ []) (first_spelled kind rows)

-- The text of the first of the tokens, which is of that kind: a name as it stands, a number in decimal digits, and all others in the
-- spelling of their kind.
abbrev pub token_text : ℕ → List PlainLexeme → Texts
token_text kind ts =
    cond (is_among kinds_left_out kind) []
    (cond (kind == kinds.IDENTIFIER) (text_of ts ∷ [])
    (cond (is_among kinds_of_numbers kind) (decimal (number_of ts) ∷ [])
    (first_spelled kind reserved_words ++ first_spelled kind used_signs)))

-- ---- the texts of a node

abbrev pub rest : {V : Type 0} → V → NodeParts V → NodeParts V
rest nothing parts = record { first = parts.second; second = parts.third; third = parts.fourth; fourth = nothing }

-- those of its tokens and of its parts, in order; in all bodies names and numbers stand before the parts
abbrev pub body_texts : List Symbol → List PlainLexeme → NodeParts Texts → Texts
body_texts [] ts parts = []
body_texts (Token kind ∷ ss) ts parts = token_text kind ts ++ body_texts ss (drop 1 ts) parts
body_texts (Name a ∷ []) ts parts = parts.first
body_texts (Name a ∷ s ∷ ss) ts parts = parts.first ++ body_texts (s ∷ ss) [] (rest [] parts)

-- the names behind the first one of a package, the modifiers of a class, and `throws`
abbrev pub names_left_out : List ℕ
names_left_out = names.QUALIFIED_NAME ∷ names.CLASS_MODIFIERS ∷ names.THROWS ∷ []

-- a file without its package
abbrev pub file_texts : List Symbol → NodeParts Texts → Texts
file_texts (Token kind ∷ ss) parts = parts.third
file_texts ss parts = parts.first

abbrev pub first_there : Texts → Texts → Texts
first_there [] us = us
first_there (t ∷ ts) us = t ∷ ts

-- what is twice among modifiers is there once (8.3.1, 8.4.3)
abbrev pub modifiers_texts : List Symbol → NodeParts Texts → Texts
modifiers_texts [] parts = []
modifiers_texts (s ∷ ss) parts = first_there parts.first parts.third

-- a number behind a minus sign, with the sign where it is not 0
abbrev pub negated_texts : ℕ → Texts
negated_texts zero = decimal zero ∷ []
negated_texts (suc n) = codes "-" ∷ decimal (suc n) ∷ []

-- the sign of a constant stands with its number
abbrev pub without_minus : List Symbol → List Symbol
without_minus (Token kind ∷ ss) = cond (kind == kinds.MINUS) ss (Token kind ∷ ss)
without_minus ss = ss

-- An annotation's name and what stands before the type of a parameter are left out too.
abbrev pub production_texts : Production → List PlainLexeme → NodeParts Texts → Texts
production_texts r ts parts =
    cond (is_among names_left_out r.head) []
    (cond (r.head == names.COMPILATION_UNIT) (file_texts r.body parts)
    (cond (r.head == names.MODIFIER) (body_texts r.body ts (all_of []))
    (cond (r.head == names.MODIFIERS) (modifiers_texts r.body parts)
    (cond (r.head == names.PARAMETER) (parts.third ++ parts.fourth)
    (cond (r.head == names.MAGNITUDE) (negated_texts (number_of ts))
    (cond (r.head == names.CONSTANT) (body_texts (without_minus r.body) ts parts)
    (body_texts r.body ts parts)))))))

-- ---- and whether it declares a constructor

pub record NodeTexts : Type 0 where
  pub texts : Texts
  pub of_constructor : Bool

abbrev pub no_texts : NodeTexts
no_texts = record { texts = []; of_constructor = false }

abbrev pub all_texts : NodeParts NodeTexts → NodeParts Texts
all_texts us = record { first = us.first.texts; second = us.second.texts; third = us.third.texts; fourth = us.fourth.texts }

abbrev pub begins_with : ℕ → List Symbol → Bool
begins_with kind (Token k ∷ ss) = k == kind
begins_with kind _ = false

-- `(` stands behind the name that it begins with (8.8)
abbrev pub is_constructor : Production → NodeParts NodeTexts → Bool
is_constructor r us =
    cond (r.head == names.IDENTIFIER_DECLARATION) (begins_with kinds.OPEN_PAREN r.body)
    (cond (r.head == names.DECLARATION) (begins_with kinds.IDENTIFIER r.body && us.first.of_constructor) false)

-- `static` before a constructor is left out (8.8.3)
abbrev pub declared_texts : NodeParts NodeTexts → Texts
declared_texts us = cond us.second.of_constructor us.second.texts (us.first.texts ++ us.second.texts)

abbrev pub node_texts : Production → List PlainLexeme → NodeParts NodeTexts → NodeTexts
node_texts r ts us = record {
  texts = cond (r.head == names.MEMBER_DECLARATION) (declared_texts us) (production_texts r ts (all_texts us));
  of_constructor = is_constructor r us;
}

-- ---- the texts of a derivation

abbrev pub texts_of_node : ℕ → List PlainLexeme → List NodeTexts → NodeTexts
texts_of_node p ts us = option_map_or (λ r. node_texts r ts (filled (all_of no_texts) us)) (slice_get java_productions p) no_texts

abbrev pub first_of_all : List NodeTexts → NodeTexts
first_of_all [] = no_texts
first_of_all (u ∷ us) = u

-- those of a whole one, over its tokens
abbrev pub texts_of_tree : Forest → List PlainLexeme → Texts
texts_of_tree f ts = (first_of_all (values texts_of_node f ts)).texts

-- ---- casts, and where `static` stands

-- before a constant, and before no field (8.3)
abbrev pub IsStaticAsDeclared : Bool → PlainValue → Type 0
IsStaticAsDeclared static (tree.Declaration given x (tree.FieldNames xs)) = static ≡ false
IsStaticAsDeclared static (tree.Declaration given x (tree.Constant n)) = static ≡ true
IsStaticAsDeclared static _ = Unit {0}

-- what is cast to a class stands behind a name alone
abbrev pub IsProperNode : Action → NodeParts PlainValue → Type 0
IsProperNode (actions.Expression expressions.Parenthesis) parts =
    (e : JavaExpr) → parts.second ≡ tree.Expression e → (at : ℕ) × (x : List ℕ) × (expression_of parts.first ≡ java.Name at x)
IsProperNode (actions.Member members.Member) parts = IsStaticAsDeclared (static_of parts.first) parts.second
IsProperNode _ parts = Unit {0}

abbrev pub IsProper : Forest → List PlainLexeme → Type 0
IsProper Done ts = Unit {0}
IsProper (Leaf k f) ts = IsProper f (drop 1 ts)
IsProper (Node p c f) ts =
    IsProperNode (action_of p) (filled (all_of tree.Nothing) (values value_of_node c ts)) × IsProper c ts × IsProper f (drop (length (yield c)) ts)

-- ---- the law

-- a derivation of a file
abbrev pub TextsAreKept : Type 0
TextsAreKept =
    (f : Forest) (ts : List PlainLexeme) → IsForest java_productions f (Name names.COMPILATION_UNIT ∷ []) [] → IsProper f ts
    → texts_of_tree f ts ≡ unit_texts (unit_of f ts)

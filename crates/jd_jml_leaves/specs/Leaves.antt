-- The leaves of a derivation of JML: how each is printed, and what of its token is looked at.
use Rattle.std.specs.Prelude.{◌≡◌, ℕ, List, [], ◌∷◌, ◌++◌, map, length, drop, Bool, true, false, None, ◌==◌}
use Rattle.std.specs.List.{slice_get}
use Rattle.std.specs.Option.{option_map_or}
use Rattle.jd_grammar.specs.Grammars.{Forest, Done, Leaf, Node, yield, IsForest}
use Rattle.jd_grammar.specs.declared.table.Symbol.TheVariants.{Name}
use Rattle.jd_jml_grammar.specs.Productions.{jml_productions}
use Rattle.jd_jml_grammar.specs.declared.kinds.TheConstants as kinds
use Rattle.jd_jml_grammar.specs.declared.names.TheConstants as names
use Rattle.jd_jml_tokens.specs.Lexemes.{PlainLexeme, text_of, number_of}
use Rattle.jd_jml_attributes.specs.Judging.{form_of}
use Rattle.jd_jml_trees.specs.Meaning.{clauses_of_tree}
use Rattle.jd_jml_places.specs.Unplaced.{unplaced_clause}
use Rattle.jd_jml_print.specs.Texts.{Texts}
use Rattle.jd_jml_texts.specs.Kept.{token_text, texts_of_tree}
use Rattle.jd_jml_trimmed.specs.Trimmed.{IsTrimmed}

-- whether a node of that production is a name
abbrev pub is_name : ℕ → Bool
is_name p = option_map_or (λ r. r.head == names.IDENTIFIER) (slice_get jml_productions p) false

-- ---- how leaves are printed

-- a leaf of a name is printed as it stands, another in the first spelling of its kind or as a number
abbrev pub leaf_text : Bool → ℕ → List PlainLexeme → Texts
leaf_text true k ts = text_of ts ∷ []
leaf_text false k ts = token_text k ts

-- those of trees side by side, which are right below a name or not
abbrev pub leaf_texts : Bool → Forest → List PlainLexeme → Texts
leaf_texts named Done ts = []
leaf_texts named (Leaf k f) ts = leaf_text named k ts ++ leaf_texts named f (drop 1 ts)
leaf_texts named (Node p c f) ts = leaf_texts (is_name p) c ts ++ leaf_texts named f (drop (length (yield c)) ts)

-- ---- what is looked at

-- the text where the leaf is a name's, and the value where it is a number
abbrev pub SaysSame : Bool → ℕ → List PlainLexeme → List PlainLexeme → Type 0
SaysSame true k ts us = text_of ts ≡ text_of us
SaysSame false k ts us = k ≡ kinds.NUMBER → number_of ts ≡ number_of us

abbrev pub SayTheSame : Bool → Forest → List PlainLexeme → List PlainLexeme → Type 0
SayTheSame named Done ts us = Unit {0}
SayTheSame named (Leaf k f) ts us = SaysSame named k ts us × SayTheSame named f (drop 1 ts) (drop 1 us)
SayTheSame named (Node p c f) ts us = SayTheSame (is_name p) c ts us × SayTheSame named f (drop (length (yield c)) ts) (drop (length (yield c)) us)

-- ---- the laws

-- A derivation without words that are left out is printed with the texts of its leaves. Over as many tokens that say the same at its
-- leaves a derivation stands for clauses that are the same but for their places, and is without fault, and nothing in it is too high,
-- over both or over none.
pub record LeavesTellAll : Type 0 where
  pub texts : (f : Forest) (a : ℕ) (ts : List PlainLexeme) → IsForest jml_productions f (Name a ∷ []) [] → IsTrimmed f
      → texts_of_tree f ts ≡ leaf_texts false f ts
  pub clauses : (f : Forest) (a : ℕ) (ts us : List PlainLexeme) → IsForest jml_productions f (Name a ∷ []) [] → length ts ≡ length us
      → SayTheSame false f ts us
      → map unplaced_clause (clauses_of_tree f ts) ≡ map unplaced_clause (clauses_of_tree f us)
  pub faultless : (f : Forest) (a : ℕ) (ts us : List PlainLexeme) → IsForest jml_productions f (Name a ∷ []) [] → length ts ≡ length us
      → SayTheSame false f ts us
      → (form_of f ts).fault ≡ None → (form_of f us).fault ≡ None
  pub within : (f : Forest) (a : ℕ) (ts us : List PlainLexeme) → IsForest jml_productions f (Name a ∷ []) [] → length ts ≡ length us
      → SayTheSame false f ts us
      → (form_of f ts).high ≡ None → (form_of f us).high ≡ None

-- A derivation of JML without the words that are read and left out: visibility, and the `also` that a contract begins with.
use Rattle.std.specs.Prelude.{◌≡◌, ◌≢◌, ◌⊎◌, ℕ, List, [], ◌∷◌, Bool, true, false, ◌&&◌, ◌==◌}
use Rattle.std.specs.List.{slice_get}
use Rattle.std.specs.Option.{option_map_or}
use Rattle.jd_grammar.specs.Grammars.{Production, Forest, Done, Leaf, Node, yield, IsForest}
use Rattle.jd_grammar.specs.declared.table.Symbol.{Symbol}
use Rattle.jd_grammar.specs.declared.table.Symbol.TheVariants.{Token, Name}
use Rattle.jd_jml_grammar.specs.Jml.{is_place}
use Rattle.jd_jml_grammar.specs.Productions.{jml_productions}
use Rattle.jd_jml_grammar.specs.declared.kinds.TheConstants as kinds
use Rattle.jd_jml_grammar.specs.declared.names.TheConstants as names
use Rattle.jd_jml_tokens.specs.Lexemes.{PlainLexeme, kinds_of}
use Rattle.jd_jml_attributes.specs.Judging.{form_of}
use Rattle.jd_jml_trees.specs.Meaning.{clauses_of_tree}
use Rattle.jd_jml_texts.specs.Kept.{texts_of_tree}

-- ---- nothing is left out

abbrev pub begins_with_also : List Symbol → Bool
begins_with_also (Token kind ∷ ss) = kind == kinds.ALSO
begins_with_also ss = false

-- a contract that begins with `also`
abbrev pub leaves_out : Production → Bool
leaves_out r = (r.head == names.CONTRACT) && begins_with_also r.body

-- each token of the derivation is printed
abbrev pub IsTrimmed : Forest → Type 0
IsTrimmed Done = Unit {0}
IsTrimmed (Leaf k f) = (k ≢ kinds.VISIBILITY) × IsTrimmed f
IsTrimmed (Node p c f) = (option_map_or leaves_out (slice_get jml_productions p) false ≡ false) × IsTrimmed c × IsTrimmed f

-- ---- what is left out

abbrev pub IsLeftOut : PlainLexeme → Type 0
IsLeftOut t = (t.kind ≡ kinds.VISIBILITY) ⊎ (t.kind ≡ kinds.ALSO)

-- the first tokens are the second without some that may be left out
abbrev pub AreWithout : List PlainLexeme → List PlainLexeme → Type 0
AreWithout us [] = us ≡ []
AreWithout us (t ∷ ts) = (IsLeftOut t × AreWithout us ts) ⊎ ((vs : List PlainLexeme) × (us ≡ t ∷ vs) × AreWithout vs ts)

-- ---- the law

-- A derivation of the same place without these words, over the tokens without them. It stands for the same clauses, places and all, has
-- the same fault and the same part that is too high, and is printed with the same texts.
pub record Trimmed (f : Forest) (place : ℕ) (ts : List PlainLexeme) : Type 0 where
  pub forest : Forest
  pub tokens : List PlainLexeme
  pub tree : IsForest jml_productions forest (Name place ∷ []) []
  pub spelled : yield forest ≡ kinds_of tokens
  pub trimmed : IsTrimmed forest
  pub without : AreWithout tokens ts
  pub clauses : clauses_of_tree forest tokens ≡ clauses_of_tree f ts
  pub fault : (form_of forest tokens).fault ≡ (form_of f ts).fault
  pub high : (form_of forest tokens).high ≡ (form_of f ts).high
  pub texts : texts_of_tree forest tokens ≡ texts_of_tree f ts

abbrev pub DerivationsAreTrimmed : Type 0
DerivationsAreTrimmed =
    (f : Forest) (place : ℕ) (ts : List PlainLexeme) → is_place place ≡ true → IsForest jml_productions f (Name place ∷ []) [] → yield f ≡ kinds_of ts
    → Trimmed f place ts

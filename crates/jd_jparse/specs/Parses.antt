-- The file that tokens spell, and why they spell none.
use Rattle.std.specs.Prelude.{◌≡◌, ℕ, ◌-◌, ◌≤◌, min, List, [], ◌∷◌, length, map, Option, Some, None}
use Rattle.std.specs.List.{slice_get, position_from}
use Rattle.std.specs.Option.{option_map_or}
use Rattle.jd_lex.specs.Parts as lexed
use Rattle.jd_syntax.specs.JavaTrees.{JavaUnit}
use Rattle.jd_grammar.specs.Grammars.{Forest, IsForest, yield}
use Rattle.jd_grammar.specs.Readings.{StopsAt}
use Rattle.jd_grammar.specs.declared.table.Symbol.TheVariants.{Name}
use Rattle.jd_java_grammar.specs.Productions.{java_productions}
use Rattle.jd_java_grammar.specs.declared.names.TheConstants.{COMPILATION_UNIT}
use Rattle.jd_java_tokens.specs.Contents.{PlainLexeme}
use Rattle.jd_java_tokens.specs.Lexemes.{lexemes_of}
use Rattle.jd_java_tokens.specs.Unsupported.{is_unsupported}
use Rattle.jd_java_attributes.specs.Judging.{PlainAttributes, attributes_of, fault_of}
use Rattle.jd_java_trees.specs.Meaning.{unit_of}
use Rattle.jd_jparse.specs.declared.refusal.ParseRefusal.{ParseRefusal}
use Rattle.jd_jparse.specs.declared.refusal.ParseRefusal.TheVariants as refusals

-- what the grammar sees of tokens
abbrev pub seen : List lexed.Token → List PlainLexeme
seen ts = lexemes_of 0 ts

abbrev pub kinds : List PlainLexeme → List ℕ
kinds ls = map (λ l. l.kind) ls

-- the number of the first token outside JML that no file may have
abbrev pub first_unsupported : List lexed.Token → Option ℕ
first_unsupported ts = position_from is_unsupported 0 ts

-- ---- what is read

-- the tokens are derived so as a file
pub record Derives (ts : List lexed.Token) (file : Forest) : Type 0 where
  pub tree : IsForest java_productions file (Name COMPILATION_UNIT ∷ []) []
  pub tokens : yield file ≡ kinds (seen ts)

-- what a derivation tells beyond the grammar
abbrev pub told : List lexed.Token → Forest → PlainAttributes
told ts file = attributes_of file (seen ts)

-- they are a file's, and all in it is as it is asked to be
pub record Spells (ts : List lexed.Token) (file : Forest) : Type 0 where
  pub derived : Derives ts file
  pub faultless : fault_of (told ts file) ≡ None

-- nothing in it is too high, and this is its tree
pub record Reads (ts : List lexed.Token) (tree : JavaUnit) : Type 0 where
  pub supported : first_unsupported ts ≡ None
  pub file : Forest
  pub spelled : Spells ts file
  pub within : (told ts file).form.high ≡ None
  pub is : unit_of file (seen ts) ≡ tree

-- ---- what is refused

-- the bytes of a word or a sign
abbrev pub text_of : lexed.Kind → List ℕ
text_of (lexed.Word w) = w
text_of (lexed.Number n) = []
text_of (lexed.Sign w) = w

-- the first token outside JML that no file may have, with its place
pub record IsUnsupported (ts : List lexed.Token) (at : ℕ) (what : List ℕ) : Type 0 where
  pub number : ℕ
  pub first : first_unsupported ts ≡ Some number
  pub token : lexed.Token
  pub there : slice_get ts number ≡ Some token
  pub place : at ≡ token.begins
  pub text : what ≡ text_of token.kind

-- no file has these tokens
pub record IsNoFile (ts : List lexed.Token) : Type 0 where
  pub supported : first_unsupported ts ≡ None
  pub by_none : (file : Forest) → Spells ts file → ⊥

-- they are a file's in which something is too high
pub record IsTooDeep (ts : List lexed.Token) : Type 0 where
  pub supported : first_unsupported ts ≡ None
  pub file : Forest
  pub spelled : Spells ts file
  pub place : ℕ
  pub above : (told ts file).form.high ≡ Some place

-- ---- places

-- the offset behind the last token, 0 where there is none
abbrev pub end_of : List lexed.Token → ℕ
end_of ts = option_map_or (λ t. t.ends) (slice_get ts (length ts - 1)) 0

-- the place of the token of the grammar of that number, or the end
abbrev pub place_of_token : List lexed.Token → ℕ → ℕ
place_of_token ts n = min (option_map_or (λ l. l.at) (slice_get (seen ts) n) (end_of ts)) (end_of ts)

-- where it shows that no file has the tokens: at the first token with which no derivation goes on, those before which begin one; or,
-- where they have a derivation, at the first token that tells that something in it is not as it is asked to be
pub data Shows (ts : List lexed.Token) : ℕ → Type 0 where
  stops : (n : ℕ) → StopsAt java_productions COMPILATION_UNIT (kinds (seen ts)) n → Shows ts (place_of_token ts n)
  asks : (file : Forest) (at : ℕ) → Derives ts file → fault_of (told ts file) ≡ Some at → Shows ts (min at (end_of ts))

-- each refusal holds exactly where its cause does; the place where no file goes on, and that of what is too high, are not
-- behind the tokens
abbrev pub Refuses : List lexed.Token → ParseRefusal → Type 0
Refuses ts (refusals.Syntax file at) = (file ≡ 0) × IsNoFile ts × (at ≤ end_of ts) × Shows ts at
Refuses ts (refusals.Unsupported file at what) = (file ≡ 0) × IsUnsupported ts at what.items
Refuses ts (refusals.TooDeep file at) = (file ≡ 0) × IsTooDeep ts × (at ≤ end_of ts)
Refuses ts refusals.NoMemory = Unit {0}

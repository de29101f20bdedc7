-- The clauses that tokens spell at a place, and why they spell none.
use Rattle.std.specs.Prelude.{◌≡◌, ℕ, ◌-◌, ◌≤◌, min, List, [], ◌∷◌, length, Some, None}
use Rattle.std.specs.List.{slice_get}
use Rattle.std.specs.Option.{option_map_or}
use Rattle.jd_lex.specs.Parts as lexed
use Rattle.jd_syntax.specs.SpecTrees.{PlainClause}
use Rattle.jd_syntax.specs.declared.spec.SpecPlace.{SpecPlace}
use Rattle.jd_grammar.specs.Grammars.{Forest, IsForest, yield}
use Rattle.jd_grammar.specs.Readings.{StopsAt}
use Rattle.jd_grammar.specs.declared.table.Symbol.TheVariants.{Name}
use Rattle.jd_jml_grammar.specs.Productions.{jml_productions}
use Rattle.jd_jml_tokens.specs.Lexemes.{lexemes_of, kinds_of}
use Rattle.jd_jml_attributes.specs.Forms.{PlainForm}
use Rattle.jd_jml_attributes.specs.Judging.{form_of}
use Rattle.jd_jml_trees.specs.Meaning.{clauses_of_tree}
use Rattle.jd_jparse.specs.declared.refusal.ParseRefusal.{ParseRefusal}
use Rattle.jd_jparse.specs.declared.refusal.ParseRefusal.TheVariants as refusals
use Rattle.jd_jmlparse.specs.Places.{name_of}

-- ---- what is read

-- the tokens are derived so as the JML of that place
pub record Derives (place : SpecPlace) (ts : List lexed.Token) (specs : Forest) : Type 0 where
  pub tree : IsForest jml_productions specs (Name (name_of place) ∷ []) []
  pub tokens : yield specs ≡ kinds_of (lexemes_of ts)

-- what a derivation tells beyond the grammar
abbrev pub told : List lexed.Token → Forest → PlainForm
told ts tree = form_of tree (lexemes_of ts)

-- they are JML of that place, and all in it is as it is asked to be
pub record Spells (place : SpecPlace) (ts : List lexed.Token) (tree : Forest) : Type 0 where
  pub derived : Derives place ts tree
  pub faultless : (told ts tree).fault ≡ None

-- nothing in it is too high, and these are its clauses
pub record Reads (place : SpecPlace) (ts : List lexed.Token) (clauses : List PlainClause) : Type 0 where
  pub tree : Forest
  pub spelled : Spells place ts tree
  pub within : (told ts tree).high ≡ None
  pub is : clauses_of_tree tree (lexemes_of ts) ≡ clauses

-- ---- what is refused

-- no JML of that place has these tokens
pub record IsNoSpec (place : SpecPlace) (ts : List lexed.Token) : Type 0 where
  pub by_none : (tree : Forest) → Spells place ts tree → ⊥

-- they are JML of that place in which something is too high
pub record IsTooDeep (place : SpecPlace) (ts : List lexed.Token) : Type 0 where
  pub tree : Forest
  pub spelled : Spells place ts tree
  pub at : ℕ
  pub above : (told ts tree).high ≡ Some at

-- ---- places

-- the offset behind the last token, 0 where there is none
abbrev pub end_of : List lexed.Token → ℕ
end_of ts = option_map_or (λ t. t.ends) (slice_get ts (length ts - 1)) 0

-- the place of the token of that number, or the end
abbrev pub place_of_token : List lexed.Token → ℕ → ℕ
place_of_token ts n = min (option_map_or (λ t. t.begins) (slice_get ts n) (end_of ts)) (end_of ts)

-- where it shows that no JML of the place has the tokens: at the first token with which no derivation goes on, those before which
-- begin one; or, where they have a derivation, at the first token that tells that something in it is not as it is asked to be
pub data Shows (place : SpecPlace) (ts : List lexed.Token) : ℕ → Type 0 where
  stops : (n : ℕ) → StopsAt jml_productions (name_of place) (kinds_of (lexemes_of ts)) n → Shows place ts (place_of_token ts n)
  asks : (tree : Forest) (at : ℕ) → Derives place ts tree → (told ts tree).fault ≡ Some at → Shows place ts (min at (end_of ts))

-- Each refusal holds exactly where its cause does; its place is not behind the tokens. No token is unsupported in JML.
abbrev pub Refuses : SpecPlace → List lexed.Token → ParseRefusal → Type 0
Refuses place ts (refusals.Syntax file at) = (file ≡ 0) × IsNoSpec place ts × (at ≤ end_of ts) × Shows place ts at
Refuses place ts (refusals.Unsupported file at what) = ⊥
Refuses place ts (refusals.TooDeep file at) = (file ≡ 0) × IsTooDeep place ts × (at ≤ end_of ts)
Refuses place ts refusals.NoMemory = Unit {0}

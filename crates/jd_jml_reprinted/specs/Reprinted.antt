-- That the text of clauses is read as the same clauses.
use Rattle.std.specs.Prelude.{◌≡◌, ◌⊎◌, ℕ, List, [], ◌∷◌, map, true}
use Rattle.std.specs.Fmt.{signed_decimal}
use Rattle.jd_lex.specs.Lexing.{Spells}
use Rattle.jd_lex.specs.Parts as lexed
use Rattle.jd_lex.specs.Parts.{start_of}
use Rattle.jd_syntax.specs.SpecTrees.{PlainClause}
use Rattle.jd_syntax.specs.declared.spec.SpecPlace.{SpecPlace}
use Rattle.jd_jml_places.specs.Unplaced.{unplaced_clause}
use Rattle.jd_jml_print.specs.Texts.{printed}
use Rattle.jd_jml_spelled.specs.Clauses.{kind_of, AreTokens, all_texts}
use Rattle.jd_jml_spelled.specs.Comments.{IsAlone}
use Rattle.jd_jmlparse.specs.Parses.{Reads}

-- a word that is one where it stands alone, or a number whose decimal is its numeral
abbrev pub IsWhole : lexed.Kind → Type 0
IsWhole (lexed.Word text) = IsAlone (start_of true text) (lexed.Word text) text
IsWhole (lexed.Number value) = IsAlone (start_of true (signed_decimal value)) (lexed.Number value) (signed_decimal value)
IsWhole (lexed.Sign text) = Unit {0}

abbrev pub AreWhole : List lexed.Token → Type 0
AreWhole [] = Unit {0}
AreWhole (t ∷ ts) = IsWhole t.kind × AreWhole ts

-- each of the first tokens is one of the second
abbrev pub IsAmong : lexed.Token → List lexed.Token → Type 0
IsAmong u [] = ⊥
IsAmong u (t ∷ ts) = (u ≡ t) ⊎ IsAmong u ts

abbrev pub AreAmong : List lexed.Token → List lexed.Token → Type 0
AreAmong [] ts = Unit {0}
AreAmong (u ∷ us) ts = IsAmong u ts × AreAmong us ts

-- The tokens of a text are whole. Of clauses that whole tokens spell at a place: each of their texts is that of one token, and tokens
-- of the kinds of these texts spell clauses there that are the same but for their places. So where tokens of a text spell clauses at
-- a place, the text of these clauses has tokens that spell the same clauses there but for places.
pub record PrintedIsRead : Type 0 where
  pub whole : (bytes : List ℕ) (tokens : List lexed.Token) → Spells bytes tokens → AreWhole tokens
  pub texts : (place : SpecPlace) (us : List lexed.Token) (cs : List PlainClause) → AreWhole us → Reads place us cs → AreTokens (all_texts cs)
  pub again : (place : SpecPlace) (us vs : List lexed.Token) (cs : List PlainClause) → AreWhole us → Reads place us cs
      → map (λ t. t.kind) vs ≡ map kind_of (all_texts cs)
      → (ds : List PlainClause) × Reads place vs ds × (map unplaced_clause cs ≡ map unplaced_clause ds)
  pub printed_text : (bytes : List ℕ) (tokens us : List lexed.Token) (place : SpecPlace) (cs : List PlainClause) → Spells bytes tokens
      → AreAmong us tokens → Reads place us cs
      → (vs : List lexed.Token) × (ds : List PlainClause) × Spells (printed cs) vs × Reads place vs ds × (map unplaced_clause cs ≡ map unplaced_clause ds)

-- The tokens of the text of clauses.
use Rattle.std.specs.Prelude.{◌≡◌, ℕ, List, [], ◌∷◌, map, true, false, pos}
use Rattle.std.specs.List.{flat_map}
use Rattle.std.specs.Str.Parse.{digits_value}
use Rattle.jd_lex.specs.Parts.{Kind, Word, Number, Sign, start_of}
use Rattle.jd_lex.specs.Lexing.{Spells}
use Rattle.jd_lex.specs.declared.starts.Start.{Start}
use Rattle.jd_lex.specs.declared.starts.Start.TheVariants.{WordStart, NumberStart}
use Rattle.jd_syntax.specs.SpecTrees.{PlainClause}
use Rattle.jd_jml_print.specs.Texts.{Texts, clause_texts, printed}
use Rattle.jd_jml_spelled.specs.Comments.{IsTokenText, Piece, tokens_at}

-- what a text of one token is
abbrev pub kind_by : Start → List ℕ → Kind
kind_by WordStart text = Word text
kind_by NumberStart text = Number (pos (digits_value 10 text))
kind_by _ text = Sign text

abbrev pub kind_of : List ℕ → Kind
kind_of text = kind_by (start_of true text) text

-- each text is that of one token
abbrev pub AreTokens : Texts → Type 0
AreTokens [] = Unit {0}
AreTokens (t ∷ ts) = IsTokenText (kind_of t) t × AreTokens ts

abbrev pub all_texts : List PlainClause → Texts
all_texts cs = flat_map clause_texts cs

-- a clause's line
abbrev pub line : Texts → List Piece
line [] = []
line (t ∷ ts) = record { first = true; kind = kind_of t; text = t } ∷ map (λ u. record { first = false; kind = kind_of u; text = u }) ts

abbrev pub pieces : List PlainClause → List Piece
pieces cs = flat_map (λ c. line (clause_texts c)) cs

-- The text of clauses, each text in which is that of one token, spells a token for each of these texts, in JML and at its place; and
-- what these are.
pub record ClausesAreSpelled : Type 0 where
  pub spelled : (cs : List PlainClause) → AreTokens (all_texts cs) → Spells (printed cs) (tokens_at 3 (pieces cs))
  pub kinds : (cs : List PlainClause) → map (λ t. t.kind) (tokens_at 3 (pieces cs)) ≡ map kind_of (all_texts cs)

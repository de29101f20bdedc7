-- How clauses that are read are printed, and what is read where the tokens stand elsewhere.
use Rattle.std.specs.Prelude.{◌≡◌, List, map}
use Rattle.jd_grammar.specs.Grammars.{Forest}
use Rattle.jd_lex.specs.Parts as lexed
use Rattle.jd_syntax.specs.SpecTrees.{PlainClause}
use Rattle.jd_syntax.specs.declared.spec.SpecPlace.{SpecPlace}
use Rattle.jd_jml_tokens.specs.Lexemes.{lexemes_of}
use Rattle.jd_jml_places.specs.Unplaced.{unplaced_token, unplaced_clause}
use Rattle.jd_jml_texts.specs.Kept.{texts_of_tree, all_texts}
use Rattle.jd_jmlparse.specs.Parses.{Derives, Reads}

pub record ReadAgain : Type 0 where
  pub texts : (place : SpecPlace) (ts : List lexed.Token) (cs : List PlainClause) → Reads place ts cs
      → (tree : Forest) × Derives place ts tree × (texts_of_tree tree (lexemes_of ts) ≡ all_texts cs)
  pub elsewhere : (place : SpecPlace) (ts us : List lexed.Token) (cs : List PlainClause) → map unplaced_token ts ≡ map unplaced_token us → Reads place ts cs
      → (ds : List PlainClause) × Reads place us ds × (map unplaced_clause cs ≡ map unplaced_clause ds)

-- What is read is proper, and does not hang on places.
use Rattle.std.proofs.Common.{◌≡◌, true, List, [], ◌∷◌, map, refl, sym, ap, ◌∙◌}
use Rattle.jd_grammar.specs.Grammars.{Forest}
use Rattle.jd_lex.specs.Parts as lexed
use Rattle.jd_syntax.specs.SpecTrees.{PlainClause}
use Rattle.jd_syntax.specs.declared.spec.SpecPlace.{SpecPlace}
use Rattle.jd_syntax.specs.declared.spec.SpecPlace.TheVariants.{Field, Method, Modifier, Loop, ClassEnd}
use Rattle.jd_jml_grammar.specs.Jml.{is_place}
use Rattle.jd_jml_tokens.specs.Words.{kind_of}
use Rattle.jd_jml_tokens.specs.Lexemes.{lexemes_of, kinds_of}
use Rattle.jd_jml_places.specs.Places.{PlacesAreApart}
use Rattle.jd_jml_places.specs.Unplaced.{unplaced_token, unplaced_lexeme, unplaced_clause, Alike}
use Rattle.jd_jml_trees.specs.Meaning.{clauses_of_tree}
use Rattle.jd_jml_proper.specs.Proper.{FaultlessIsProper}
use Rattle.jd_jml_texts.specs.Kept.{texts_of_tree, all_texts, TextsAreKept}
use Rattle.jd_jmlparse.specs.Places.{name_of}
use Rattle.jd_jmlparse.specs.Parses.{Derives, Reads}

at_place : (place : SpecPlace) → is_place (name_of place) ≡ true
at_place Field = refl
at_place Method = refl
at_place Modifier = refl
at_place Loop = refl
at_place ClassEnd = refl

pub texts_read : TextsAreKept → FaultlessIsProper → (place : SpecPlace) (ts : List lexed.Token) (cs : List PlainClause) → Reads place ts cs
    → (tree : Forest) × Derives place ts tree × (texts_of_tree tree (lexemes_of ts) ≡ all_texts cs)
texts_read kept proper place ts cs h =
    let d = h.spelled.derived in (
      h.tree,
      d,
      kept h.tree (name_of place) (lexemes_of ts) (at_place place) d.tree (proper h.tree (name_of place) (lexemes_of ts) d.tree h.spelled.faultless) ∙ ap all_texts h.is,
    )

alike : (ts us : List lexed.Token) → map unplaced_token ts ≡ map unplaced_token us → Alike (lexemes_of ts) (lexemes_of us)
alike ts us e = same ts ∙ ap (λ xs. map (λ x. record { kind = kind_of x.kind; token = x }) xs) e ∙ sym (same us)
  where
    same : (xs : List lexed.Token) → map unplaced_lexeme (lexemes_of xs) ≡ map (λ x. record { kind = kind_of x.kind; token = x }) (map unplaced_token xs)
    same [] = refl
    same (x ∷ xs) = ap (λ l. record { kind = kind_of x.kind; token = unplaced_token x } ∷ l) (same xs)

kinds_alike : (ts us : List lexed.Token) → map unplaced_token ts ≡ map unplaced_token us → kinds_of (lexemes_of ts) ≡ kinds_of (lexemes_of us)
kinds_alike ts us e = same ts ∙ ap (λ xs. map (λ (x : lexed.Token). kind_of x.kind) xs) e ∙ sym (same us)
  where
    same : (xs : List lexed.Token) → kinds_of (lexemes_of xs) ≡ map (λ (x : lexed.Token). kind_of x.kind) (map unplaced_token xs)
    same [] = refl
    same (x ∷ xs) = ap (λ l. kind_of x.kind ∷ l) (same xs)

pub read_elsewhere : PlacesAreApart → (place : SpecPlace) (ts us : List lexed.Token) (cs : List PlainClause) → map unplaced_token ts ≡ map unplaced_token us → Reads place ts cs
    → (ds : List PlainClause) × Reads place us ds × (map unplaced_clause cs ≡ map unplaced_clause ds)
read_elsewhere apart place ts us cs e h =
    let a = alike ts us e in (
      clauses_of_tree h.tree (lexemes_of us),
      record {
        tree = h.tree;
        spelled = record {
          derived = record { tree = h.spelled.derived.tree; tokens = h.spelled.derived.tokens ∙ kinds_alike ts us e };
          faultless = apart.faultless h.tree (lexemes_of ts) (lexemes_of us) a h.spelled.faultless;
        };
        within = apart.within h.tree (lexemes_of ts) (lexemes_of us) a h.within;
        is = refl;
      },
      ap (map unplaced_clause) (sym h.is) ∙ apart.clauses h.tree (lexemes_of ts) (lexemes_of us) a,
    )

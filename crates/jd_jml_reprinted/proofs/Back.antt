-- What tokens spell is read from what is printed.
use Rattle.std.proofs.Common.{◌≡◌, ℕ, true, false, List, [], ◌∷◌, ◌++◌, map, length, inl, inr, refl, sym, ap, subst, ◌∙◌, arith, length-append}
use Rattle.std.proofs.lemmas.List.{append-nil}
use Rattle.jd_lex.specs.Lexing.{Spells}
use Rattle.jd_lex.specs.Parts as lexed
use Rattle.jd_grammar.specs.Grammars.{yield}
use Rattle.jd_grammar.specs.declared.table.Symbol.TheVariants.{Name}
use Rattle.jd_syntax.specs.SpecTrees.{PlainClause}
use Rattle.jd_syntax.specs.declared.spec.SpecPlace.{SpecPlace}
use Rattle.jd_syntax.specs.declared.spec.SpecPlace.TheVariants.{Field, Method, Modifier, Loop, ClassEnd}
use Rattle.jd_jml_grammar.specs.Jml.{is_place}
use Rattle.jd_jml_tokens.specs.Lexemes.{PlainLexeme, lexemes_of, kinds_of}
use Rattle.jd_jml_trees.specs.Meaning.{clauses_of_tree}
use Rattle.jd_jml_places.specs.Unplaced.{unplaced_clause}
use Rattle.jd_jml_print.specs.Texts.{printed}
use Rattle.jd_jml_proper.specs.Proper.{FaultlessIsProper}
use Rattle.jd_jml_texts.specs.Kept.{TextsAreKept}
use Rattle.jd_jml_spelled.specs.Clauses.{kind_of, AreTokens, all_texts, pieces, ClausesAreSpelled}
use Rattle.jd_jml_spelled.specs.Comments.{tokens_at}
use Rattle.jd_jml_trimmed.specs.Trimmed.{AreWithout, Trimmed, DerivationsAreTrimmed}
use Rattle.jd_jml_trimmed.proofs.Shapes.{shape_of}
use Rattle.jd_jml_leaves.specs.Leaves.{leaf_texts, LeavesTellAll}
use Rattle.jd_jmlparse.specs.Places.{name_of}
use Rattle.jd_jmlparse.specs.Parses.{Reads}
use Rattle.jd_jml_reprinted.specs.Reprinted.{AreWhole, AreAmong}
use Rattle.jd_jml_reprinted.proofs.Whole.{spelled_whole, whole_among}
use Rattle.jd_jml_reprinted.proofs.Leaves.{HaveKinds, AreRight, said, length_map, TreeSays, says}

at_place : (place : SpecPlace) → is_place (name_of place) ≡ true
at_place Field = refl
at_place Method = refl
at_place Modifier = refl
at_place Loop = refl
at_place ClassEnd = refl

-- ---- tokens

right_tokens : (us : List lexed.Token) → AreWhole us → AreRight (lexemes_of us)
right_tokens [] h = tt
right_tokens (u ∷ us) h = ((refl, h.0), right_tokens us h.1)

right_without : (us ts : List PlainLexeme) → AreWithout us ts → AreRight ts → AreRight us
right_without us [] e h = subst AreRight (sym e) tt
right_without us (t ∷ ts) (inl (l, w)) h = right_without us ts w h.1
right_without us (t ∷ ts) (inr (vs, e, w)) h = subst AreRight (sym e) (h.0, right_without vs ts w h.1)

have_tokens : (vs : List lexed.Token) → HaveKinds (lexemes_of vs)
have_tokens [] = tt
have_tokens (v ∷ vs) = (refl, have_tokens vs)

said_tokens : (vs : List lexed.Token) → said (lexemes_of vs) ≡ map (λ t. t.kind) vs
said_tokens [] = refl
said_tokens (v ∷ vs) = ap (λ ks. v.kind ∷ ks) (said_tokens vs)

no_more : (xs ls : List ℕ) → length (xs ++ ls) ≡ length xs → ls ≡ []
no_more xs [] e = refl
no_more xs (l ∷ ls) e = let k = length-append xs (l ∷ ls) in let none : ⊥ = omega (arith, e, k) in absurd none

-- ---- the derivation that is printed

-- its texts are those of the clauses
record IsPrinted (place : SpecPlace) (us : List lexed.Token) (cs : List PlainClause) (h : Reads place us cs) : Type 0 where
  to : Trimmed h.tree (name_of place) (lexemes_of us)
  texts : all_texts cs ≡ leaf_texts false to.forest to.tokens
  says : TreeSays false to.forest to.tokens

is_printed : DerivationsAreTrimmed → LeavesTellAll → TextsAreKept → FaultlessIsProper
    → (place : SpecPlace) (us : List lexed.Token) (cs : List PlainClause) → AreWhole us → (h : Reads place us cs)
    → IsPrinted place us cs h
is_printed trim leaves kept proper place us cs w h =
    let d = h.spelled.derived in
    let t = trim h.tree (name_of place) (lexemes_of us) (at_place place) d.tree d.tokens in
    let good = proper t.forest (name_of place) t.tokens t.tree (t.fault ∙ h.spelled.faultless) in
    let texts = kept t.forest (name_of place) t.tokens (at_place place) t.tree good in
    let right = right_without t.tokens (lexemes_of us) t.without (right_tokens us w) in
    record {
      to = t;
      texts = ap all_texts (sym h.is ∙ sym t.clauses) ∙ (sym texts ∙ leaves.texts t.forest (name_of place) t.tokens t.tree t.trimmed);
      says = says false t.forest (Name (name_of place) ∷ []) t.tokens [] (shape_of t.forest (Name (name_of place) ∷ []) [] t.tree) t.trimmed refl right (sym t.spelled ∙ sym (append-nil (yield t.forest)));
    }

pub texts_are_tokens : DerivationsAreTrimmed → LeavesTellAll → TextsAreKept → FaultlessIsProper
    → (place : SpecPlace) (us : List lexed.Token) (cs : List PlainClause) → AreWhole us → Reads place us cs
    → AreTokens (all_texts cs)
texts_are_tokens trim leaves kept proper place us cs w h =
    let k = is_printed trim leaves kept proper place us cs w h in
    subst AreTokens (sym k.texts) k.says.tokens

pub read_back : DerivationsAreTrimmed → LeavesTellAll → TextsAreKept → FaultlessIsProper
    → (place : SpecPlace) (us vs : List lexed.Token) (cs : List PlainClause) → AreWhole us → Reads place us cs
    → map (λ t. t.kind) vs ≡ map kind_of (all_texts cs)
    → (ds : List PlainClause) × Reads place vs ds × (map unplaced_clause cs ≡ map unplaced_clause ds)
read_back trim leaves kept proper place us vs cs w h e =
    let k = is_printed trim leaves kept proper place us cs w h in
    let t = k.to in
    let g = t.forest in
    let xs = leaf_texts false g t.tokens in
    let kinds : said (lexemes_of vs) ≡ map kind_of xs ++ [] = said_tokens vs ∙ (e ∙ (ap (map kind_of) k.texts ∙ sym (append-nil (map kind_of xs)))) in
    let ((ls, is), same) = k.says.again (lexemes_of vs) [] (have_tokens vs) kinds in
    let count : length (kinds_of (lexemes_of vs)) ≡ length (yield g) =
    length_map (λ l. l.kind) (lexemes_of vs)
    ∙ (sym (length_map (λ (l : PlainLexeme). l.token.kind) (lexemes_of vs)) ∙ (ap length kinds ∙ (ap length (append-nil (map kind_of xs)) ∙ (length_map kind_of xs ∙ k.says.long)))) in
    let none : ls ≡ [] = no_more (yield g) ls (sym (ap length is) ∙ count) in
    let tokens : yield g ≡ kinds_of (lexemes_of vs) = sym (append-nil (yield g)) ∙ (ap (λ l. yield g ++ l) (sym none) ∙ sym is) in
    let long : length t.tokens ≡ length (lexemes_of vs) =
    sym (length_map (λ l. l.kind) t.tokens) ∙ (ap length (sym t.spelled ∙ tokens) ∙ length_map (λ l. l.kind) (lexemes_of vs)) in (
      clauses_of_tree g (lexemes_of vs),
      record {
        tree = g;
        spelled = record {
          derived = record { tree = t.tree; tokens = tokens };
          faultless = leaves.faultless g (name_of place) t.tokens (lexemes_of vs) t.tree long same (t.fault ∙ h.spelled.faultless);
        };
        within = leaves.within g (name_of place) t.tokens (lexemes_of vs) t.tree long same (t.high ∙ h.within);
        is = refl;
      },
      ap (map unplaced_clause) (sym h.is ∙ sym t.clauses) ∙ leaves.clauses g (name_of place) t.tokens (lexemes_of vs) t.tree long same,
    )

pub printed_back : DerivationsAreTrimmed → LeavesTellAll → TextsAreKept → FaultlessIsProper → ClausesAreSpelled
    → (bytes : List ℕ) (tokens us : List lexed.Token) (place : SpecPlace)
    (cs : List PlainClause) → Spells bytes tokens → AreAmong us tokens → Reads place us cs
    → (vs : List lexed.Token) × (ds : List PlainClause) × Spells (printed cs) vs × Reads place vs ds × (map unplaced_clause cs ≡ map unplaced_clause ds)
printed_back trim leaves kept proper spelled bytes tokens us place cs text among h =
    let w = whole_among us tokens among (spelled_whole bytes tokens text) in
    let texts = texts_are_tokens trim leaves kept proper place us cs w h in
    let (ds, reads, same) = read_back trim leaves kept proper place us (tokens_at 3 (pieces cs)) cs w h (spelled.kinds cs) in
    (tokens_at 3 (pieces cs), ds, spelled.spelled cs texts, reads, same)

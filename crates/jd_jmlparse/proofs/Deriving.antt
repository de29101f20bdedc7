-- Derivations of tokens.
use Rattle.std.proofs.Common.{◌≡◌, ◌≤◌, ℕ, zero, suc, min, List, [], ◌∷◌, ◌++◌, take, drop, length, map, true, refl, sym, ap, subst, ◌∙◌, arith}
use Rattle.std.specs.List.{slice_get}
use Rattle.std.specs.Option.{option_map_or}
use Rattle.std.proofs.lemmas.List.{length-map, take-append-drop}
use Rattle.jd_lex.specs.Parts as lexed
use Rattle.jd_grammar.specs.Folds.{AritiesFit}
use Rattle.jd_grammar.specs.Grammars.{Forest, IsForest, yield, preorder}
use Rattle.jd_grammar.specs.Grammars.{Spells as SpellsOrder}
use Rattle.jd_grammar.specs.Nodes.{IsRead, IsReadAs, Rooted}
use Rattle.jd_grammar.specs.Readings.{StopsAt}
use Rattle.jd_grammar.specs.declared.table.Symbol.TheVariants.{Name}
use Rattle.jd_syntax.specs.declared.spec.SpecPlace.{SpecPlace}
use Rattle.jd_syntax.specs.declared.spec.SpecPlace.TheVariants.{Field, Method, Modifier, Loop, ClassEnd}
use Rattle.jd_jml_attributes.specs.Judging.{names_of}
use Rattle.jd_jml_grammar.specs.Jml.{is_place}
use Rattle.jd_jml_grammar.specs.Productions.{jml_productions}
use Rattle.jd_jml_tokens.specs.Lexemes.{PlainLexeme, kinds_of, lexeme_view, lexemes_of}
use Rattle.jd_jml_tokens.specs.declared.lexeme.Lexeme.{Lexeme}
use Rattle.jd_jmlparse.specs.Parses.{Derives, IsNoSpec, Shows, end_of, place_of_token, stops}
use Rattle.jd_jmlparse.specs.Places.{name_of}

-- tokens have one derivation at most
abbrev pub OneDerivation : Type 0
OneDerivation = (place : ℕ) (f h : Forest) → is_place place ≡ true → IsForest jml_productions f (Name place ∷ []) [] → IsForest jml_productions h (Name place ∷ []) [] → yield f ≡ yield h → f ≡ h

is_start : (place : SpecPlace) → is_place (name_of place) ≡ true
is_start Field = refl
is_start Method = refl
is_start Modifier = refl
is_start Loop = refl
is_start ClassEnd = refl

pub one_tree : OneDerivation → (place : SpecPlace) (ts : List lexed.Token) (f h : Forest) → Derives place ts f → Derives place ts h → f ≡ h
one_tree law place ts f h d e = law (name_of place) f h (is_start place) d.tree e.tree (d.tokens ∙ sym e.tokens)

abbrev Ordered : SpecPlace → List PlainLexeme → List ℕ → Type 0
Ordered place ls order = SpellsOrder jml_productions (name_of place) (kinds_of ls) order

abbrev pub rooted : SpecPlace → Forest → Rooted
rooted place f = record { productions = jml_productions; name = name_of place; forest = f }

pub derives : (place : SpecPlace) (ts : List lexed.Token) (ls : List PlainLexeme) (order : List ℕ) (s : Ordered place ls order) → ls ≡ lexemes_of ts → Derives place ts s.0
derives place ts ls order s same = record { tree = s.1; tokens = s.2 ∙ ap kinds_of same }

pub read_as : AritiesFit jml_productions names_of → (place : SpecPlace) (lexemes : List Lexeme) (order : List ℕ) (s : Ordered place (map lexeme_view lexemes) order) → IsReadAs (rooted place s.0) names_of order (length lexemes)
read_as fits place lexemes order s = record {
  fits = fits;
  tree = s.1;
  order_is = s.3;
  tokens = ap length s.2 ∙ (length-map (map lexeme_view lexemes) (λ l. l.kind) ∙ length-map lexemes lexeme_view);
}

pub is_read : AritiesFit jml_productions names_of → (place : SpecPlace) (lexemes : List Lexeme) (order : List ℕ) → Ordered place (map lexeme_view lexemes) order → IsRead names_of order (length lexemes)
is_read fits place lexemes order s = record { tree = rooted place s.0; read = read_as fits place lexemes order s }

least : (at end : ℕ) → min at end ≤ end
least at end = omega arith

at-drop : {A : Type 0} (n : ℕ) (xs : List A) → slice_get (drop n xs) 0 ≡ slice_get xs n
at-drop zero xs = refl
at-drop (suc n) [] = refl
at-drop (suc n) (x ∷ xs) = at-drop n xs

within : (ts : List lexed.Token) (n : ℕ) → place_of_token ts n ≤ end_of ts
within ts n = least (option_map_or (λ t. t.begins) (slice_get ts n) (end_of ts)) (end_of ts)

-- where the parser stops, there is no JML of the place
pub stopped : (place : SpecPlace) (ts : List lexed.Token) (n : ℕ) → StopsAt jml_productions (name_of place) (kinds_of (lexemes_of ts)) n → IsNoSpec place ts
stopped place ts n stop = record {
  by_none = λ tree s.
      let ks = kinds_of (lexemes_of ts) in
      let whole : yield tree ≡ take n ks ++ drop n ks = s.derived.tokens ∙ sym (take-append-drop n ks) in
      stop.ends (drop n ks) (preorder tree) (at-drop n ks) (tree, s.derived.tree, whole, refl);
}

pub stops_there : (place : SpecPlace) (ts : List lexed.Token) (ls : List PlainLexeme) (n at : ℕ) → ls ≡ lexemes_of ts → StopsAt jml_productions (name_of place) (kinds_of ls) n → at ≡ place_of_token ts n → IsNoSpec place ts × at ≤ end_of ts × Shows place ts at
stops_there place ts ls n at same stop is =
    let there = subst (λ l. StopsAt jml_productions (name_of place) (kinds_of l) n) same stop in (
      stopped place ts n there,
      subst (λ m. m ≤ end_of ts) (sym is) (within ts n),
      subst (Shows place ts) (sym is) (stops n there),
    )

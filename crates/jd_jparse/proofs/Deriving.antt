-- Derivations of tokens.
use Rattle.std.proofs.Common.{◌≡◌, ◌≤◌, ℕ, zero, suc, min, List, [], ◌∷◌, ◌++◌, take, drop, length, map, Option, Some, None, refl, sym, ap, subst, ◌∙◌, arith}
use Rattle.std.specs.List.{slice_get}
use Rattle.std.specs.Option.{option_map_or}
use Rattle.std.proofs.lemmas.List.{length-map, take-append-drop}
use Rattle.jd_lex.specs.Parts as lexed
use Rattle.jd_grammar.specs.Folds.{AritiesFit}
use Rattle.jd_grammar.specs.Grammars.{Forest, IsForest, Production, yield, preorder}
use Rattle.jd_grammar.specs.Grammars.{Spells as SpellsOrder}
use Rattle.jd_grammar.specs.Nodes.{IsRead, IsReadAs, Rooted}
use Rattle.jd_grammar.specs.Readings.{StopsAt}
use Rattle.jd_grammar.specs.declared.table.Symbol.TheVariants.{Name}
use Rattle.jd_java_attributes.specs.Judging.{names_of}
use Rattle.jd_java_grammar.specs.Productions.{java_productions}
use Rattle.jd_java_grammar.specs.declared.names.TheConstants.{COMPILATION_UNIT}
use Rattle.jd_java_tokens.specs.Contents.{PlainLexeme}
use Rattle.jd_java_tokens.specs.Lexemes.{lexeme_view}
use Rattle.jd_java_tokens.specs.declared.lexeme.Lexeme.{Lexeme}
use Rattle.jd_jparse.specs.Parses.{Derives, IsNoFile, Shows, Spells, end_of, first_unsupported, kinds, place_of_token, seen, stops}

-- tokens have one derivation at most
abbrev pub OneDerivation : Type 0
OneDerivation = (f h : Forest) → IsForest java_productions f (Name COMPILATION_UNIT ∷ []) [] → IsForest java_productions h (Name COMPILATION_UNIT ∷ []) [] → yield f ≡ yield h → f ≡ h

pub one_file : OneDerivation → (ts : List lexed.Token) (f h : Forest) → Derives ts f → Derives ts h → f ≡ h
one_file law ts f h d e = law f h d.tree e.tree (d.tokens ∙ sym e.tokens)

abbrev Ordered : List PlainLexeme → List ℕ → Type 0
Ordered ls order = SpellsOrder java_productions COMPILATION_UNIT (kinds ls) order

abbrev pub rooted : Forest → Rooted
rooted f = record { productions = java_productions; name = COMPILATION_UNIT; forest = f }

pub derives : (ts : List lexed.Token) (ls : List PlainLexeme) (order : List ℕ) (s : Ordered ls order) → ls ≡ seen ts → Derives ts s.0
derives ts ls order s same = record { tree = s.1; tokens = s.2 ∙ ap kinds same }

pub read_as : AritiesFit java_productions names_of → (lexemes : List Lexeme) (order : List ℕ) (s : Ordered (map lexeme_view lexemes) order) → IsReadAs (rooted s.0) names_of order (length lexemes)
read_as fits lexemes order s = record {
  fits = fits;
  tree = s.1;
  order_is = s.3;
  tokens = ap length s.2 ∙ (length-map (map lexeme_view lexemes) (λ l. l.kind) ∙ length-map lexemes lexeme_view);
}

pub is_read : AritiesFit java_productions names_of → (lexemes : List Lexeme) (order : List ℕ) → Ordered (map lexeme_view lexemes) order → IsRead names_of order (length lexemes)
is_read fits lexemes order s = record { tree = rooted s.0; read = read_as fits lexemes order s }

least : (at end : ℕ) → min at end ≤ end
least at end = omega arith

at-drop : {A : Type 0} (n : ℕ) (xs : List A) → slice_get (drop n xs) 0 ≡ slice_get xs n
at-drop zero xs = refl
at-drop (suc n) [] = refl
at-drop (suc n) (x ∷ xs) = at-drop n xs

within : (ts : List lexed.Token) (n : ℕ) → place_of_token ts n ≤ end_of ts
within ts n = least (option_map_or (λ l. l.at) (slice_get (seen ts) n) (end_of ts)) (end_of ts)

-- where the parser stops, there is no file
pub stopped : (ts : List lexed.Token) (n : ℕ) → first_unsupported ts ≡ None → StopsAt java_productions COMPILATION_UNIT (kinds (seen ts)) n → IsNoFile ts
stopped ts n none stop = record {
  supported = none;
  by_none = λ file s.
      let ks = kinds (seen ts) in
      let whole : yield file ≡ take n ks ++ drop n ks = s.derived.tokens ∙ sym (take-append-drop n ks) in
      stop.ends (drop n ks) (preorder file) (at-drop n ks) (file, s.derived.tree, whole, refl);
}

pub stops_there : (ts : List lexed.Token) (ls : List PlainLexeme) (n at : ℕ) → first_unsupported ts ≡ None → ls ≡ seen ts → StopsAt java_productions COMPILATION_UNIT (kinds ls) n → at ≡ place_of_token ts n → IsNoFile ts × at ≤ end_of ts × Shows ts at
stops_there ts ls n at none same stop place =
    let there = subst (λ l. StopsAt java_productions COMPILATION_UNIT (kinds l) n) same stop in (
      stopped ts n none there,
      subst (λ m. m ≤ end_of ts) (sym place) (within ts n),
      subst (Shows ts) (sym place) (stops n there),
    )

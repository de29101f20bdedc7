-- Pairs that are read one by one.
use Rattle.std.proofs.Common.{◌≡◌, ℕ, ◌+◌, ◌<◌, List, [], ◌∷◌, ◌++◌, length, map, get_or, Vec, Global, Option, Some, None, option_map, refl, sym, ap, ◌∙◌, append_assoc, arith}
use Rattle.std.proofs.lemmas.List.{map-append}
use Rattle.jd_base.specs.declared.sort.Sort.{Sort}
use Rattle.jd_syntax.specs.declared.sx.Sx.{Sx}
use Rattle.jd_syntax.specs.Names.{Name}
use Rattle.jd_syntax.specs.Sxs.{bracketed_list, sx_view}
use Rattle.jd_term.specs.Terms.{PlainTerm}
use Rattle.jd_term.specs.declared.formula.Elementary.{Elementary}
use Rattle.jd_term.specs.Formulas.{Pairs, pair_view}
use Rattle.jd_tgrammar.specs.NameTables.{NameTable}
use Rattle.jd_tforms.specs.Reading.{Read, both, read, reads, all_pairs, pairs_of}
use Rattle.jd_tcode.proofs.Growing.{rest, rest_more}

-- what is read so far, and what the rest is
abbrev pub pairs_from : NameTable → List Sort → List Sx → ℕ → Pairs → Option Pairs
pairs_from names ctx xs i ds = option_map (λ (ps : Pairs). ds ++ ps) (all_pairs names ctx (rest names xs i))

pairs_step : (names : NameTable) (ctx : List Sort) (xs : List Sx) (i : ℕ) (ds : Pairs) (x : Sx) (p : Name × PlainTerm) → i < length xs → x ≡ get_or xs i x → Some p ≡ (read names (sx_view x)).pair ctx →
    pairs_from names ctx xs i ds ≡ pairs_from names ctx xs (i + 1) (ds ++ p ∷ [])
pairs_step names ctx xs i ds x p lt is some =
    ap (λ (rs : List Read). option_map (λ (ps : Pairs). ds ++ ps) (all_pairs names ctx rs)) (rest_more names xs i x lt is)
    ∙ (ap (λ (o : Option (Name × PlainTerm)). option_map (λ (ps : Pairs). ds ++ ps) (both (λ (q : Name × PlainTerm) (ps : Pairs). q ∷ ps) o (all_pairs names ctx (rest names xs (i + 1))))) (sym some)
    ∙ by (all_pairs names ctx (rest names xs (i + 1))))
  where
    by : (o : Option Pairs) → option_map (λ (ps : Pairs). ds ++ ps) (option_map (λ (ps : Pairs). p ∷ ps) o) ≡ option_map (λ (ps : Pairs). (ds ++ p ∷ []) ++ ps) o
    by None = refl
    by (Some ps) = ap Some (sym (append_assoc ds (p ∷ []) ps))

-- there is one at least
pub some_pairs : (names : NameTable) (ctx : List Sort) (xs : List Sx) (o : Option (Vec Elementary Global)) (v : Vec Elementary Global) → 0 < length xs →
    option_map (λ (u : Vec Elementary Global). map pair_view u.items) o ≡ all_pairs names ctx (reads names (bracketed_list (map sx_view xs))) → o ≡ Some v →
    Some (map pair_view v.items) ≡ pairs_of names ctx (reads names (bracketed_list (map sx_view xs)))
some_pairs names ctx [] o v lt told is = absurd (omega (arith, lt))
some_pairs names ctx (x ∷ xs) o v lt told is = sym (ap (option_map (λ (u : Vec Elementary Global). map pair_view u.items)) is) ∙ told

-- one more is read
pub pairs_grow : (names : NameTable) (ctx : List Sort) (xs : List Sx) (i : ℕ) (ds es : List Elementary) (x : Sx) (o : Option Elementary) (e : Elementary) →
    all_pairs names ctx (reads names (bracketed_list (map sx_view xs))) ≡ pairs_from names ctx xs i (map pair_view ds) → i < length xs → x ≡ get_or xs i x →
    option_map pair_view o ≡ (read names (sx_view x)).pair ctx → o ≡ Some e → es ≡ ds ++ e ∷ [] →
    all_pairs names ctx (reads names (bracketed_list (map sx_view xs))) ≡ pairs_from names ctx xs (i + 1) (map pair_view es)
pairs_grow names ctx xs i ds es x o e left lt is told some items =
    left
    ∙ (pairs_step names ctx xs i (map pair_view ds) x (pair_view e) lt is (sym (ap (option_map pair_view) some) ∙ told)
    ∙ ap (pairs_from names ctx xs (i + 1)) (sym (map-append pair_view ds (e ∷ [])) ∙ sym (ap (map pair_view) items)))

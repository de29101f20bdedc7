-- The text of clauses is a comment that is written token by token.
use Rattle.std.proofs.Common.{◌≡◌, ℕ, ◌+◌, List, [], ◌∷◌, ◌++◌, map, true, false, length, refl, sym, ap, subst, ◌∙◌, append_assoc}
use Rattle.std.specs.List.{flat_map}
use Rattle.std.proofs.lemmas.List.{map-append}
use Rattle.jd_lex.specs.Lexing.{Spells}
use Rattle.jd_syntax.specs.SpecTrees as jml
use Rattle.jd_syntax.specs.SpecTrees.{PlainClause}
use Rattle.jd_jml_print.specs.Texts.{Texts, clause_texts, spaced, printed}
use Rattle.jd_jml_spelled.specs.Comments.{Piece, gap, inside, comment, behind_gap, tokens_at, AreTokenTexts}
use Rattle.jd_jml_spelled.specs.Clauses.{kind_of, AreTokens, all_texts, line, pieces}
use Rattle.jd_jml_spelled.proofs.Spelling.{comment_spelled}

abbrev later : List ℕ → Piece
later u = record { first = false; kind = kind_of u; text = u }

-- ---- what is inside

later_inside : (ts : Texts) (ps : List Piece) → inside (map later ts ++ ps) ≡ spaced ts ++ inside ps
later_inside [] ps = refl
later_inside (t ∷ ts) ps = ap (λ v. 32 ∷ (t ++ v)) (later_inside ts ps) ∙ ap (λ v. 32 ∷ v) (sym (append_assoc t (spaced ts) (inside ps)))

-- each clause has a first token
some_texts : (c : PlainClause) → (t : List ℕ) × (ts : Texts) × (clause_texts c ≡ t ∷ ts)
some_texts (jml.Requires at e) = (_, _, refl)
some_texts (jml.Ensures at e) = (_, _, refl)
some_texts (jml.Signals at c x e) = (_, _, refl)
some_texts (jml.SignalsOnly at cs) = (_, _, refl)
some_texts (jml.Assignable at ls) = (_, _, refl)
some_texts (jml.MeasuredBy at e) = (_, _, refl)
some_texts (jml.Diverges at b) = (_, _, refl)
some_texts (jml.LoopInvariant at e) = (_, _, refl)
some_texts (jml.Decreases at e) = (_, _, refl)
some_texts (jml.Invariant at e) = (_, _, refl)
some_texts (jml.NormalBehavior at) = (_, _, refl)
some_texts (jml.ExceptionalBehavior at) = (_, _, refl)
some_texts (jml.Behavior at) = (_, _, refl)
some_texts (jml.Also at) = (_, _, refl)
some_texts (jml.Pure at) = (_, _, refl)
some_texts (jml.Helper at) = (_, _, refl)
some_texts (jml.Nullable at) = (_, _, refl)
some_texts (jml.NonNull at) = (_, _, refl)
some_texts (jml.SpecPublic at) = (_, _, refl)
some_texts (jml.SpecProtected at) = (_, _, refl)

line_inside : (ts : Texts) (t : List ℕ) (us : Texts) (ps : List Piece) → ts ≡ t ∷ us → inside (line ts ++ ps) ≡ (10 ∷ spaced ts) ++ inside ps
line_inside ts t us ps e = subst (λ vs. inside (line vs ++ ps) ≡ (10 ∷ spaced vs) ++ inside ps) (sym e) (ap (λ v. 10 ∷ v) (later_inside (t ∷ us) ps))

abbrev lines : List PlainClause → List ℕ
lines cs = flat_map (λ c. 10 ∷ spaced (clause_texts c)) cs

pieces_inside : (cs : List PlainClause) → inside (pieces cs) ≡ lines cs ++ gap true
pieces_inside [] = refl
pieces_inside (c ∷ cs) =
    let (t, ts, e) = some_texts c in
    line_inside (clause_texts c) t ts (pieces cs) e
    ∙ ap (λ v. (10 ∷ spaced (clause_texts c)) ++ v) (pieces_inside cs)
    ∙ sym (append_assoc (10 ∷ spaced (clause_texts c)) (lines cs) (gap true))

printed_is : (cs : List PlainClause) → comment (pieces cs) ≡ printed cs
printed_is cs = ap (λ v. 47 ∷ 42 ∷ 64 ∷ v) (ap (λ v. v ++ 64 ∷ 42 ∷ 47 ∷ []) (pieces_inside cs) ∙ append_assoc (lines cs) (gap true) (64 ∷ 42 ∷ 47 ∷ []))

-- ---- texts of tokens

tokens_split : (ts us : Texts) → AreTokens (ts ++ us) → AreTokens ts × AreTokens us
tokens_split [] us h = (tt, h)
tokens_split (t ∷ ts) us h = let k = tokens_split ts us h.1 in ((h.0, k.0), k.1)

later_texts : (ts : Texts) (ps : List Piece) → AreTokens ts → AreTokenTexts ps → AreTokenTexts (map later ts ++ ps)
later_texts [] ps h k = k
later_texts (t ∷ ts) ps h k = (h.0, later_texts ts ps h.1 k)

line_texts : (ts : Texts) (ps : List Piece) → AreTokens ts → AreTokenTexts ps → AreTokenTexts (line ts ++ ps)
line_texts [] ps h k = k
line_texts (t ∷ ts) ps h k = (h.0, later_texts ts ps h.1 k)

pieces_texts : (cs : List PlainClause) → AreTokens (all_texts cs) → AreTokenTexts (pieces cs)
pieces_texts [] h = tt
pieces_texts (c ∷ cs) h = let k = tokens_split (clause_texts c) (all_texts cs) h in line_texts (clause_texts c) (pieces cs) k.0 (pieces_texts cs k.1)

pub printed_spelled : (cs : List PlainClause) → AreTokens (all_texts cs) → Spells (printed cs) (tokens_at 3 (pieces cs))
printed_spelled cs h = subst (λ bytes. Spells bytes (tokens_at 3 (pieces cs))) (printed_is cs) (comment_spelled (pieces cs) (pieces_texts cs h))

-- ---- kinds

tokens_kinds : (ps : List Piece) (from : ℕ) → map (λ t. t.kind) (tokens_at from ps) ≡ map (λ p. p.kind) ps
tokens_kinds [] from = refl
tokens_kinds (p ∷ ps) from = ap (λ ks. p.kind ∷ ks) (tokens_kinds ps (behind_gap from p + length p.text))

later_kinds : (ts : Texts) → map (λ p. p.kind) (map later ts) ≡ map kind_of ts
later_kinds [] = refl
later_kinds (t ∷ ts) = ap (λ ks. kind_of t ∷ ks) (later_kinds ts)

line_kinds : (ts : Texts) → map (λ p. p.kind) (line ts) ≡ map kind_of ts
line_kinds [] = refl
line_kinds (t ∷ ts) = ap (λ ks. kind_of t ∷ ks) (later_kinds ts)

pieces_kinds : (cs : List PlainClause) → map (λ p. p.kind) (pieces cs) ≡ map kind_of (all_texts cs)
pieces_kinds [] = refl
pieces_kinds (c ∷ cs) =
    map-append (λ (p : Piece). p.kind) (line (clause_texts c)) (pieces cs)
    ∙ ap (λ ks. ks ++ map (λ p. p.kind) (pieces cs)) (line_kinds (clause_texts c))
    ∙ ap (λ ks. map kind_of (clause_texts c) ++ ks) (pieces_kinds cs)
    ∙ sym (map-append kind_of (clause_texts c) (all_texts cs))

pub printed_kinds : (cs : List PlainClause) → map (λ t. t.kind) (tokens_at 3 (pieces cs)) ≡ map kind_of (all_texts cs)
printed_kinds cs = tokens_kinds (pieces cs) 3 ∙ pieces_kinds cs

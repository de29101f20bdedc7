-- A text has no more tokens than bytes, and the grammar sees no more.
use Rattle.std.proofs.Common.{ℕ, suc, ◌+◌, ◌≤◌, List, [], ◌∷◌, length, Bool, true, false, cond, arith}
use Rattle.jd_lex.specs.Parts.{Token}
use Rattle.jd_lex.specs.Places.{AreSlices, InOrder}
use Rattle.jd_java_tokens.specs.Contents.{PlainLexeme}
use Rattle.jd_java_tokens.specs.Lexemes.{lexemes_behind}

few : (bytes : List ℕ) (from : ℕ) (ts : List Token) → from ≤ length bytes → AreSlices bytes ts → InOrder from ts → length ts + from ≤ length bytes
few bytes from [] within slices order = omega (arith, within)
few bytes from (t ∷ ts) within slices order =
    omega (arith, few bytes t.ends ts slices.0.within slices.1 order.2, order.0, order.1)

pub few_tokens : (bytes : List ℕ) (ts : List Token) → AreSlices bytes ts → InOrder 0 ts → length ts ≤ length bytes
few_tokens bytes ts slices order = omega (arith, few bytes 0 ts (omega arith) slices order)

one_more : (j i : Bool) (n : ℕ) (inside outside : List PlainLexeme) (run token : PlainLexeme) → length inside ≤ n → length outside ≤ n → length (cond j (cond i inside (run ∷ inside)) (token ∷ outside)) ≤ suc n
one_more true true n inside outside run token le other = omega (arith, le)
one_more true false n inside outside run token le other = omega (arith, le)
one_more false i n inside outside run token le other = omega (arith, other)

pub few_lexemes : (in_jml : Bool) (number : ℕ) (ts : List Token) → length (lexemes_behind in_jml number ts) ≤ length ts
few_lexemes in_jml number [] = omega arith
few_lexemes in_jml number (t ∷ ts) =
    one_more t.jml in_jml (length ts) (lexemes_behind true (number + 1) ts) (lexemes_behind false (number + 1) ts) _ _ (few_lexemes true (number + 1) ts) (few_lexemes false (number + 1) ts)

-- A run of JML tokens is one terminal.
use Rattle.std.proofs.Common.{◌≡◌, ℕ, ◌+◌, List, [], ◌∷◌, Bool, true, false, drop, refl, sym, ap, arith, ◌∙◌, suc, ◌<◌, ◌≤◌, ◌-◌, length, take, slice_index_or, drop-cons, length-drop}
use Rattle.std.proofs.lemmas.List.{take_all, drop-map, drop-drop}
use Rattle.jd_lex.specs.Parts as lexed
use Rattle.jd_lex.specs.View.{token_view, tokens_view}
use Rattle.jd_lex.specs.declared.token.Token.{Token}
use Rattle.jd_java_tokens.specs.Lexemes.{jml_length, run_lexeme, plain_lexeme, lexemes_behind, lexemes_of}

-- inside a run the tokens up to its end give nothing
pub behind_run : (n : ℕ) (ts : List lexed.Token) → lexemes_behind true n ts ≡ lexemes_of (n + jml_length ts) (drop (jml_length ts) ts)
behind_run n [] = refl
behind_run n (t ∷ ts) = by (behind_run (n + 1) ts) t.jml refl where
  by : lexemes_behind true (n + 1) ts ≡ lexemes_of (n + 1 + jml_length ts) (drop (jml_length ts) ts) → (b : Bool) → t.jml ≡ b → lexemes_behind true n (t ∷ ts) ≡ lexemes_of (n + jml_length (t ∷ ts)) (drop (jml_length (t ∷ ts)) (t ∷ ts))
  by rest true e =
      let one : 1 + jml_length ts ≡ suc (jml_length ts) = omega arith in
      let sum : n + 1 + jml_length ts ≡ n + suc (jml_length ts) = omega arith in
      rw (e, one) (rest ∙ ap (λ k. lexemes_of k (drop (jml_length ts) ts)) sum)
  by rest false e =
      let sum : n ≡ n + 0 = omega arith in
      rw e (ap (λ k. plain_lexeme t ∷ lexemes_behind false (k + 1) ts) sum)

-- a run begins
pub first_run : (n : ℕ) (t : lexed.Token) (ts : List lexed.Token) → t.jml ≡ true → lexemes_of n (t ∷ ts) ≡ run_lexeme n (n + jml_length (t ∷ ts)) t.begins ∷ lexemes_of (n + jml_length (t ∷ ts)) (drop (jml_length (t ∷ ts)) (t ∷ ts))
first_run n t ts e =
    let one : 1 + jml_length ts ≡ suc (jml_length ts) = omega arith in
    let sum : n + 1 + jml_length ts ≡ n + suc (jml_length ts) = omega arith in
    rw (e, one) (ap (λ rest. run_lexeme n (n + suc (jml_length ts)) t.begins ∷ rest) (behind_run (n + 1) ts ∙ ap (λ k. lexemes_of k (drop (jml_length ts) ts)) sum))

run_of : (n : ℕ) (xs : List lexed.Token) (t : lexed.Token) (ts : List lexed.Token) → xs ≡ t ∷ ts → t.jml ≡ true → lexemes_of n xs ≡ run_lexeme n (n + jml_length xs) t.begins ∷ lexemes_of (n + jml_length xs) (drop (jml_length xs) xs)
run_of n xs t ts shown jml = rw shown (first_run n t ts jml)

rest_taken : (n : ℕ) (tokens : List Token) → n ≤ length tokens → take (length tokens - n) (drop n tokens) ≡ drop n tokens
rest_taken n tokens le = take_all (length tokens - n) (drop n tokens) (rw (length-drop n tokens) (omega arith))

-- a run begins at the token of that number, and has k tokens
pub run_at : (tokens : List Token) (d : Token) (n k : ℕ) → n < length tokens → d ≡ slice_index_or tokens n d → d.jml ≡ true → k ≡ jml_length (tokens_view (take (length tokens - n) (drop n tokens))) → lexemes_of n (tokens_view (drop n tokens)) ≡ run_lexeme n (n + k) d.from ∷ lexemes_of (n + k) (tokens_view (drop (n + k) tokens))
run_at tokens d n k lt is jml counted =
    let xs : List lexed.Token = tokens_view (drop n tokens) in
    let count : k ≡ jml_length xs = counted ∙ ap (λ ts. jml_length (tokens_view ts)) (rest_taken n tokens (omega arith)) in
    let shown : xs ≡ token_view d ∷ tokens_view (drop (suc n) tokens) = ap tokens_view (drop-cons tokens n d lt ∙ ap (λ x. x ∷ drop (suc n) tokens) (sym is)) in
    let rest : drop k xs ≡ tokens_view (drop (n + k) tokens) = drop-map token_view k (drop n tokens) ∙ ap tokens_view (drop-drop k n tokens) in
    let run : lexemes_of n xs ≡ run_lexeme n (n + k) d.from ∷ lexemes_of (n + k) (drop k xs) = rw count (run_of n xs (token_view d) (tokens_view (drop (suc n) tokens)) shown jml) in
    run ∙ ap (λ ys. run_lexeme n (n + k) d.from ∷ lexemes_of (n + k) ys) rest

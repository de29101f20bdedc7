-- Each kind that is kept has one spelling, but for names and numbers.
use Rattle.std.proofs.Common.{◌≡◌, ℕ, pos, negsuc, Bool, true, false, cond, true≢false, nat_lt, nat_le, nat_eq, List, [], ◌∷◌, drop, Option, Some, None, bytes_eq, if◌then◌else◌, unwrap_or, refl, sym, ap, ◌∙◌, arith}
use Rattle.std.specs.Fmt.{decimal}
use Rattle.std.proofs.lemmas.Bool.Decides.{nat_tests}
use Rattle.std.proofs.lemmas.Slice.Eq.{bytes_eq-Decides}
use Rattle.jd_lex.specs.Parts as lexed
use Rattle.jd_java_grammar.specs.declared.kinds.TheConstants as kinds
use Rattle.jd_java_tokens.specs.Contents.{PlainContent, WordContent, NumberContent, NoContent, PlainLexeme}
use Rattle.jd_java_tokens.specs.Words.{Table, spelled, reserved_words, used_signs, kind_of, content_of}
use Rattle.jd_java_tokens.specs.Lexemes.{plain_lexeme}
use Rattle.jd_java_texts.specs.Kept.{token_text}
use Rattle.jd_java_texts.specs.Tokens.{lexeme_texts}
use Rattle.jd_java_texts.specs.Spelled.{spelling, is_kept}

-- ---- words and signs

-- the texts of the rows' kinds are their spellings
abbrev Rows : Table → Type 0
Rows [] = Unit {0}
Rows (row ∷ rows) = ((ts : List PlainLexeme) → is_kept row.1 ≡ true → token_text row.1 ts ≡ row.0 ∷ []) × Rows rows

word_from_44 : Rows (drop 44 reserved_words)
word_from_44 = (
  λ ts e. absurd (true≢false (sym e)),
  (
    λ ts e. absurd (true≢false (sym e)),
    (
      λ ts e. absurd (true≢false (sym e)),
      (
        λ ts e. absurd (true≢false (sym e)),
        (
          λ ts e. absurd (true≢false (sym e)),
          (
            λ ts e. absurd (true≢false (sym e)),
            (
              λ ts e. absurd (true≢false (sym e)),
              (
                λ ts e. absurd (true≢false (sym e)),
                (
                  λ ts e. absurd (true≢false (sym e)),
                  tt,
                ),
              ),
            ),
          ),
        ),
      ),
    ),
  ),
)

word_from_33 : Rows (drop 33 reserved_words)
word_from_33 = (
  λ ts e. absurd (true≢false (sym e)),
  (
    λ ts e. absurd (true≢false (sym e)),
    (
      λ ts e. absurd (true≢false (sym e)),
      (
        λ ts e. absurd (true≢false (sym e)),
        (
          λ ts e. absurd (true≢false (sym e)),
          (
            λ ts e. absurd (true≢false (sym e)),
            (
              λ ts e. absurd (true≢false (sym e)),
              (
                λ ts e. absurd (true≢false (sym e)),
                (
                  λ ts e. absurd (true≢false (sym e)),
                  (
                    λ ts e. absurd (true≢false (sym e)),
                    (
                      λ ts e. absurd (true≢false (sym e)),
                      word_from_44,
                    ),
                  ),
                ),
              ),
            ),
          ),
        ),
      ),
    ),
  ),
)

word_from_22 : Rows (drop 22 reserved_words)
word_from_22 = (
  λ ts e. refl,
  (
    λ ts e. refl,
    (
      λ ts e. refl,
      (
        λ ts e. refl,
        (
          λ ts e. absurd (true≢false (sym e)),
          (
            λ ts e. absurd (true≢false (sym e)),
            (
              λ ts e. absurd (true≢false (sym e)),
              (
                λ ts e. absurd (true≢false (sym e)),
                (
                  λ ts e. absurd (true≢false (sym e)),
                  (
                    λ ts e. absurd (true≢false (sym e)),
                    (
                      λ ts e. absurd (true≢false (sym e)),
                      word_from_33,
                    ),
                  ),
                ),
              ),
            ),
          ),
        ),
      ),
    ),
  ),
)

word_from_11 : Rows (drop 11 reserved_words)
word_from_11 = (
  λ ts e. refl,
  (
    λ ts e. refl,
    (
      λ ts e. refl,
      (
        λ ts e. refl,
        (
          λ ts e. refl,
          (
            λ ts e. refl,
            (
              λ ts e. refl,
              (
                λ ts e. refl,
                (
                  λ ts e. refl,
                  (
                    λ ts e. refl,
                    (
                      λ ts e. refl,
                      word_from_22,
                    ),
                  ),
                ),
              ),
            ),
          ),
        ),
      ),
    ),
  ),
)

word_rows : Rows reserved_words
word_rows = (
  λ ts e. refl,
  (
    λ ts e. refl,
    (
      λ ts e. refl,
      (
        λ ts e. refl,
        (
          λ ts e. refl,
          (
            λ ts e. refl,
            (
              λ ts e. refl,
              (
                λ ts e. refl,
                (
                  λ ts e. refl,
                  (
                    λ ts e. refl,
                    (
                      λ ts e. refl,
                      word_from_11,
                    ),
                  ),
                ),
              ),
            ),
          ),
        ),
      ),
    ),
  ),
)

sign_from_33 : Rows (drop 33 used_signs)
sign_from_33 = (
  λ ts e. refl,
  tt,
)

sign_from_22 : Rows (drop 22 used_signs)
sign_from_22 = (
  λ ts e. refl,
  (
    λ ts e. refl,
    (
      λ ts e. refl,
      (
        λ ts e. refl,
        (
          λ ts e. refl,
          (
            λ ts e. refl,
            (
              λ ts e. refl,
              (
                λ ts e. refl,
                (
                  λ ts e. refl,
                  (
                    λ ts e. refl,
                    (
                      λ ts e. refl,
                      sign_from_33,
                    ),
                  ),
                ),
              ),
            ),
          ),
        ),
      ),
    ),
  ),
)

sign_from_11 : Rows (drop 11 used_signs)
sign_from_11 = (
  λ ts e. refl,
  (
    λ ts e. refl,
    (
      λ ts e. refl,
      (
        λ ts e. refl,
        (
          λ ts e. refl,
          (
            λ ts e. refl,
            (
              λ ts e. refl,
              (
                λ ts e. refl,
                (
                  λ ts e. refl,
                  (
                    λ ts e. refl,
                    (
                      λ ts e. refl,
                      sign_from_22,
                    ),
                  ),
                ),
              ),
            ),
          ),
        ),
      ),
    ),
  ),
)

sign_rows : Rows used_signs
sign_rows = (
  λ ts e. refl,
  (
    λ ts e. refl,
    (
      λ ts e. refl,
      (
        λ ts e. refl,
        (
          λ ts e. refl,
          (
            λ ts e. refl,
            (
              λ ts e. refl,
              (
                λ ts e. refl,
                (
                  λ ts e. refl,
                  (
                    λ ts e. absurd (true≢false (sym e)),
                    (
                      λ ts e. refl,
                      sign_from_11,
                    ),
                  ),
                ),
              ),
            ),
          ),
        ),
      ),
    ),
  ),
)

same_some : (m n : ℕ) → Some m ≡ Some n → m ≡ n
same_some m n e = cc

no_row : (n : ℕ) → None ≡ Some n → ⊥
no_row n e = cc

of_row : (rows : Table) (text : List ℕ) (kind : ℕ) (ts : List PlainLexeme) → Rows rows → spelled rows text ≡ Some kind → is_kept kind ≡ true → token_text kind ts ≡ text ∷ []
of_row [] text kind ts h e kept = absurd (no_row kind e)
of_row (row ∷ rows) text kind ts h e kept = by (bytes_eq row.0 text) refl e (λ k. of_row rows text kind ts h.1 k kept)
  where
    by : (b : Bool) → bytes_eq row.0 text ≡ b → (if b then Some row.1 else spelled rows text) ≡ Some kind → (spelled rows text ≡ Some kind → token_text kind ts ≡ text ∷ []) → token_text kind ts ≡ text ∷ []
    by true is k others =
        let same = same_some row.1 kind k in
        sym (ap (λ j. token_text j ts) same) ∙ h.0 ts (ap is_kept same ∙ kept) ∙ ap (λ w. w ∷ []) ((bytes_eq-Decides row.0 text).0 is)
    by false is k others = others k

abbrev seen_as : ℕ → ℕ → PlainContent → List PlainLexeme
seen_as kind at content = record { kind = kind; at = at; content = content } ∷ []

word_text : (text : List ℕ) (at : ℕ) (o : Option ℕ) → spelled reserved_words text ≡ o → is_kept (unwrap_or o kinds.IDENTIFIER) ≡ true
    → token_text (unwrap_or o kinds.IDENTIFIER) (seen_as (unwrap_or o kinds.IDENTIFIER) at (WordContent text)) ≡ text ∷ []
word_text text at None e kept = refl
word_text text at (Some kind) e kept = of_row reserved_words text kind (seen_as kind at (WordContent text)) word_rows e kept

sign_text : (text : List ℕ) (at : ℕ) (o : Option ℕ) → spelled used_signs text ≡ o → is_kept (unwrap_or o kinds.UNUSED) ≡ true
    → token_text (unwrap_or o kinds.UNUSED) (seen_as (unwrap_or o kinds.UNUSED) at NoContent) ≡ text ∷ []
sign_text text at None e kept = absurd (true≢false (sym kept))
sign_text text at (Some kind) e kept = of_row used_signs text kind (seen_as kind at NoContent) sign_rows e kept

-- ---- numbers

number_text : (n at : ℕ) (small least fits : Bool) → nat_lt n 2147483648 ≡ small → nat_eq n 2147483648 ≡ least → nat_le n 2147483648 ≡ fits
    → is_kept (cond small kinds.NUMBER (cond least kinds.LEAST_NUMBER kinds.UNUSED)) ≡ true
    → token_text (cond small kinds.NUMBER (cond least kinds.LEAST_NUMBER kinds.UNUSED)) (seen_as (cond small kinds.NUMBER (cond least kinds.LEAST_NUMBER kinds.UNUSED)) at (NumberContent (cond fits n 0))) ≡ decimal n ∷ []
number_text n at true least true s l f kept = refl
number_text n at true least false s l f kept = let no_more : ⊥ = grind (arith, nat_tests, s, f) in absurd no_more
number_text n at false true true s l f kept = refl
number_text n at false true false s l f kept = let no_more : ⊥ = grind (arith, nat_tests, l, f) in absurd no_more
number_text n at false false fits s l f kept = absurd (true≢false (sym kept))

-- ---- all

by_kind : (kind : lexed.Kind) (at : ℕ) → is_kept (kind_of kind) ≡ true → token_text (kind_of kind) (seen_as (kind_of kind) at (content_of kind)) ≡ spelling kind ∷ []
by_kind (lexed.Word text) at kept = word_text text at (spelled reserved_words text) refl kept
by_kind (lexed.Sign text) at kept = sign_text text at (spelled used_signs text) refl kept
by_kind (lexed.Number (pos n)) at kept = number_text n at (nat_lt n 2147483648) (nat_eq n 2147483648) (nat_le n 2147483648) refl refl refl kept
by_kind (lexed.Number (negsuc n)) at kept = absurd (true≢false (sym kept))

pub text_spelled : (t : lexed.Token) → is_kept (kind_of t.kind) ≡ true → lexeme_texts (plain_lexeme t) ≡ spelling t.kind ∷ []
text_spelled t kept = by_kind t.kind t.begins kept

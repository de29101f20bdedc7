-- What the code finds at the head of a text.
use Rattle.std.proofs.Common.{◌≡◌, ℕ, suc, ◌+◌, ◌<◌, ◌≤◌, List, [], ◌∷◌, length, take, drop, get_or, Bool, true, false, refl, sym, ap, ◌∙◌, arith}
use Rattle.jd_bracketed.specs.Bytes.{class_in}
use Rattle.jd_bracketed.specs.Tokens.{TokenKind, Word, kind_alone, word_more, tokens_behind, tokens_from}
use Rattle.jd_bracketed.specs.declared.class.Class.{Class}
use Rattle.jd_bracketed.specs.declared.class.Class.TheVariants.{Blank, InComment, Alone, Part}
use Rattle.jd_bracketed.proofs.Passing.{passes, turned}

next_at : (c : Bool) (at : ℕ) (bytes : List ℕ) → tokens_from c (suc at) bytes ≡ tokens_from c (at + 1) bytes
next_at c at bytes = ap (λ n. tokens_from c n bytes) (omega arith)

pub blank_head : (c : Bool) (bytes : List ℕ) (k : Class) → 0 < length bytes → k ≡ class_in c (get_or bytes 0 0) → k ≡ Blank
    → (at : ℕ) → tokens_from c at bytes ≡ tokens_from false (at + 1) (drop 1 bytes)
blank_head c [] k some is e at = absurd (omega arith)
blank_head c (b ∷ bytes) k some is e at = turned c at b bytes Blank (sym is ∙ e) ∙ next_at false at bytes

pub comment_head : (c : Bool) (bytes : List ℕ) (k : Class) → 0 < length bytes → k ≡ class_in c (get_or bytes 0 0) → k ≡ InComment
    → (at : ℕ) → tokens_from c at bytes ≡ tokens_from true (at + 1) (drop 1 bytes)
comment_head c [] k some is e at = absurd (omega arith)
comment_head c (b ∷ bytes) k some is e at = turned c at b bytes InComment (sym is ∙ e) ∙ next_at true at bytes

pub alone_head : (c : Bool) (bytes : List ℕ) (k : Class) (kind : TokenKind) → 0 < length bytes → k ≡ class_in c (get_or bytes 0 0) → k ≡ Alone
    → kind ≡ kind_alone (get_or bytes 0 0) → (at : ℕ) → tokens_from c at bytes ≡ (kind, at) ∷ tokens_from c (at + 1) (drop 1 bytes)
alone_head c [] k kind some is e kind_is at = absurd (omega arith)
alone_head c (b ∷ bytes) k kind some is e kind_is at =
    turned c at b bytes Alone (sym is ∙ e) ∙ (ap (λ t. (t, at) ∷ tokens_from c (suc at) bytes) (sym kind_is) ∙ ap (λ ts. (kind, at) ∷ ts) (next_at c at bytes))

pub word_head : (c : Bool) (bytes : List ℕ) (k : Class) (n : ℕ) (word : List ℕ) → 0 < length bytes → k ≡ class_in c (get_or bytes 0 0) → k ≡ Part
    → n ≡ suc (word_more bytes) → word ≡ take n bytes → (at : ℕ) → tokens_from c at bytes ≡ (Word word, at) ∷ tokens_from c (at + n) (drop n bytes)
word_head c [] k n word some is e long word_is at = absurd (omega arith)
word_head c (b ∷ bytes) k n word some is e long word_is at =
    let m = word_more (b ∷ bytes) in
    turned c at b bytes Part (sym is ∙ e)
    ∙ (ap (λ ts. (Word (b ∷ take m bytes), at) ∷ ts) (passes m c (suc at) bytes)
    ∙ (ap (λ j. (Word (b ∷ take m bytes), at) ∷ tokens_from c j (drop m bytes)) (omega arith)
    ∙ (ap (λ j. (Word (take j (b ∷ bytes)), at) ∷ tokens_from c (at + j) (drop j (b ∷ bytes))) (sym long)
    ∙ ap (λ w. (Word w, at) ∷ tokens_from c (at + n) (drop n (b ∷ bytes))) (sym word_is))))

pub none_left : (c : Bool) (at : ℕ) (bytes : List ℕ) → length bytes ≤ 0 → tokens_from c at bytes ≡ []
unfolding tokens_behind
none_left c at [] none = refl
none_left c at (b ∷ bytes) none = absurd (omega arith)

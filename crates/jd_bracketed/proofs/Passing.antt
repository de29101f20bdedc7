-- What the tokens of a text are, byte by byte.
use Rattle.std.proofs.Common.{◌≡◌, ℕ, zero, suc, ◌+◌, List, [], ◌∷◌, ◌++◌, drop, Bool, refl, ap, ◌∙◌, arith}
use Rattle.jd_bracketed.specs.Bytes.{class_in}
use Rattle.jd_bracketed.specs.Tokens.{turn, tokens_behind, tokens_from}
use Rattle.jd_bracketed.specs.declared.class.Class.{Class}

-- the bytes of the token before are passed
pub passes : (more : ℕ) (in_comment : Bool) (at : ℕ) (bytes : List ℕ) → tokens_behind more in_comment at bytes ≡ tokens_from in_comment (at + more) (drop more bytes)
unfolding tokens_behind
passes zero c at bytes = ap (λ n. tokens_from c n bytes) (omega arith)
passes (suc more) c at [] = refl
passes (suc more) c at (b ∷ bytes) = passes more c (suc at) bytes ∙ ap (λ n. tokens_from c n (drop more bytes)) (omega arith)

-- the token at the head, by the class of its first byte
pub turned : (in_comment : Bool) (at b : ℕ) (bytes : List ℕ) (class : Class) → class_in in_comment b ≡ class
    → tokens_from in_comment at (b ∷ bytes)
    ≡ (turn in_comment at b bytes class).0 ++ tokens_behind (turn in_comment at b bytes class).1 (turn in_comment at b bytes class).2 (suc at) bytes
unfolding tokens_behind
turned c at b bytes class e = ap (λ k. (turn c at b bytes k).0 ++ tokens_behind (turn c at b bytes k).1 (turn c at b bytes k).2 (suc at) bytes) e

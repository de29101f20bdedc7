-- What is written token by token is the text of the tokens.
use Rattle.std.proofs.Common.{◌≡◌, ℕ, List, [], ◌∷◌, ◌++◌, Result, refl, sym, ap, subst, ◌∙◌, append_assoc}
use Rattle.std.proofs.lemmas.List.{append-nil}
use Rattle.std.specs.Prelude.{OnOk}
use Rattle.jd_bracketed.specs.Tokens.{TokenKind, Word}
use Rattle.jd_written.specs.Written.{token_text, opens, gap, text_from, Text, write, write_all, tight_behind}

pub written_all : (text : Text) (ts : List TokenKind) → write_all text ts ≡ (text.0 ++ text_from text.1 ts, tight_behind text.1 ts)
written_all text [] = ap (λ bytes. let t : Text = (bytes, text.1) in t) (sym (append-nil text.0))
written_all text (t ∷ ts) =
    let front = gap text.1 t in
    let behind = text_from (opens t) ts in
    written_all (write text t) ts
    ∙ ap (λ bytes. let u : Text = (bytes, tight_behind (opens t) ts) in u)
    (append_assoc text.0 (front ++ token_text t) behind ∙ ap (λ bytes. text.0 ++ bytes) (append_assoc front (token_text t) behind))

pub write_all-append : (text : Text) (ts us : List TokenKind) → write_all text (ts ++ us) ≡ write_all (write_all text ts) us
write_all-append text [] us = refl
write_all-append text (t ∷ ts) us = write_all-append (write text t) ts us

-- a word that was written by an equal one
pub word_as : {E : Type 0} (r : Result (Unit {0}) E) (old new : Text) (w word : List ℕ) → w ≡ word → OnOk r (new ≡ write old (Word w)) → OnOk r (new ≡ write old (Word word))
word_as r old new w word e h = subst (λ u. OnOk r (new ≡ write old (Word u))) e h

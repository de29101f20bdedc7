-- What is written for a bracketed expression are its tokens.
use Rattle.std.proofs.Common.{◌≡◌, [], ◌∷◌, refl, sym, ap, ◌∙◌}
use Rattle.jd_syntax.specs.Sxs.{Bracketed, BracketedList, Atom, Brackets, NoneBracketed, BracketedThen}
use Rattle.jd_bracketed.specs.Tokens.{Close, Open}
use Rattle.jd_bracketed.specs.Trees.{spell, spell_all}
use Rattle.jd_written.specs.Written.{Text, empty_text, text_of, write, write_all}
use Rattle.jd_written.proofs.Writing.{write_all-append, written_all}
use Rattle.jd_print.specs.Writing.{write_many, write_one}

mutual
  one_written : (x : Bracketed) (text : Text) → write_one text x ≡ write_all text (spell x)
  one_written (Atom w) text = refl
  one_written (Brackets xs) text = ap (λ (t : Text). write t Close) (many_written xs (write text Open)) ∙ sym (write_all-append (write text Open) (spell_all xs) (Close ∷ []))

  many_written : (xs : BracketedList) (text : Text) → write_many text xs ≡ write_all text (spell_all xs)
  many_written NoneBracketed text = refl
  many_written (BracketedThen x xs) text =
      many_written xs (write_one text x)
      ∙ (ap (λ (t : Text). write_all t (spell_all xs)) (one_written x text) ∙ sym (write_all-append text (spell x) (spell_all xs)))

pub printed : (x : Bracketed) → (write_one empty_text x).0 ≡ text_of (spell x)
printed x = ap (λ (text : Text). text.0) (one_written x empty_text ∙ written_all empty_text (spell x))

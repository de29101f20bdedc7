-- What is written for the parts of a step is spelled so.
use Rattle.std.proofs.Common.{◌≡◌, List, [], ◌∷◌, ◌++◌, Option, map, refl, sym, ap, ◌∙◌}
use Rattle.jd_syntax.specs.Sxs.{Bracketed, Atom, Brackets, BracketedList, NoneBracketed, BracketedThen}
use Rattle.jd_bracketed.specs.Tokens.{Open, Close, OpenSquare, CloseSquare, Word}
use Rattle.jd_bracketed.specs.Trees.{spell, spell_all}
use Rattle.jd_model.specs.Sequents.{PlainPlace}
use Rattle.jd_sequent.specs.Trees.{PlainStep}
use Rattle.jd_written.specs.Written.{Text, write, write_all}
use Rattle.jd_written.proofs.Writing.{write_all-append}
use Rattle.jd_scripts.specs.Scripts.{Inst, spell_place, spell_insts, spell_step}
use Rattle.jd_script_print.specs.Writing.{put_all, put_insts, put_places, put_step, put_sx}

mutual
  pub sx_written : (text : Text) (x : Bracketed) → put_sx text x ≡ write_all text (spell x)
  sx_written text (Atom w) = refl
  sx_written text (Brackets xs) =
      ap (λ t. write t Close) (all_written (write text Open) xs) ∙ sym (write_all-append (write text Open) (spell_all xs) (Close ∷ []))

  all_written : (text : Text) (xs : BracketedList) → put_all text xs ≡ write_all text (spell_all xs)
  all_written text NoneBracketed = refl
  all_written text (BracketedThen x xs) =
      all_written (put_sx text x) xs
      ∙ ap (λ (t : Text). write_all t (spell_all xs)) (sx_written text x)
      ∙ sym (write_all-append text (spell x) (spell_all xs))

pub places_written : (text : Text) (ps : List (Option PlainPlace)) → put_places text ps ≡ write_all text (map spell_place ps)
places_written text [] = refl
places_written text (p ∷ ps) = places_written (write text (spell_place p)) ps

pub insts_written : (text : Text) (is : List Inst) → put_insts text is ≡ write_all text (spell_insts is)
insts_written text [] = refl
insts_written text (i ∷ is) =
    let t : Text = write (write text Open) (Word i.0) in
    insts_written (write (put_sx t i.1) Close) is
    ∙ ap (λ (u : Text). write_all (write u Close) (spell_insts is)) (sx_written t i.1)
    ∙ sym (write_all-append t (spell i.1) (Close ∷ spell_insts is))

pub step_written : (text : Text) (p : PlainStep) → put_step text p ≡ write_all text (spell_step p)
step_written text p =
    let t : Text = write (write (write (write text Open) (Word p.rule)) (spell_place p.place)) OpenSquare in
    let behind = CloseSquare ∷ OpenSquare ∷ (spell_insts p.insts ++ CloseSquare ∷ []) in
    let u : Text = write (write (write_all t (map spell_place p.assumes)) CloseSquare) OpenSquare in
    ap (λ (v : Text). write (put_insts (write (write v CloseSquare) OpenSquare) p.insts) CloseSquare) (places_written t p.assumes)
    ∙ ap (λ (v : Text). write v CloseSquare) (insts_written u p.insts)
    ∙ sym (write_all-append u (spell_insts p.insts) (CloseSquare ∷ []))
    ∙ sym (write_all-append t (map spell_place p.assumes) behind)

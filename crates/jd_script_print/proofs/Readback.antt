-- What is printed is read as what was printed, and what was read is printed with the tokens that were read.
use Rattle.std.proofs.Common.{◌≡◌, ℕ, true, List, sym, ap, subst, ◌∙◌}
use Rattle.jd_bracketed.specs.Tokens.{kinds, tokens_of}
use Rattle.jd_written.specs.Written.{AllWritable}
use Rattle.jd_written.proofs.Reading.{tokens_read}
use Rattle.jd_written.proofs.ReadWords.{AllProper, read_proper_writable}
use Rattle.jd_scripts.specs.Scripts.{PlainProof, Limits, spell_file}
use Rattle.jd_scripts.specs.Answers.{Answer, IsAnswer, Proofs, limits_of}
use Rattle.jd_scripts.proofs.Once as once
use Rattle.jd_script_print.specs.Laws.{AreSpelled, PrintedIsRead, file_of, script_text}
use Rattle.jd_script_print.proofs.ProperTokens.{proper_file}

read : (limits : Limits) (ps : List PlainProof) → AreSpelled limits ps → IsAnswer limits (tokens_of (script_text ps)) (Proofs ps)
read limits ps are = record { spelled = tokens_read true 0 (spell_file (file_of ps)) are.words; fits = are.fits }

-- what was read as a file has words where the form wants words
spelled : (limits : Limits) (bytes : List ℕ) (ps : List PlainProof) → IsAnswer limits (tokens_of bytes) (Proofs ps) → AreSpelled limits ps
spelled limits bytes ps is = record {
  fits = is.fits;
  words = subst AllWritable is.spelled (read_proper_writable bytes (subst AllProper (sym is.spelled) (proper_file (file_of ps))));
}

same_tokens : (limits : Limits) (bytes : List ℕ) (ps : List PlainProof) → IsAnswer limits (tokens_of bytes) (Proofs ps) → kinds (tokens_of (script_text ps)) ≡ kinds (tokens_of bytes)
same_tokens limits bytes ps is = (read limits ps (spelled limits bytes ps is)).spelled ∙ sym is.spelled

abbrev proofs_in : List PlainProof → Answer → List PlainProof
proofs_in ps (Proofs qs) = qs
proofs_in ps a = ps

pub printed_is_read : PrintedIsRead
printed_is_read = record {
  read = read;
  tokens = λ limits placed ps is. is.spelled;
  spelled = λ steps levels. spelled (limits_of steps levels);
  same_tokens = λ steps levels. same_tokens (limits_of steps levels);
  one_text = λ steps levels ps qs are also e.
      ap (proofs_in ps) (once.one_answer.one steps levels (script_text ps) (Proofs ps) (Proofs qs) (read (limits_of steps levels) ps are)
      (subst (λ bytes. IsAnswer (limits_of steps levels) (tokens_of bytes) (Proofs qs)) (sym e) (read (limits_of steps levels) qs also)));
}

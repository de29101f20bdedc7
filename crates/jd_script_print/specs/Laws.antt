-- What is printed is read as what was printed, and what was read is printed with the tokens that were read.
use Rattle.std.specs.Prelude.{◌≡◌, ℕ, List}
use Rattle.jd_bracketed.specs.Tokens.{Placed, kinds, tokens_of}
use Rattle.jd_written.specs.Written.{AllWritable, text_of}
use Rattle.jd_scripts.specs.Scripts.{PlainProof, ScriptFile, Limits, FileFits, spell_file}
use Rattle.jd_scripts.specs.Answers.{IsAnswer, Proofs, limits_of}

-- the file of the form's only version with these proofs
abbrev pub file_of : List PlainProof → ScriptFile
file_of proofs = record { version = 1; proofs = proofs }

-- the text of proofs, one space between two tokens
abbrev pub script_text : List PlainProof → List ℕ
script_text proofs = text_of (spell_file (file_of proofs))

-- proofs that the form has, within the limits
pub record AreSpelled (limits : Limits) (proofs : List PlainProof) : Type 0 where
  pub fits : FileFits limits (file_of proofs)
  pub words : AllWritable (spell_file (file_of proofs))

pub record PrintedIsRead : Type 0 where
  -- the text of proofs is read as these proofs
  pub read : (limits : Limits) (proofs : List PlainProof) → AreSpelled limits proofs → IsAnswer limits (tokens_of (script_text proofs)) (Proofs proofs)
  -- proofs that were read have the tokens that were read
  pub tokens : (limits : Limits) (placed : List Placed) (proofs : List PlainProof) → IsAnswer limits placed (Proofs proofs) → kinds placed ≡ spell_file (file_of proofs)
  -- what was read can be printed: its tokens are brackets and words
  pub spelled : (steps levels : ℕ) (bytes : List ℕ) (proofs : List PlainProof) → IsAnswer (limits_of steps levels) (tokens_of bytes) (Proofs proofs) → AreSpelled (limits_of steps levels) proofs
  -- the printed text has the tokens that were read: it is the same text, up to white space and comments
  pub same_tokens : (steps levels : ℕ) (bytes : List ℕ) (proofs : List PlainProof) → IsAnswer (limits_of steps levels) (tokens_of bytes) (Proofs proofs) → kinds (tokens_of (script_text proofs)) ≡ kinds (tokens_of bytes)
  -- no two have one text
  pub one_text : (steps levels : ℕ) (ps qs : List PlainProof) → AreSpelled (limits_of steps levels) ps → AreSpelled (limits_of steps levels) qs → script_text ps ≡ script_text qs → ps ≡ qs

-- What is written for a bracketed expression, part after part.
use Rattle.std.specs.Prelude.{ℕ, List, [], None}
use Rattle.jd_syntax.specs.Sxs.{Bracketed, BracketedList, Atom, Brackets, NoneBracketed, BracketedThen}
use Rattle.jd_bracketed.specs.Tokens.{Open, Close, Word}
use Rattle.jd_written.specs.Written.{Text, write}
use Rattle.jd_tgrammar.specs.NameTables.{NameTable}

-- an opening bracket and a word
abbrev pub begin : Text → List ℕ → Text
begin text w = write (write text Open) (Word w)

abbrev mutual
  pub write_one : Text → Bracketed → Text
  write_one text (Atom w) = write text (Word w)
  write_one text (Brackets xs) = write (write_many (write text Open) xs) Close

  pub write_many : Text → BracketedList → Text
  write_many text NoneBracketed = text
  write_many text (BracketedThen x xs) = write_many (write_one text x) xs

-- the word that stands first in brackets
abbrev pub first_word : Bracketed → List ℕ
first_word (Brackets (BracketedThen (Atom w) xs)) = w
first_word _ = []

-- the word of a form hangs on no names
abbrev pub no_names : NameTable
no_names = record { classes = []; fields = []; routines = []; seen = λ c name. None; variables = [] }

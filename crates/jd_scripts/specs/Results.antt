-- What reading answers.
use Rattle.std.specs.Prelude.{ℕ, List, [], ◌∷◌, Result, Ok, Err}
use Rattle.jd_bracketed.specs.Tokens.{TokenKind, Open, Close, OpenSquare, CloseSquare, Word, Bad, Placed}
use Rattle.jd_scripts.specs.Scripts.{Limits}
use Rattle.jd_scripts.specs.Answers.{Version, Names, Steps, Levels, Answer, Proofs, OtherVersion, Syntax, DuplicateProof, Truncated, TooManySteps, TooDeep}
use Rattle.jd_scripts.specs.Machine.{State, FileNext, WordNext, VersionNext, ProofNext, ProofWord, NameNext, InProof, FileEnd, Fault, WrongToken, Over, step}

abbrev pub word_of : TokenKind → List ℕ
word_of (Word w) = w
word_of Open = []
word_of Close = []
word_of OpenSquare = []
word_of CloseSquare = []
word_of Bad = []

-- at the token that is at fault
abbrev pub refused : Placed → Fault → Answer
refused p WrongToken = Syntax p.1
refused p (Over Version) = OtherVersion
refused p (Over Names) = DuplicateProof (word_of p.0)
refused p (Over Steps) = TooManySteps
refused p (Over Levels) = TooDeep p.1

-- at the text's end
abbrev pub ended : State → Answer
ended FileNext = Truncated
ended WordNext = Truncated
ended VersionNext = Truncated
ended (ProofNext v done) = Truncated
ended (ProofWord v done) = Truncated
ended (NameNext v done) = Truncated
ended (InProof c q ns os k) = Truncated
ended (FileEnd v done) = Proofs done

abbrev pub answer_by : (State → Answer) → Placed → Result State Fault → Answer
answer_by f p (Ok s) = f s
answer_by f p (Err e) = refused p e

-- what the tokens that are left make of a state
unfoldable pub answer : Limits → List Placed → State → Answer
answer l [] st = ended st
answer l (p ∷ ps) st = answer_by (answer l ps) p (step l st p.0)

-- The laws of reading.
use Rattle.std.specs.Prelude.{◌≡◌, List, Ok}
use Rattle.jd_bracketed.specs.Tokens.{TokenKind}
use Rattle.jd_scripts.specs.Scripts.{ScriptFile, Limits, FileFits, IsFile, spell_file}
use Rattle.jd_scripts.specs.Machine.{FileNext, FileEnd, run}

abbrev pub EachFileIsRead : Type 0
EachFileIsRead = (limits : Limits) (f : ScriptFile) → FileFits limits f → run limits (spell_file f) FileNext ≡ Ok (FileEnd f.version f.proofs)

abbrev pub WhatIsReadIsAFile : Type 0
WhatIsReadIsAFile = (limits : Limits) (ts : List TokenKind) (f : ScriptFile) → run limits ts FileNext ≡ Ok (FileEnd f.version f.proofs) → IsFile limits ts f

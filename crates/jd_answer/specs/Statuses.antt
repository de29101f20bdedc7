-- The exit statuses.
use Rattle.std.specs.Prelude.{ℕ}
use Rattle.jd_answer.specs.declared.status.Status.{Status}
use Rattle.jd_answer.specs.declared.status.Status.TheVariants.{Done, NotAccepted, Usage, ReadFault, WriteFault, RefusedSource, RefusedScript, Limit, NoMemory}

abbrev pub status_code : Status → ℕ
status_code Done = 0
status_code NotAccepted = 1
status_code Usage = 2
status_code ReadFault = 3
status_code WriteFault = 4
status_code RefusedSource = 5
status_code RefusedScript = 6
status_code Limit = 7
status_code NoMemory = 8

-- the statuses whose report was wholly written
abbrev pub IsWritten : Status → Type 0
IsWritten Done = Unit {0}
IsWritten NotAccepted = Unit {0}
IsWritten Usage = Unit {0}
IsWritten ReadFault = ⊥
IsWritten WriteFault = ⊥
IsWritten RefusedSource = Unit {0}
IsWritten RefusedScript = Unit {0}
IsWritten Limit = Unit {0}
IsWritten NoMemory = ⊥

-- the statuses of words that name files, which were read as far as their limits
abbrev pub IsJudged : Status → Type 0
IsJudged Done = Unit {0}
IsJudged NotAccepted = Unit {0}
IsJudged Usage = ⊥
IsJudged ReadFault = ⊥
IsJudged WriteFault = ⊥
IsJudged RefusedSource = Unit {0}
IsJudged RefusedScript = Unit {0}
IsJudged Limit = Unit {0}
IsJudged NoMemory = ⊥

-- How a call may end.
use Rattle.jd_answer.specs.declared.status.Status.{Status}
use Rattle.jd_answer.specs.declared.status.Status.TheVariants.{Done, NotAccepted, Usage, ReadFault, WriteFault, RefusedSource, RefusedScript, Limit, NoMemory}

-- how a call ends whose words are no command
abbrev pub MayEndUsage : Status → Type 0
MayEndUsage Done = ⊥
MayEndUsage NotAccepted = ⊥
MayEndUsage Usage = Unit {0}
MayEndUsage ReadFault = ⊥
MayEndUsage WriteFault = Unit {0}
MayEndUsage RefusedSource = ⊥
MayEndUsage RefusedScript = ⊥
MayEndUsage Limit = ⊥
MayEndUsage NoMemory = Unit {0}

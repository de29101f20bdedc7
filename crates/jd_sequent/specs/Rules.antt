-- What the answers of a rule say.
use Rattle.std.specs.Prelude.{◌<◌, ℕ, List, All}
use Rattle.jd_model.specs.Sequents.{PlainSequent}
use Rattle.jd_sequent.specs.Trees.{PlainStep}
use Rattle.jd_sequent.specs.Limits.{IsWithinLimits}
use Rattle.jd_sequent.specs.declared.bad.Bad.{Bad}
use Rattle.jd_sequent.specs.declared.bad.Bad.TheVariants.{UnknownRule, NoFormula, NoPlace, WrongPlaceKind, NoMatch, MissingInst, BadInst, NoAssume, NotFresh, SideCondition, NoContract, NoDecreases, TooLarge, NoMemory}

-- the cause with this number holds, and none with a smaller number from 1 on
abbrev pub IsLeastCause : (ℕ → Type 0) → ℕ → Type 0
IsLeastCause cause n = cause n × ((k : ℕ) → 0 < k → k < n → cause k → ⊥)

-- the number of a refusal is that of the least cause; nothing is said where memory ran out
abbrev pub IsCaused : (ℕ → Type 0) → Bad → Type 0
IsCaused cause UnknownRule = IsLeastCause cause 1
IsCaused cause NoFormula = IsLeastCause cause 2
IsCaused cause NoPlace = IsLeastCause cause 3
IsCaused cause WrongPlaceKind = IsLeastCause cause 4
IsCaused cause NoMatch = IsLeastCause cause 5
IsCaused cause MissingInst = IsLeastCause cause 6
IsCaused cause BadInst = IsLeastCause cause 7
IsCaused cause NoAssume = IsLeastCause cause 8
IsCaused cause NotFresh = IsLeastCause cause 9
IsCaused cause SideCondition = IsLeastCause cause 10
IsCaused cause NoContract = IsLeastCause cause 11
IsCaused cause NoDecreases = IsLeastCause cause 12
IsCaused cause TooLarge = IsLeastCause cause 13
IsCaused cause NoMemory = Unit {0}

-- an instance of a rule whose premises are all within the limits
abbrev pub LeadsWithinLimits : (PlainSequent → PlainStep → List PlainSequent → Type 0) → PlainSequent → PlainStep → List PlainSequent → Type 0
LeadsWithinLimits instance s p ps = instance s p ps × All IsWithinLimits ps

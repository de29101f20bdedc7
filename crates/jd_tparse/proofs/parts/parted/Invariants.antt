use Rattle.std.proofs.Common.{◌≡◌, take, drop, []}
use Rattle.jd_tgrammar.specs.NameTables.{NameTable}
use Rattle.jd_tforms.specs.Naming as plain
use Rattle.jd_tparse.proofs.parts.parted.Given as goal

-- there is no dot so far
abbrev pub invariant-loop-at : goal.invariant-loop-at
invariant-loop-at l = (names : NameTable) → plain.parted names (take l.at l.word) (drop l.at l.word) ≡ plain.parted names [] l.word

use Rattle.std.proofs.Common.{◌≡◌, [], drop}
use Rattle.jd_scripts.specs.ReadPlaces.{numbers}
use Rattle.jd_script.proofs.place.numbers.Given as goal

-- what is left leads on to what all of the bytes give
abbrev pub invariant-loop-byte : goal.invariant-loop-byte
invariant-loop-byte l = numbers (drop l.byte-index l.bytes) l.done.items l.number ≡ numbers l.bytes [] 0

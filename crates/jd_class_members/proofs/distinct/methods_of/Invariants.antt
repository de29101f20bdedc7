use Rattle.std.proofs.Common.{◌≡◌, map, take}
use Rattle.jd_jinfos.specs.Views.{method_number}
use Rattle.jd_class_members.proofs.distinct.methods_of.Given as goal

-- those so far
abbrev pub invariant-loop-number : goal.invariant-loop-number
invariant-loop-number l = map method_number l.made.items ≡ take l.number-index l.numbers

use Rattle.std.proofs.Common.{◌≡◌, ◌++◌, ◌||◌, not, nat_eq, List, drop, filter, map}
use Rattle.jd_syntax.specs.JavaTrees.{JavaUnit}
use Rattle.jd_classes.specs.Tables.{AreTables}
use Rattle.jd_jinfos.specs.Views.{method_number}
use Rattle.jd_programs.specs.Members.{static_routine}
use Rattle.jd_class_members.proofs.along.add_members_among.Given as goal

-- those so far, and those of the methods that are left
abbrev pub invariant-loop-m : goal.invariant-loop-m
invariant-loop-m l = (units : List JavaUnit) → AreTables units l.classes
    → map method_number l.to.items ++ filter (λ k. not (static_routine units k) || nat_eq l.class l.of) (map method_number (drop l.m-index l.ms))
    ≡ map method_number l.fn.to.items ++ filter (λ k. not (static_routine units k) || nat_eq l.class l.of) (map method_number l.ms)

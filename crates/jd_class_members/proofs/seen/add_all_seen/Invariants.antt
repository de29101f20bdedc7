use Rattle.std.proofs.Common.{◌≡◌, List, drop, map}
use Rattle.jd_syntax.specs.JavaTrees.{JavaUnit}
use Rattle.jd_classes.specs.Tables.{AreTables}
use Rattle.jd_jinfos.specs.Views.{method_number}
use Rattle.jd_programs.specs.Members.{routine_name}
use Rattle.jd_class_members.specs.Distinct.{all_inserted}
use Rattle.jd_class_members.proofs.seen.add_all_seen.Given as goal

-- those so far, and those of the methods that are left
abbrev pub invariant-loop-m : goal.invariant-loop-m
invariant-loop-m g l = (units : List JavaUnit) → AreTables units l.classes
    → all_inserted (λ m. (g.D.Declares.declarations l.d).method l.class (routine_name units m)) l.found.keys (map method_number (drop l.m-index l.ms))
    ≡ all_inserted (λ m. (g.D.Declares.declarations l.d).method l.class (routine_name units m)) l.fn.found.keys (map method_number l.ms)

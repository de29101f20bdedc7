use Rattle.std.proofs.Common.{◌≡◌, List, map}
use Rattle.jd_syntax.specs.JavaTrees.{JavaUnit}
use Rattle.jd_jclasses.specs.Classes.{parents}
use Rattle.jd_jclasses.specs.Members.{declared_members}
use Rattle.jd_jclasses.specs.Refusals.{ClassesStand}
use Rattle.jd_jlists.specs.Views.{member_of_view}
use Rattle.jd_jclashes.proofs.Refusing.{NoneBefore}
use Rattle.jd_jclashes.proofs.find.clash_among.Given as goal

-- none of the reasons looked at holds in any files that declare these members
abbrev pub invariant-loop-reason : goal.invariant-loop-reason
invariant-loop-reason l = (units : List JavaUnit) → map member_of_view l.members ≡ declared_members units → l.parents ≡ parents units → ClassesStand units → NoneBefore units l.reason-index

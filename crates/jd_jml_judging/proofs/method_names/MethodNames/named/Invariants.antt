use Rattle.std.proofs.Common.{◌≡◌, ◌≤◌, length, take}
use Rattle.jd_jml_judging.proofs.Naming.{found_in}
use Rattle.jd_jml_judging.proofs.method_names.MethodNames.named.Given as goal

-- what is found is found among those that are left
abbrev pub invariant-loop-left : goal.invariant-loop-left
invariant-loop-left l = (l.left ≤ length l.self.entries.items) × (found_in l.self.entries.items l.name ≡ found_in (take l.left l.self.entries.items) l.name)

abbrev pub decreases-loop-left : goal.decreases-loop-left
decreases-loop-left l = l.left

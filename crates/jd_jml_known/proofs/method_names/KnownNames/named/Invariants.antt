use Rattle.jd_jml_known.proofs.Naming.{AreLeft}
use Rattle.jd_jml_known.proofs.method_names.KnownNames.named.Given as goal

-- what is found is found among those that are left
abbrev pub invariant-loop-left : goal.invariant-loop-left
invariant-loop-left l = AreLeft l.self.entries.items l.left l.name

abbrev pub decreases-loop-left : goal.decreases-loop-left
decreases-loop-left l = l.left

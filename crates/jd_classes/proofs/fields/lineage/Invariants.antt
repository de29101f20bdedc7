use Rattle.std.proofs.Common.{◌<◌, length, get_or}
use Rattle.jd_classes.proofs.Lineages.{Completes}
use Rattle.jd_classes.proofs.fields.lineage.Given as goal

abbrev pub invariant-loop-lowest : goal.invariant-loop-lowest
invariant-loop-lowest l = record {
  inside : l.lowest < length l.parents;
  completes : Completes l.parents l.class l.classes.items l.lowest;
}

abbrev pub decreases-loop-lowest : goal.decreases-loop-lowest
decreases-loop-lowest l = get_or l.depths l.lowest 0

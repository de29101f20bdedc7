-- The refusals of the parts, as those of the whole.
use Rattle.std.proofs.Common.{List}
use Rattle.jd_syntax.specs.JavaTrees.{JavaUnit}
use Rattle.jd_jclashes.specs.Clashes.{ClashRefuses}
use Rattle.jd_jclashes.specs.declared.clash.Clash.{Clash}
use Rattle.jd_jclashes.specs.declared.clash.Clash.TheVariants as clashes
use Rattle.jd_jheads.specs.Heads.{HeadRefuses}
use Rattle.jd_jheads.specs.declared.refusal.HeadRefusal.{HeadRefusal}
use Rattle.jd_jheads.specs.declared.refusal.HeadRefusal.TheVariants as heads
use Rattle.jd_classes.specs.Refusals.{clash_as, head_as, Refuses}

pub clash_refuses : (units : List JavaUnit) (c : Clash) → ClashRefuses units c → Refuses units (clash_as c)
clash_refuses units (clashes.DuplicateMember file at) r = r
clash_refuses units (clashes.Hiding file at) r = r
clash_refuses units (clashes.Overload file at) r = r
clash_refuses units (clashes.BadOverride file at) r = r

pub head_refuses : (units : List JavaUnit) (h : HeadRefusal) → HeadRefuses units h → Refuses units (head_as h)
head_refuses units (heads.DuplicateClass file at) r = r
head_refuses units (heads.UnknownSuper file at) r = r
head_refuses units (heads.CyclicExtends file at) r = r
head_refuses units heads.NoMemory r = r

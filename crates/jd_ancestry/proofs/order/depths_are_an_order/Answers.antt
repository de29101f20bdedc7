use Rattle.jd_ancestry.proofs.Ancestry.{transitive}
use Rattle.jd_ancestry.proofs.DepthLaws.{exclude_cycles, grow}
use Rattle.jd_ancestry.proofs.order.depths_are_an_order.Goals as goal

pub returns-clause-transitive : goal.returns-clause-transitive
returns-clause-transitive c = transitive

pub returns-clause-grow : goal.returns-clause-grow
returns-clause-grow c = grow

pub returns-clause-no_cycle : goal.returns-clause-no_cycle
returns-clause-no_cycle c = exclude_cycles

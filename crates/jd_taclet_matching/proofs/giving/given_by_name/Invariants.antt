use Rattle.std.proofs.Common.{◌≡◌, drop, map}
use Rattle.jd_declared.specs.Named.{first_named}
use Rattle.jd_taclet_matching.specs.Given.{inst_view}
use Rattle.jd_taclet_matching.proofs.giving.given_by_name.Given as goal

abbrev pub invariant-loop-given : goal.invariant-loop-given
invariant-loop-given l = first_named (map inst_view (drop l.given-index l.insts)) l.name ≡ first_named (map inst_view l.insts) l.name

use Rattle.std.proofs.Common.{subst, sym}
use Rattle.jd_patterns.specs.Chosen.{chosen}
use Rattle.jd_schema.specs.Matches.{thrown_by}
use Rattle.jd_schema.specs.Parts.{insts_view}
use Rattle.jd_schema_matching.specs.Tested.{tests}
use Rattle.jd_taclet_premises.specs.Having.{AllHaveInstances}
use Rattle.rule_rows.proofs.matches.put_instances.Goals as goal

pub instantiate-requires : goal.instantiate-requires
instantiate-requires c =
    subst (AllHaveInstances (thrown_by c.args.machine) (chosen tests (insts_view c.args.insts.now))) (sym c.requires)
    (record { replace = tt; left = (tt, tt); right = tt }, (record { replace = tt; left = tt; right = (tt, tt) }, tt))

use Rattle.std.proofs.Common.{◌∙◌}
use Rattle.jd_proofs.proofs.Giving.{one_more_name}
use Rattle.jd_proofs.proofs.named.hashed.Goals as goal

pub loop-name-preserved : goal.loop-name-preserved
loop-name-preserved c =
    one_more_name c.args.names.now c.loop-name.name-index c.name-item.result c.in_ok-copy_bytes.field-0 c.loop-name.places.keys c.insert.new.self.keys c.loop-name-test.true c.name-item.is
    (c.in_ok-copy_bytes.ensures ∙ c.deref.ensures.value) c.requires c.loop-name.invariant c.in_ok-insert.ensures.keys

use Rattle.jd_jgraph.proofs.Lists.{put_made}
use Rattle.jd_jgraph.proofs.named.put.Goals as goal

pub returns : goal.returns
returns c =
    put_made c.args.lists.now.items c.args.place c.args.number c.index_mut.result.now c.push.new.self c.index_mut.ensures.value c.requires c.in_ok-push.ensures.items

use Rattle.jd_java_attributes.proofs.Views.{heading_stands}
use Rattle.jd_java_attributes.proofs.nodes.heading_of_all.Goals as goal

pub returns : goal.returns
returns c tree is = heading_stands tree.forest c.args.lexemes.now c.in_ok-told.told c.heading_in.result (c.in_ok-told.ensures tree is) c.heading_in.ensures

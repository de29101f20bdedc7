use Rattle.jd_syntax.proofs.assigned.add.Goals as goal
use Rattle.jd_syntax.proofs.SortedNames.{name_added}
use Rattle.jd_syntax.specs.Names.{var_view}

-- src/assigned.rt:53:1
pub returns : goal.returns
returns c =
    name_added c.args.found.now.keys c.insert.new.self.keys (c.as_slice.result, c.rank_of.result) (var_view c.args.v.now) c.in_ok-insert.ensures.keys c.as_slice.ensures.value c.rank_of.ensures

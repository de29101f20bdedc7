use Rattle.std.proofs.Common.{map}
use Rattle.jd_jml_written.specs.Views.{case_view}
use Rattle.jd_jml_cases.specs.Trees.{tree_view}
use Rattle.jd_jml_cases.proofs.Adding.{at_none, at_some}
use Rattle.jd_jml_cases.proofs.inherited.add_written.Goals as goal

pub returns-in-None : goal.returns-in-None
returns-in-None c = at_none c.tree_at.result (map tree_view c.args.p.trees.now) c.args.m.0 (map case_view c.args.made.now.items) c.tree_at.ensures c.in-None.is

pub returns-in_ok-append-in-Some : goal.returns-in_ok-append-in-Some
returns-in_ok-append-in-Some c =
    at_some c.tree_at.result c.in-Some.tree (map tree_view c.args.p.trees.now) c.args.m.0 c.args.made.now.items c.append.new.self.items c.in_ok-own-in-Some.own.items
    c.tree_at.ensures c.in-Some.is c.in_ok-append-in-Some.ensures.items c.in_ok-own-in-Some.ensures

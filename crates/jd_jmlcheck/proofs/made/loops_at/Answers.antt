use Rattle.std.proofs.Common.{◌≡◌, IfOk, ap, map, subst, ◌∙◌}
use Rattle.jd_jml_written.specs.Views.{loop_view}
use Rattle.jd_jml_cases.specs.Trees.{tree_view}
use Rattle.jd_jmlcheck.specs.Specified.{loops_of_tree}
use Rattle.jd_jmlcheck.proofs.Listing.{loops_are}
use Rattle.jd_jmlcheck.proofs.made.loops_at.Goals as goal

pub returns : goal.returns
returns c = λ units trees.
    subst (λ l. IfOk c.loops_of_tree.result (λ v. map loop_view v.items ≡ l))
    (ap loops_of_tree c.tree_at.ensures ∙ loops_are units (map tree_view c.args.p.trees.now) c.args.m.0 trees)
    c.loops_of_tree.ensures

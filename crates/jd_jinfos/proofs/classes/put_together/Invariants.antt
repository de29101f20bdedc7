use Rattle.std.proofs.Common.{◌≡◌, ◌++◌, map}
use Rattle.jd_jinfos.specs.Stages.{classes_of, head_view}
use Rattle.jd_jinfos.specs.Views.{class_info_view, own_view}
use Rattle.jd_jinfos.proofs.classes.put_together.Given as goal

-- what is made so far, and what the rest adds
abbrev pub invariant-loop-head : goal.invariant-loop-head
invariant-loop-head l =
    map class_info_view l.out.items ++ classes_of (map head_view l.head-iterator.rest.items) l.parents.rest.now (map own_view l.own.rest.items)
    ≡ classes_of (map head_view l.fn.heads.items) l.fn.parents (map own_view l.fn.own.items)

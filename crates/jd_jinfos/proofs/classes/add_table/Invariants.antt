use Rattle.std.proofs.Common.{◌≡◌, ◌++◌, drop, map}
use Rattle.jd_jinfos.specs.Stages.{head_view, prelude_head}
use Rattle.jd_jinfos.proofs.classes.add_table.Given as goal

-- what is made so far, and what the rest adds
abbrev pub invariant-loop-name : goal.invariant-loop-name
invariant-loop-name l =
    map head_view l.out.items ++ map prelude_head (map (λ row. row.now) (drop l.name-index l.table))
    ≡ map head_view l.fn.out.items ++ map prelude_head (map (λ row. row.now) l.table)

use Rattle.std.proofs.Common.{◌≡◌, ◌++◌, map}
use Rattle.jd_syntax.specs.JavaTrees.{class_view}
use Rattle.jd_jlists.specs.Views.{class_in_file}
use Rattle.jd_jinfos.specs.Stages.{declared_head, head_view}
use Rattle.jd_jinfos.proofs.classes.add_file.Given as goal

-- what is made so far, and what the rest adds
abbrev pub invariant-loop-class : goal.invariant-loop-class
invariant-loop-class l =
    map head_view l.out.items ++ map declared_head (map (class_in_file l.file) (map class_view l.class-iterator.rest.items))
    ≡ map head_view l.fn.out.items ++ map declared_head (map (class_in_file l.file) (map class_view l.fn.classes.items))

use Rattle.std.proofs.Common.{◌≡◌, ◌+◌, ◌++◌, drop, map}
use Rattle.jd_syntax.specs.JavaTrees.{class_view}
use Rattle.jd_jclasses.specs.Members.{of_classes}
use Rattle.jd_jlists.specs.Views.{class_in_file, member_of_view}
use Rattle.jd_jlists.proofs.listing.add_classes.Given as goal

-- what is made so far, and what the rest adds
abbrev pub invariant-loop-index : goal.invariant-loop-index
invariant-loop-index l =
    map member_of_view l.out.items ++ of_classes (l.first + l.index) (map (class_in_file l.file) (map class_view (drop l.index l.classes)))
    ≡ map member_of_view l.fn.out.items ++ of_classes l.first (map (class_in_file l.file) (map class_view l.classes))

use Rattle.std.proofs.Common.{◌≡◌, ◌++◌, drop, map}
use Rattle.jd_syntax.specs.JavaTrees.{member_view}
use Rattle.jd_jclasses.specs.Members.{of_members}
use Rattle.jd_jlists.specs.Views.{member_of_view}
use Rattle.jd_jlists.proofs.listing.add_members.Given as goal

-- what is made so far, and what the rest adds
abbrev pub invariant-loop-place : goal.invariant-loop-place
invariant-loop-place l =
    map member_of_view l.out.items ++ of_members l.class l.file l.place (map member_view (drop l.place l.members))
    ≡ map member_of_view l.fn.out.items ++ of_members l.class l.file 0 (map member_view l.members)

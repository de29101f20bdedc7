use Rattle.std.proofs.Common.{◌≡◌, ◌++◌, drop, filter, map}
use Rattle.jd_jclasses.specs.Members.{is_routine}
use Rattle.jd_jlists.specs.Views.{member_of_view}
use Rattle.jd_jinfos.specs.Infos.{method_info}
use Rattle.jd_jinfos.specs.Views.{method_info_view}
use Rattle.jd_jinfos.proofs.members.method_infos.Given as goal

-- what is made so far, and what the rest adds
abbrev pub invariant-loop-member : goal.invariant-loop-member
invariant-loop-member l =
    map method_info_view l.out.items ++ map method_info (filter (λ m. is_routine m.kind) (map member_of_view (drop l.member-index l.members)))
    ≡ map method_info (filter (λ m. is_routine m.kind) (map member_of_view l.members))

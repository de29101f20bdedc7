use Rattle.std.proofs.Common.{◌≡◌, ◌++◌, List, drop, map}
use Rattle.jd_bodies.specs.Bodies.{PlainBody}
use Rattle.jd_syntax.specs.JavaTrees.{member_view}
use Rattle.jd_check.specs.Building.{GivesBodies, class_bodies}
use Rattle.jd_check.proofs.bodies.with_members.Given as goal

-- what is left gives the whole, behind what is made so far
abbrev pub invariant-loop-member : goal.invariant-loop-member
invariant-loop-member g l =
    (bs : List PlainBody) → GivesBodies l.fn.bodies bs → (xs : List PlainBody) × GivesBodies l.bodies xs
    × (xs ++ class_bodies (g.D.Declares.declarations l.d) l.class (map member_view (drop l.member-index l.members)) ≡ bs ++ class_bodies (g.D.Declares.declarations l.d) l.class (map member_view l.members))

use Rattle.std.proofs.Common.{◌<◌, ℕ, Bool, List, get_or, length, refl}
use Rattle.std.specs.List.{Contains}
use Rattle.jd_reach.specs.Rows.{row_bit, within}
use Rattle.jd_reach.specs.Searches.{IsGroup}
use Rattle.jd_reach.proofs.Filling.{begun}
use Rattle.jd_reach.proofs.Stacks.{at_place}
use Rattle.jd_reach.proofs.Ways.{are_below}
use Rattle.jd_reach.proofs.group.close_group.Goals as goal

-- the first member
first : (members : List ℕ) → 0 < length members → Contains members (get_or members 0 0)
first members some = at_place members (get_or members 0 0) 0 some refl

first_below : (nodes : ℕ) (edges rows : ℕ → ℕ → Bool) (members : List ℕ) → IsGroup nodes edges rows members → 0 < length members → get_or members 0 0 < nodes
first_below nodes edges rows members g some = g.below (get_or members 0 0) (first members some)

pub add_members-requires-clause-row : goal.add_members-requires-clause-row
add_members-requires-clause-row c = first_below _ _ _ _ c.requires.group c.requires.some

pub add_all_reached-requires-clause-row : goal.add_all_reached-requires-clause-row
add_all_reached-requires-clause-row c = first_below _ _ _ _ c.requires.group c.requires.some

pub add_all_reached-requires-clause-filled : goal.add_all_reached-requires-clause-filled
add_all_reached-requires-clause-filled c =
    begun c.args.nodes (within c.args.nodes (row_bit c.args.width c.args.words.now)) (are_below c.args.nodes (row_bit c.args.width c.args.words.now))
    (row_bit c.args.width c.args.closed.now) (row_bit c.args.width c.add_members.new.closed) c.args.members.now (get_or c.args.members.now 0 0)
    c.requires.closed c.requires.group (first c.args.members.now c.requires.some) c.add_members.ensures.kept c.add_members.ensures.only c.add_members.ensures.added

pub copy_row-requires-clause-row : goal.copy_row-requires-clause-row
copy_row-requires-clause-row c = first_below _ _ _ _ c.requires.group c.requires.some

pub returns-clause-closed : goal.returns-clause-closed
returns-clause-closed c =
    let row : ℕ = get_or c.args.members.now 0 0 in
    let there : Contains c.args.members.now row = first c.args.members.now c.requires.some in
    c.copy_row.ensures.closed (within c.args.nodes (row_bit c.args.width c.args.words.now)) c.add_all_reached.ensures.closed
    (c.add_all_reached.ensures.kept row row (c.requires.group.below row there) (c.add_members.ensures.added row there))
    (λ m member. (c.requires.group.joined m row member there, c.requires.group.joined row m there member))

pub returns-clause-members : goal.returns-clause-members
returns-clause-members c m member =
    let row : ℕ = get_or c.args.members.now 0 0 in
    let below : m < c.args.nodes = c.requires.group.below m member in
    c.copy_row.ensures.copied m m member below (c.add_all_reached.ensures.kept row m below (c.add_members.ensures.added m member))

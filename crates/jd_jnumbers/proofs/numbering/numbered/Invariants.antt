use Rattle.std.proofs.Common.{◌≤◌, length, map, take}
use Rattle.jd_jlists.specs.Views.{member_of_view}
use Rattle.jd_jnumbers.specs.Encoding.{text_by}
use Rattle.jd_jnumbers.specs.Numbered.{AreNumbered}
use Rattle.jd_jnumbers.specs.Texts.{text_list}
use Rattle.jd_jnumbers.proofs.numbering.numbered.Given as goal

-- the texts of the members so far have their numbers
abbrev pub invariant-loop-member : goal.invariant-loop-member
invariant-loop-member l = record {
  numbered : AreNumbered (text_list l.texts) l.numbers.items (map (text_by l.by) (map member_of_view (take l.member-index l.members)));
  few : length l.texts.keys ≤ l.member-index;
}

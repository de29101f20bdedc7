use Rattle.std.proofs.Common.{◌≡◌, ◌++◌, drop, map}
use Rattle.jd_syntax.specs.JavaTrees.{unit_view}
use Rattle.jd_jclasses.specs.Classes.{classes_from}
use Rattle.jd_jclasses.specs.Members.{declared_members, of_classes}
use Rattle.jd_jlists.specs.Views.{member_of_view}
use Rattle.jd_jlists.proofs.Rests.{CanBeListed}
use Rattle.jd_jlists.proofs.listing.members_of.Given as goal

-- what is made so far, and what the rest adds
abbrev pub invariant-loop-file : goal.invariant-loop-file
invariant-loop-file l = record {
  left : CanBeListed l.class l.file l.units;
  whole : map member_of_view l.out.items ++ of_classes l.class (classes_from l.file (map unit_view (drop l.file l.units))) ≡ declared_members (map unit_view l.units);
}

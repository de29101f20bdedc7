use Rattle.std.proofs.Common.{◌≡◌, ◌+◌, ◌<◌, ◌++◌, length, map, drop, sym, ap, ◌∙◌, subst, arith, All}
use Rattle.jd_syntax.specs.JavaTrees.{class_view, unit_view}
use Rattle.jd_jclasses.specs.Classes.{classes_from}
use Rattle.jd_jclasses.specs.Members.{of_classes}
use Rattle.jd_jlists.specs.Views.{class_in_file, member_of_view, HasFewMembers}
use Rattle.jd_jlists.proofs.Rests.{CanBeListed, file_places, next_file, one_file_more}
use Rattle.jd_jlists.proofs.listing.members_of.Goals as goal

pub add_classes-requires-clause-places : goal.add_classes-requires-clause-places
add_classes-requires-clause-places c =
    let below : c.loop-file.file < length c.args.units.now = omega arith in
    subst (λ l. All HasFewMembers (map class_view l)) (sym c.deref.ensures.value) (file_places c.loop-file.file c.args.units.now c.index-units-file.result c.index-units-file.is below c.loop-file.class c.loop-file.invariant.left)

pub loop-file-preserved : goal.loop-file-preserved
loop-file-preserved c =
    let below : c.loop-file.file < length c.args.units.now = omega arith in
    let count : length c.index-units-file.result.classes.items ≡ c.len.result = omega (arith, c.index-units-file.result.classes.ok.0, c.len.ensures) in
    record {
      left = subst (λ n. CanBeListed (c.loop-file.class + n) (c.loop-file.file + 1) c.args.units.now) count (next_file c.loop-file.file c.args.units.now c.index-units-file.result c.index-units-file.is below c.loop-file.class c.loop-file.invariant.left);
      whole = ap (λ n. map member_of_view c.add_classes.new.out.items ++ of_classes (c.loop-file.class + n) (classes_from (c.loop-file.file + 1) (map unit_view (drop (c.loop-file.file + 1) c.args.units.now)))) (sym count)
          ∙ one_file_more c.loop-file.file c.args.units.now c.index-units-file.result c.index-units-file.is below c.loop-file.class (map member_of_view c.loop-file.out.items) (map member_of_view c.add_classes.new.out.items)
          (c.in_ok-add_classes.ensures ∙ ap (λ l. map member_of_view c.loop-file.out.items ++ of_classes c.loop-file.class (map (class_in_file c.loop-file.file) (map class_view l))) c.deref.ensures.value)
          ∙ c.loop-file.invariant.whole;
    }

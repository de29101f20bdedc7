use Rattle.std.proofs.Common.{◌≡◌, length, map, sym, ap, subst, ◌∙◌, arith}
use Rattle.std.proofs.lemmas.List.{length-map}
use Rattle.jd_ancestry.specs.Ancestors.{AreNodes}
use Rattle.jd_syntax.specs.JavaTrees.{unit_view}
use Rattle.jd_jclasses.specs.Classes.{parents}
use Rattle.jd_jclasses.specs.Methods.{routines}
use Rattle.jd_jinfos.specs.Infos.{method_info}
use Rattle.jd_jinfos.specs.Views.{class_info_view, method_info_view}
use Rattle.jd_jseen.proofs.Nodes.{length_parents, parents_are_classes}
use Rattle.jd_classes.proofs.Lineages.{length_infos}
use Rattle.jd_classes.proofs.classes.Classes.build.Goals as goal

pub invariant_of-result : goal.invariant_of-result
invariant_of-result c =
    let units = map unit_view c.args.units.items in
    let g = c.in_ok-heads.ensures.gathered in
    let there = ap (map unit_view) c.deref.ensures.value in
    let extends = g.parents_ ∙ ap parents there in
    let many : length c.in_ok-classes.classes.items ≡ length (parents units) =
    sym (length-map c.in_ok-classes.classes.items class_info_view) ∙ ap length c.in_ok-classes.ensures ∙ length_infos units in
    record {
      few = omega (arith, many, length_parents units, c.requires.classes);
      nodes = subst AreNodes (sym extends) (parents_are_classes units);
      deep = g.depths_;
      all_classes = ap length extends ∙ sym many;
      all_methods = g.routines_ ∙ sym (length-map (routines (map unit_view c.deref.result.now)) method_info) ∙ sym (ap length g.methods_) ∙ length-map c.in_ok-heads.field-0.methods.items method_info_view;
      all_families = g.nodes_;
    }

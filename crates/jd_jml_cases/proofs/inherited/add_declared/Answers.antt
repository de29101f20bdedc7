use Rattle.std.proofs.Common.{◌≡◌, ◌<◌, ◌++◌, List, OnOk, ap, filter, flat_map, map, subst, ◌∙◌}
use Rattle.jd_base.specs.declared.ids.MethodId.{MethodId}
use Rattle.jd_jinfos.specs.Views.{class_info_view, method_number}
use Rattle.jd_jml_written.specs.Views.{case_view}
use Rattle.jd_jml_cases.specs.Trees.{cases_by, tree_view}
use Rattle.jd_jml_cases.proofs.Adding.{is_so, methods_of}
use Rattle.jd_jml_cases.proofs.Listing.{class_count}
use Rattle.jd_jml_cases.proofs.inherited.add_declared.Goals as goal

pub returns : goal.returns
returns c = λ units tables.
    let f = cases_by (map tree_view c.args.p.trees.now) in
    let inside = subst (λ n. c.args.class < n) (class_count units c.args.p.classes.now tables) c.requires in
    subst (λ l. OnOk c.add_named.result (map case_view c.add_named.new.made.items ≡ map case_view c.args.made.now.items ++ l))
    (ap (λ (ms : List MethodId). flat_map f (filter (is_so units f c.args.name.now) (map method_number ms))) c.deref.ensures.value
    ∙ ap (flat_map f) (methods_of units f c.args.name.now c.args.class (class_info_view c.class.result.now) (c.class.ensures units tables) inside))
    (c.add_named.ensures units tables)

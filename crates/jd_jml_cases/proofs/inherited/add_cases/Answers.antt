use Rattle.std.proofs.Common.{◌≡◌, ◌++◌, ℕ, List, OnOk, Some, ap, flat_map, map, subst, sym, ◌∙◌}
use Rattle.jd_jclasses.specs.Classes.{parents}
use Rattle.jd_jinfos.specs.Views.{method_info_view}
use Rattle.jd_programs.specs.Members.{declared_as}
use Rattle.jd_jml_written.specs.Views.{case_view}
use Rattle.jd_jml_cases.specs.Cases.{classes_up}
use Rattle.jd_jml_cases.specs.Trees.{cases_by, tree_view}
use Rattle.jd_jml_cases.proofs.Adding.{class_within}
use Rattle.jd_jml_cases.proofs.Deciding.{alone, with_others}
use Rattle.jd_jml_cases.proofs.Listing.{class_count}
use Rattle.jd_jml_cases.proofs.Written.{all_written, written_is}
use Rattle.jd_jml_cases.proofs.inherited.add_cases.Goals as goal

pub returns-then-is_alone : goal.returns-then-is_alone
returns-then-is_alone c = λ units tables trees.
    subst (λ l. OnOk c.add_written.result (map case_view c.add_written.new.made.items ≡ map case_view c.args.made.now.items ++ l))
    (written_is units (map tree_view c.args.p.trees.now) c.args.m.0 trees
    ∙ sym (alone units c.args.m.0 (method_info_view c.method-info.result.now) c.is_alone.result (c.method-info.ensures units tables) c.is_alone.ensures c.if-is_alone.true))
    c.add_written.ensures

pub add_inherited-requires-clause-class : goal.add_inherited-requires-clause-class
add_inherited-requires-clause-class c =
    class_within c.requires.tables.0 c.args.p.classes.now c.args.m.0 (method_info_view c.method-info.result.now) c.requires.tables.1 (c.method-info.ensures c.requires.tables.0 c.requires.tables.1)

pub returns : goal.returns
returns c = λ units tables trees.
    let f = cases_by (map tree_view c.args.p.trees.now) in
    let class = c.method-info.result.now.class.0 in
    subst (λ l. OnOk c.add_inherited.result (map case_view c.add_inherited.new.made.items ≡ map case_view c.args.made.now.items ++ l))
    (ap (λ (n : List ℕ). flat_map f (flat_map (declared_as units n) (classes_up (parents units) c.class_count.result (Some class)))) c.deref.ensures.value
    ∙ ap (λ (k : ℕ). flat_map f (flat_map (declared_as units c.method-info.result.now.name.items) (classes_up (parents units) k (Some class)))) (c.class_count.ensures ∙ class_count units c.args.p.classes.now tables)
    ∙ all_written units (map tree_view c.args.p.trees.now) _ trees
    ∙ sym (with_others units c.args.m.0 (method_info_view c.method-info.result.now) c.is_alone.result (c.method-info.ensures units tables) c.is_alone.ensures c.if-is_alone.false))
    (c.add_inherited.ensures units tables)

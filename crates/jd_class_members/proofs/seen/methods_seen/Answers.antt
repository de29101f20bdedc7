use Rattle.std.proofs.Common.{◌≡◌, ◌++◌, ℕ, [], List, IfOk, Some, ap, flat_map, map, subst, ◌∙◌}
use Rattle.jd_base.specs.declared.ids.MethodId.{MethodId}
use Rattle.jd_jclasses.specs.Classes.{parents}
use Rattle.jd_jinfos.specs.Views.{method_number}
use Rattle.jd_programs.specs.Members.{members_along, members_from, routine_name}
use Rattle.jd_jml_cases.specs.Cases.{classes_up, lineage}
use Rattle.jd_jml_cases.proofs.Listing.{class_count}
use Rattle.jd_class_members.specs.Distinct.{all_inserted}
use Rattle.jd_class_members.proofs.Firsts.{all_seen}
use Rattle.jd_class_members.proofs.seen.methods_seen.Goals as goal

pub returns : goal.returns
returns g c = λ units tables are.
    let d = g.D.Declares.declarations c.args.d.now in
    let class = c.args.class.0 in
    let found = λ (m : ℕ). d.method class (routine_name units m) in
    subst (λ l. IfOk c.distinct_seen.result (λ v. map method_number v.items ≡ l))
    (ap (λ (ms : List MethodId). all_inserted found [] (map method_number ms)) c.deref.ensures.value
    ∙ ap (all_inserted found [])
    (c.in_ok-add_members.ensures units tables
    ∙ ap (λ (l : List MethodId). map method_number l ++ flat_map (members_from units class) (classes_up (parents units) c.class_count.result (Some class))) c.new-members.ensures.items
    ∙ ap (λ (k : ℕ). flat_map (members_from units class) (classes_up (parents units) k (Some class))) (c.class_count.ensures ∙ class_count units c.args.classes.now tables))
    ∙ all_seen units d are class (members_along units (lineage units) class))
    (c.distinct_seen.ensures units tables)

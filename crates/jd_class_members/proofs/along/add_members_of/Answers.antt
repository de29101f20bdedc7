use Rattle.std.proofs.Common.{◌≡◌, ◌<◌, ◌++◌, ◌||◌, ℕ, not, nat_eq, List, OnOk, ap, filter, map, subst, ◌∙◌}
use Rattle.jd_base.specs.declared.ids.MethodId.{MethodId}
use Rattle.jd_jinfos.specs.Views.{class_info_view, method_number}
use Rattle.jd_jml_cases.proofs.Listing.{class_count}
use Rattle.jd_programs.specs.Members.{static_routine}
use Rattle.jd_class_members.proofs.Up.{methods_at}
use Rattle.jd_class_members.proofs.along.add_members_of.Goals as goal

pub returns : goal.returns
returns c = λ units tables.
    let is_so = λ (k : ℕ). not (static_routine units k) || nat_eq c.args.class c.args.of in
    let inside = subst (λ n. c.args.class < n) (class_count units c.args.classes.now tables) c.requires in
    subst (λ l. OnOk c.add_members_among.result (map method_number c.add_members_among.new.to.items ≡ map method_number c.args.to.now.items ++ l))
    (ap (λ (ms : List MethodId). filter is_so (map method_number ms)) c.deref.ensures.value
    ∙ ap (filter is_so) (methods_at units c.args.class (class_info_view c.class.result.now) (c.class.ensures units tables) inside))
    (c.add_members_among.ensures units tables)

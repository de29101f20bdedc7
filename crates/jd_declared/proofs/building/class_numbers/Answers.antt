use Rattle.std.proofs.Common.{List, arith, ap, length, ℕ, take, ◌≡◌, ◌∙◌}
use Rattle.jd_jclasses.specs.Classes.{class_in, class_names}
use Rattle.jd_jinfos.specs.Views.{class_info_view}
use Rattle.jd_declared.proofs.Listing.{as_many_names, class_count, name_at, whole_taken}
use Rattle.jd_declared.proofs.Naming.{number_more}
use Rattle.jd_declared.proofs.building.class_numbers.Goals as goal

pub loop-class-preserved : goal.loop-class-preserved
loop-class-preserved c = λ units tables q.
    number_more (class_names units) c.loop-class.class c.deref.result.now _ _
    (name_at units c.loop-class.class (class_info_view c.class.result.now) c.deref.result.now (c.class.ensures units tables) c.deref.ensures.value)
    (c.loop-class.invariant units tables) c.in_ok-add.ensures q

pub returns : goal.returns
returns c = λ units tables q.
    let count : c.loop-class.class ≡ length (class_names units) =
    omega (arith, c.loop-class.auto.class-end, c.loop-class-test.false, c.class_count-class-end.ensures, class_count units c.args.classes.now tables, as_many_names units) in
    c.loop-class.invariant units tables q ∙ ap (λ n. class_in (take n (class_names units)) q) count ∙ ap (λ l. class_in l q) (whole_taken (class_names units))

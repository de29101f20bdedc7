use Rattle.std.proofs.Common.{◌++◌, ℕ, List, Some, ap, flat_map, map, ◌∙◌}
use Rattle.jd_base.specs.declared.ids.MethodId.{MethodId}
use Rattle.jd_jclasses.specs.Classes.{parents}
use Rattle.jd_jinfos.specs.Views.{method_number}
use Rattle.jd_programs.specs.Members.{own}
use Rattle.jd_jml_cases.specs.Cases.{classes_up, lineage}
use Rattle.jd_jml_cases.proofs.Listing.{class_count}
use Rattle.jd_class_members.specs.Along.{constructor_of}
use Rattle.jd_class_members.proofs.Up.{all_listed}
use Rattle.jd_class_members.proofs.along.constructors_run.Goals as goal

pub returns : goal.returns
returns c = λ units tables.
    c.in_ok-add_constructors.ensures units tables
    ∙ ap (λ (l : List MethodId). map method_number l ++ flat_map (constructor_of units) (classes_up (parents units) c.class_count.result (Some c.args.class.0))) c.new-made.ensures.items
    ∙ ap (λ (k : ℕ). flat_map (constructor_of units) (classes_up (parents units) k (Some c.args.class.0))) (c.class_count.ensures ∙ class_count units c.args.classes.now tables)
    ∙ all_listed (λ a. (own units a).constructor) (lineage units c.args.class.0)

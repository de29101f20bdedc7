use Rattle.std.proofs.Common.{ap, option_map, sym, ◌∙◌}
use Rattle.std.specs.Option.{unwrap_or}
use Rattle.jd_jinfos.specs.Views.{class_number}
use Rattle.jd_taclet_rules.proofs.Machines.{number_is}
use Rattle.jd_taclet_rules.proofs.machine.number_of.Goals as goal

pub returns-in-Some : goal.returns-in-Some
returns-in-Some c =
    sym (ap (λ o. unwrap_or (option_map class_number o) 0) c.in-Some.is)
    ∙ number_is c.args.task.now.classes.now c.args.name.now c.args.task.now.program c.class_named.result c.class_named.ensures.named

pub returns-in-None : goal.returns-in-None
returns-in-None c =
    sym (ap (λ o. unwrap_or (option_map class_number o) 0) c.in-None.is)
    ∙ number_is c.args.task.now.classes.now c.args.name.now c.args.task.now.program c.class_named.result c.class_named.ensures.named

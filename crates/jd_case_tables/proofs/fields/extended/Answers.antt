use Rattle.std.proofs.Common.{ap, option_map, sym, ◌∙◌}
use Rattle.jd_jinfos.specs.Views.{class_info_view, class_number}
use Rattle.jd_case_tables.proofs.Up.{extended_is, extended_within}
use Rattle.jd_case_tables.proofs.fields.extended.Goals as goal

pub returns-in-None-clause-parent : goal.returns-in-None-clause-parent
returns-in-None-clause-parent c = λ units tables. ap (option_map class_number) (sym c.in-None.is) ∙ extended_is units c.args.class (class_info_view c.class.result.now) (c.class.ensures units tables)

pub returns-in-Some-clause-parent : goal.returns-in-Some-clause-parent
returns-in-Some-clause-parent c = λ units tables. ap (option_map class_number) (sym c.in-Some.is) ∙ extended_is units c.args.class (class_info_view c.class.result.now) (c.class.ensures units tables)

pub returns-in-Some-clause-within : goal.returns-in-Some-clause-within
returns-in-Some-clause-within c =
    extended_within c.requires.tables.0 c.args.classes.now c.args.class (class_info_view c.class.result.now) c.in-Some.c.0 c.requires.tables.1
    (c.class.ensures c.requires.tables.0 c.requires.tables.1) (ap (option_map class_number) c.in-Some.is)

use Rattle.std.proofs.Common.{sym, ap, ◌∙◌}
use Rattle.std.specs.Coded.{coded_option, coded_ℕ}
use Rattle.jd_tforms.specs.Naming as plain
use Rattle.jd_names.specs.Tables.{name_table}
use Rattle.jd_tparse.specs.Names.{variables}
use Rattle.jd_tparse.proofs.Calling.{constructor_is, no_constructor_is}
use Rattle.jd_tparse.proofs.Opening.{same_for_each, tables_are}
use Rattle.jd_tparse.proofs.names.Names.constructor_called.Goals as goal

pub returns-in-Some : goal.returns-in-Some
returns-in-Some c =
    let cs = c.args.self.now.classes.now in
    let vs = variables c.args.self.now.vars.now in
    let w = c.args.word.now in
    same_for_each cs c.args.self.now.program _ _ (coded_option coded_ℕ) (λ units tables.
    let same = tables_are cs units tables in
    constructor_is units tables.stand vs w c.in-Some.class.0 c.class.result.now
    (sym (ap (λ t. plain.class_of (name_table t vs) w) same) ∙ sym c.in-Some.ensures.named) (c.class.ensures units tables)
    ∙ sym (ap (λ t. plain.constructor_of (name_table t vs) w) same))

pub returns-in-None : goal.returns-in-None
returns-in-None c =
    let cs = c.args.self.now.classes.now in
    let vs = variables c.args.self.now.vars.now in
    let w = c.args.word.now in
    same_for_each cs c.args.self.now.program _ _ (coded_option coded_ℕ) (λ units tables.
    let same = tables_are cs units tables in
    no_constructor_is units tables.stand vs w
    (sym (ap (λ t. plain.class_of (name_table t vs) w) same) ∙ sym c.in-None.ensures.named)
    ∙ sym (ap (λ t. plain.constructor_of (name_table t vs) w) same))

use Rattle.std.specs.Coded.{coded_option, coded_ℕ}
use Rattle.std.proofs.Common.{sym, ◌∙◌}
use Rattle.jd_tparse.specs.Names.{variables}
use Rattle.jd_tparse.proofs.Named.{static_of_is}
use Rattle.jd_tparse.proofs.Opening.{same_for_each}
use Rattle.jd_tparse.proofs.meanings.NamesNameMeanings.static_of.Goals as goal

pub returns-in-Some : goal.returns-in-Some
returns-in-Some c =
    same_for_each c.args.self.now.classes.now c.args.self.now.program _ _ (coded_option coded_ℕ) (λ units tables.
    c.in-Some.ensures units tables ∙ sym (static_of_is c.args.self.now.classes.now units tables (variables c.args.self.now.vars.now) c.args.word.now (sym c.is_name.ensures ∙ c.if-not-is_name.false)))

pub returns-in-None : goal.returns-in-None
returns-in-None c =
    same_for_each c.args.self.now.classes.now c.args.self.now.program _ _ (coded_option coded_ℕ) (λ units tables.
    c.in-None.ensures units tables ∙ sym (static_of_is c.args.self.now.classes.now units tables (variables c.args.self.now.vars.now) c.args.word.now (sym c.is_name.ensures ∙ c.if-not-is_name.false)))

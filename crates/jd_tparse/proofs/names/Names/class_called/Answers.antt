use Rattle.std.proofs.Common.{sym, ◌∙◌}
use Rattle.std.specs.Coded.{coded_option, coded_ℕ}
use Rattle.jd_tparse.specs.Names.{variables}
use Rattle.jd_tparse.proofs.Calling.{class_is, within_for_each}
use Rattle.jd_tparse.proofs.Opening.{same_for_each}
use Rattle.jd_tparse.proofs.names.Names.class_called.Goals as goal

pub returns-then-is_name-clause-named : goal.returns-then-is_name-clause-named
returns-then-is_name-clause-named c =
    same_for_each c.args.self.now.classes.now c.args.self.now.program _ _ (coded_option coded_ℕ) (λ units tables.
    c.class_named.ensures.named units tables ∙ sym (class_is c.args.self.now.classes.now units tables (variables c.args.self.now.vars.now) c.args.word.now (sym c.is_name.ensures ∙ c.if-is_name.true)))

pub returns-then-is_name-clause-within : goal.returns-then-is_name-clause-within
returns-then-is_name-clause-within c = within_for_each c.args.self.now.classes.now c.args.self.now.program _ c.class_named.result c.class_named.ensures.within

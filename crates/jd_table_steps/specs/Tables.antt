-- Tables whose rows can be used as rules in sequents that the grammar spells.
use Rattle.std.specs.Prelude.{List, length, nat_lt, true, ◌≡◌}
use Rattle.std.specs.List.{list_all}
use Rattle.jd_rule_tables.specs.Tables.{AreRules, logic_and_integer_rows}
use Rattle.jd_spelled_steps.specs.Rows.{AllAreMet, AllKeep}
use Rattle.jd_taclets.specs.Taclets.{Taclet}

-- they can be used as rules, keep trees spelled, and their conditions on all that is spelled are met; none has 100 goals
pub record AreSpelledRules (rows : List Taclet) : Type 0 where
  pub rules : AreRules rows
  pub keep : AllKeep rows
  pub met : AllAreMet rows
  pub few : list_all (λ r. nat_lt (length r.goals) 100) rows ≡ true

-- the rows that are rules
abbrev pub rule_rows : List Taclet
rule_rows = logic_and_integer_rows

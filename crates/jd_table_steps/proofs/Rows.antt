-- The table of the rules.
use Rattle.std.proofs.Common.{All, List, refl, ◌++◌, ◌∷◌, []}
use Rattle.jd_rule_tables.proofs.Tables as tables
use Rattle.jd_spelled_steps.proofs.Conditions.{integers_are_met, logic_are_met}
use Rattle.jd_spelled_steps.proofs.IntegerRows as integers
use Rattle.jd_spelled_steps.proofs.LogicRows as logic
use Rattle.jd_spelled_steps.specs.Rows.{AllAreMet, AllKeep}
use Rattle.jd_tac_int.proofs.Finds as integer_finds
use Rattle.jd_tac_int.proofs.Rows as integer_meanings
use Rattle.jd_tac_int.specs.Integers.{integer_rows}
use Rattle.jd_tac_logic.proofs.Finds as logic_finds
use Rattle.jd_tac_logic.proofs.Rows as logic_meanings
use Rattle.jd_tac_logic.specs.Logic.{logic_rows}
use Rattle.jd_taclets.specs.Taclets.{Taclet}
use Rattle.jd_table_steps.specs.Tables.{AreSpelledRules, rule_rows}

keep_both : (l m : List Taclet) → AllKeep l → AllKeep m → AllKeep (l ++ m)
keep_both [] m h k = k
keep_both (r ∷ l) m h k = (h.0, keep_both l m h.1 k)

met_both : (l m : List Taclet) → AllAreMet l → AllAreMet m → AllAreMet (l ++ m)
met_both [] m h k = k
met_both (r ∷ l) m h k = (h.0, met_both l m h.1 k)

pub rows_are_rules : AreSpelledRules rule_rows
rows_are_rules = record {
  rules = tables.rows_are_rules logic_meanings.all_mean integer_meanings.all_mean logic_finds.all_finds integer_finds.all_finds;
  keep = keep_both logic_rows integer_rows logic.all_keep integers.all_keep;
  met = met_both logic_rows integer_rows logic_are_met integers_are_met;
  few = refl;
}

-- each that is taken, with what holds of all
pub each_with : {A : Type 0} (P : A → Type 0) (l : List A) (Q : Type 0) → Q → All P l → All (λ x. Q × P x) l
each_with P l Q q all k d lt = (q, all k d lt)

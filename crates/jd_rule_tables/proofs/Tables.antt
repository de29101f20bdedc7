-- The rows of logic and of integers can be used as rules.
use Rattle.std.proofs.Common.{List, Some, [], refl, subst, sym, ◌++◌, ◌≡◌, ◌∙◌, ◌∷◌, ◌⊎◌, ⊎_elim}
use Rattle.std.proofs.lemmas.Option.{same_Some}
use Rattle.jd_patterns.specs.Patterns.{FormulaPattern, TermPattern}
use Rattle.jd_rule_tables.specs.Tables.{AreRules, logic_and_integer_rows}
use Rattle.jd_tac_int.proofs.Rows.{◌⊗◌}
use Rattle.jd_tac_int.specs.Integers as integers
use Rattle.jd_tac_int.specs.Integers.{integer_rows}
use Rattle.jd_tac_logic.specs.Logic as logic
use Rattle.jd_tac_logic.specs.Logic.{logic_rows}
use Rattle.jd_taclet_scripts.specs.Laws.{AllInShape, HasOneGoal, IsInShape}
use Rattle.jd_taclet_steps.specs.Steps.{only_goal}
use Rattle.jd_taclets.specs.Taclets.{AllFinds, AllMean, AtFormula, AtTerm, FormulaFind, Free, OnLeft, OnRight, Taclet, TacletKind, TermFind}

-- ---- the shape of a row is told by how it is written

-- a row of another kind than those at a formula or a term
abbrev IsOther : TacletKind → Type 0
IsOther k = (k ≡ AtFormula) ⊎ (k ≡ AtTerm) → ⊥

on_left : IsOther OnLeft
on_left h = ⊎_elim (λ e. cc) (λ e. cc) h

on_right : IsOther OnRight
on_right h = ⊎_elim (λ e. cc) (λ e. cc) h

nowhere : IsOther Free
nowhere h = ⊎_elim (λ e. cc) (λ e. cc) h

other : (r : Taclet) → IsOther r.kind → IsInShape r
other r is f e k = absurd (is k)

formula : (r : Taclet) (find c : FormulaPattern) → r.find ≡ Some (FormulaFind find) → r.goals ≡ only_goal (FormulaFind c) → IsInShape r
formula r find c found goals f e k = subst (HasOneGoal r) (same_Some (FormulaFind find) f (sym found ∙ e)) (c, goals)

term : (r : Taclet) (find u : TermPattern) → r.find ≡ Some (TermFind find) → r.goals ≡ only_goal (TermFind u) → IsInShape r
term r find u found goals f e k = subst (HasOneGoal r) (same_Some (TermFind find) f (sym found ∙ e)) (u, goals)

logic_shapes : AllInShape logic_rows
logic_shapes =
    other logic.close on_right ⊗ other logic.close_true on_right ⊗ other logic.close_false on_left ⊗ other logic.not_left on_left ⊗
    other logic.not_right on_right ⊗ other logic.and_left on_left ⊗ other logic.and_right on_right ⊗ other logic.or_left on_left ⊗
    other logic.or_right on_right ⊗ other logic.imp_left on_left ⊗ other logic.imp_right on_right ⊗ other logic.iff_left on_left ⊗
    other logic.iff_right on_right ⊗ other logic.all_right on_right ⊗ other logic.ex_left on_left ⊗ other logic.all_left on_left ⊗
    other logic.ex_right on_right ⊗ other logic.cut nowhere ⊗ other logic.hide_left on_left ⊗ other logic.hide_right on_right ⊗
    formula logic.eq_refl _ _ refl refl ⊗ formula logic.eq_sym _ _ refl refl ⊗ term logic.apply_eq _ _ refl refl ⊗ formula logic.known_left _ _ refl refl ⊗
    formula logic.known_right _ _ refl refl ⊗ other logic.bool_cases nowhere ⊗ formula logic.bool_distinct _ _ refl refl ⊗ formula logic.not_true _ _ refl refl ⊗
    formula logic.not_false _ _ refl refl ⊗ formula logic.not_not _ _ refl refl ⊗ formula logic.and_true_left _ _ refl refl ⊗ formula logic.and_true_right _ _ refl refl ⊗
    formula logic.and_false_left _ _ refl refl ⊗ formula logic.and_false_right _ _ refl refl ⊗ formula logic.or_true_left _ _ refl refl ⊗ formula logic.or_true_right _ _ refl refl ⊗
    formula logic.or_false_left _ _ refl refl ⊗ formula logic.or_false_right _ _ refl refl ⊗ formula logic.imp_true_left _ _ refl refl ⊗ formula logic.imp_true_right _ _ refl refl ⊗
    formula logic.imp_false_left _ _ refl refl ⊗ formula logic.imp_false_right _ _ refl refl ⊗ formula logic.all_true _ _ refl refl ⊗ formula logic.ex_false _ _ refl refl ⊗
    tt

integer_shapes : AllInShape integer_rows
integer_shapes =
    term integers.fold_add _ _ refl refl ⊗ term integers.fold_sub _ _ refl refl ⊗ term integers.fold_mul _ _ refl refl ⊗ term integers.fold_neg _ _ refl refl ⊗
    term integers.fold_div _ _ refl refl ⊗ term integers.fold_mod _ _ refl refl ⊗ term integers.fold_wrap _ _ refl refl ⊗ formula integers.fold_lt _ _ refl refl ⊗
    formula integers.fold_le _ _ refl refl ⊗ formula integers.fold_eq _ _ refl refl ⊗ term integers.add_comm _ _ refl refl ⊗ term integers.add_assoc _ _ refl refl ⊗
    term integers.add_zero _ _ refl refl ⊗ term integers.mul_comm _ _ refl refl ⊗ term integers.mul_assoc _ _ refl refl ⊗ term integers.mul_one _ _ refl refl ⊗
    term integers.mul_zero _ _ refl refl ⊗ term integers.distrib _ _ refl refl ⊗ term integers.sub_def _ _ refl refl ⊗ term integers.neg_def _ _ refl refl ⊗
    term integers.collect _ _ refl refl ⊗ term integers.collect_one _ _ refl refl ⊗ formula integers.lt_to_le _ _ refl refl ⊗ formula integers.not_le _ _ refl refl ⊗
    formula integers.not_lt _ _ refl refl ⊗ formula integers.le_refl _ _ refl refl ⊗ formula integers.lt_refl _ _ refl refl ⊗ other integers.le_trans on_left ⊗
    other integers.le_antisym on_left ⊗ other integers.le_sum on_left ⊗ other integers.le_scale on_left ⊗ other integers.le_weaken on_left ⊗
    formula integers.le_shift _ _ refl refl ⊗ other integers.le_eq on_left ⊗ other integers.le_clash on_left ⊗ other integers.int_cases nowhere ⊗
    other integers.int_ind on_right ⊗ formula integers.in_int_def _ _ refl refl ⊗ term integers.wrap_in _ _ refl refl ⊗ other integers.wrap_range nowhere ⊗
    term integers.wrap_wrap _ _ refl refl ⊗ term integers.wrap_add _ _ refl refl ⊗ term integers.wrap_mul _ _ refl refl ⊗ term integers.wrap_neg _ _ refl refl ⊗
    term integers.mod_def _ _ refl refl ⊗ term integers.div_neg_left _ _ refl refl ⊗ term integers.div_neg_right _ _ refl refl ⊗ other integers.div_bound nowhere ⊗
    term integers.sum_empty _ _ refl refl ⊗ term integers.sum_last _ _ refl refl ⊗ tt

-- ---- two tables as one

shapes_of_both : (l m : List Taclet) → AllInShape l → AllInShape m → AllInShape (l ++ m)
shapes_of_both [] m h k = k
shapes_of_both (r ∷ l) m h k = (h.0, shapes_of_both l m h.1 k)

meanings_of_both : (l m : List Taclet) → AllMean l → AllMean m → AllMean (l ++ m)
meanings_of_both [] m h k = k
meanings_of_both (r ∷ l) m h k = (h.0, meanings_of_both l m h.1 k)

finds_of_both : (l m : List Taclet) → AllFinds l → AllFinds m → AllFinds (l ++ m)
finds_of_both [] m h k = k
finds_of_both (r ∷ l) m h k = (h.0, finds_of_both l m h.1 k)

pub rows_are_rules : AllMean logic_rows → AllMean integer_rows → AllFinds logic_rows → AllFinds integer_rows → AreRules logic_and_integer_rows
rows_are_rules logic_mean integers_mean logic_finds integer_finds = record {
  means = meanings_of_both logic_rows integer_rows logic_mean integers_mean;
  shapes = shapes_of_both logic_rows integer_rows logic_shapes integer_shapes;
  finds = finds_of_both logic_rows integer_rows logic_finds integer_finds;
  ready = refl;
}

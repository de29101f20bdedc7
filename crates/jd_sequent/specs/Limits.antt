-- Which sequents a replay may meet.
use Rattle.std.specs.Prelude.{◌+◌, ◌≤◌, Bool, ◌&&◌, nat_le, IsTrue, length, sum_by}
use Rattle.std.specs.List.{list_all}
use Rattle.jd_term.specs.Formulas.{PlainFormula}
use Rattle.jd_term.specs.FormulaSizes.{formula_size, formula_depth}
use Rattle.jd_model.specs.Sequents.{PlainSequent}

-- a formula of at most 100,000 nodes, at most 1,000 deep
abbrev pub is_small_formula : PlainFormula → Bool
is_small_formula a = nat_le (formula_size a) 100000 && nat_le (formula_depth a) 1000

-- at most 4,096 formulas, all small, with at most 1,000,000 nodes together
pub record IsWithinLimits (s : PlainSequent) : Type 0 where
  pub formulas : length s.left + length s.right ≤ 4096
  pub nodes : sum_by formula_size s.left + sum_by formula_size s.right ≤ 1000000
  pub left : IsTrue (list_all is_small_formula s.left)
  pub right : IsTrue (list_all is_small_formula s.right)

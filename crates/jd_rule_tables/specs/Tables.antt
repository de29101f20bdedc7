-- Tables whose rows can be used as rules, and the one of logic and integers.
use Rattle.std.specs.Prelude.{List, true, ◌++◌, ◌≡◌}
use Rattle.std.specs.List.{list_all}
use Rattle.jd_tac_int.specs.Integers.{integer_rows}
use Rattle.jd_tac_logic.specs.Logic.{logic_rows}
use Rattle.jd_taclet_scripts.specs.Laws.{AllInShape}
use Rattle.jd_taclet_stages.specs.Ready.{is_ready}
use Rattle.jd_taclets.specs.Taclets.{AllFinds, AllMean, Taclet}

-- each row is sound and has a shape, its find and what it assumes are forms that matching decides, and its steps can be worked out
pub record AreRules (rows : List Taclet) : Type 0 where
  pub means : AllMean rows
  pub shapes : AllInShape rows
  pub finds : AllFinds rows
  pub ready : list_all is_ready rows ≡ true

-- the rows of logic, and those of integers
abbrev pub logic_and_integer_rows : List Taclet
logic_and_integer_rows = logic_rows ++ integer_rows

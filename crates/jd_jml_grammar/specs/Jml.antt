-- The table of JML as plain data.
use Rattle.std.specs.Prelude.{ℕ, Bool, map, nat_eq}
use Rattle.std.specs.List.{list_any}
use Rattle.jd_grammar.specs.Tables.{PlainTable, plain_run, production}
use Rattle.jd_jml_grammar.specs.declared.names.TheConstants.{STARTS}
use Rattle.jd_jml_grammar.specs.declared.rows.TheConstants.{ROWS, WIDTH, WEIGHTS, SOLID}
use Rattle.jd_jml_grammar.specs.declared.rules.TheConstants.{RULES, SYMBOLS}
use Rattle.jd_jml_grammar.specs.declared.run_symbols.TheConstants.{RUN_SYMBOLS}
use Rattle.jd_jml_grammar.specs.declared.runs.TheConstants.{RUNS, RUN_ORDER}

unfoldable pub jml : PlainTable
jml = record { productions = map (production SYMBOLS) RULES; rows = ROWS; width = WIDTH; starts = STARTS; weights = WEIGHTS; solid = SOLID; runs = map (plain_run RUN_ORDER RUN_SYMBOLS) RUNS }

-- a name that the JML of a whole place may be of
abbrev pub is_place : ℕ → Bool
is_place a = list_any (nat_eq a) STARTS

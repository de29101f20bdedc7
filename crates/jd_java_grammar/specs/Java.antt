-- The table of Java's files as plain data.
use Rattle.std.specs.Prelude.{map}
use Rattle.jd_grammar.specs.Tables.{PlainTable, plain_run, production}
use Rattle.jd_java_grammar.specs.declared.names.TheConstants.{STARTS}
use Rattle.jd_java_grammar.specs.declared.rows.TheConstants.{ROWS, WIDTH, WEIGHTS, SOLID}
use Rattle.jd_java_grammar.specs.declared.rules.TheConstants.{RULES, SYMBOLS}
use Rattle.jd_java_grammar.specs.declared.run_symbols.TheConstants.{RUN_SYMBOLS}
use Rattle.jd_java_grammar.specs.declared.runs.TheConstants.{RUNS, RUN_ORDER}

unfoldable pub java : PlainTable
java = record { productions = map (production SYMBOLS) RULES; rows = ROWS; width = WIDTH; starts = STARTS; weights = WEIGHTS; solid = SOLID; runs = map (plain_run RUN_ORDER RUN_SYMBOLS) RUNS }

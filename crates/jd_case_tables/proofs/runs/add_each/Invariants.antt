use Rattle.std.proofs.Common.{◌≡◌, ◌++◌, drop, map}
use Rattle.jd_jinfos.specs.Views.{method_number}
use Rattle.jd_case_tables.specs.Running.{run_view, runs_with}
use Rattle.jd_case_tables.proofs.runs.add_each.Given as goal

-- those so far, and those that are left
abbrev pub invariant-loop-m : goal.invariant-loop-m
invariant-loop-m l = map run_view l.to.items ++ runs_with l.class.0 (map method_number (drop l.m-index l.ms)) ≡ map run_view l.fn.to.items ++ runs_with l.class.0 (map method_number l.ms)

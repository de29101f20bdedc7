use Rattle.std.proofs.Common.{◌≡◌, ◌++◌, List, drop, filter, flat_map, map}
use Rattle.std.specs.Str.{bytes_eq}
use Rattle.jd_syntax.specs.JavaTrees.{JavaUnit}
use Rattle.jd_classes.specs.Tables.{AreTables}
use Rattle.jd_jinfos.specs.Views.{method_number}
use Rattle.jd_programs.specs.Members.{routine_name}
use Rattle.jd_jml_written.specs.Views.{case_view}
use Rattle.jd_jml_cases.specs.Trees.{cases_by, tree_view}
use Rattle.jd_jml_cases.proofs.inherited.add_named.Given as goal

-- those so far, and what the methods that are left add
abbrev pub invariant-loop-m : goal.invariant-loop-m
invariant-loop-m l = (units : List JavaUnit) → AreTables units l.p.classes.now
    → map case_view l.made.items ++ flat_map (cases_by (map tree_view l.p.trees.now)) (filter (λ k. bytes_eq (routine_name units k) l.name) (map method_number (drop l.m-index l.ms)))
    ≡ map case_view l.fn.made.items ++ flat_map (cases_by (map tree_view l.p.trees.now)) (filter (λ k. bytes_eq (routine_name units k) l.name) (map method_number l.ms))

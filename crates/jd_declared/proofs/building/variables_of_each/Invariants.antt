use Rattle.std.proofs.Common.{◌≡◌, ◌<◌, ℕ, List, length}
use Rattle.jd_syntax.specs.JavaTrees.{JavaUnit}
use Rattle.jd_classes.specs.Tables.{AreTables}
use Rattle.jd_declared.specs.Named.{first_named, value_at}
use Rattle.jd_declared.specs.Owned.{variables_of}
use Rattle.jd_declared.specs.Told.{own_value}
use Rattle.jd_declared.proofs.building.variables_of_each.Given as goal

-- the classes before this one are done
abbrev pub invariant-loop-class : goal.invariant-loop-class
invariant-loop-class l = record {
  count : length l.each.items ≡ l.class;
  done : (units : List JavaUnit) → AreTables units l.classes → (q : List ℕ) (c : ℕ) → c < l.class → own_value l.each.items q c ≡ first_named (variables_of units (value_at l.numbers) c) q;
}

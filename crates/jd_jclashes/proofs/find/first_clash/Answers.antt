use Rattle.std.proofs.Common.{ℕ, List, Option, length, map, sym, subst}
use Rattle.jd_ancestry.specs.Ancestors.{AreNodes}
use Rattle.jd_syntax.specs.JavaTrees.{unit_view}
use Rattle.jd_jclasses.specs.Members.{declared_members}
use Rattle.jd_jclashes.specs.Items.{HaveClassesBelow, HaveRisingClasses}
use Rattle.jd_jclashes.proofs.ClassNumbers.{are_nodes, classes_below, rising_members}
use Rattle.jd_jclashes.proofs.find.first_clash.Goals as goal

pub clash_among-requires-clause-nodes : goal.clash_among-requires-clause-nodes
clash_among-requires-clause-nodes c = subst AreNodes (sym c.requires.parents) (are_nodes (map unit_view c.args.units.now))

pub clash_among-requires-clause-rising : goal.clash_among-requires-clause-rising
clash_among-requires-clause-rising c = subst HaveRisingClasses (sym c.requires.members) (rising_members (map unit_view c.args.units.now))

pub clash_among-requires-clause-classes : goal.clash_among-requires-clause-classes
clash_among-requires-clause-classes c =
    let units = map unit_view c.args.units.now in
    subst (HaveClassesBelow (length c.args.parents.now)) (sym c.requires.members)
    (subst (λ (l : List (Option ℕ)). HaveClassesBelow (length l) (declared_members units)) (sym c.requires.parents) (classes_below units))

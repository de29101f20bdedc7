-- A proof's name and the nodes of its tree.
use Rattle.std.specs.Prelude.{map}
use Rattle.jd_sequent.specs.Steps.{node_view}
use Rattle.jd_scripts.specs.declared.proof.Proof.{Proof}
use Rattle.jd_script_print.specs.Writing.{NamedNodes}

abbrev pub named_nodes : Proof → NamedNodes
named_nodes p = (p.name.items, map node_view p.tree.nodes.items)

-- What the code's proofs stand for.
use Rattle.std.specs.Prelude.{ℕ, List, map}
use Rattle.jd_sequent.specs.Trees.{ProofTree, tree_of}
use Rattle.jd_sequent.specs.Steps.{node_view}
use Rattle.jd_scripts.specs.Scripts.{PlainProof}
use Rattle.jd_scripts.specs.declared.proof.Proof.{Proof}

abbrev pub proof_of : List ℕ → ProofTree → PlainProof
proof_of name tree = record { name = name; tree = tree }

abbrev pub proof_view : Proof → PlainProof
proof_view p = proof_of p.name.items (tree_of (map node_view p.tree.nodes.items))

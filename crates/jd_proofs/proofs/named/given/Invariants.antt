use Rattle.std.proofs.Common.{map}
use Rattle.jd_scripts.specs.ProofViews.{proof_view}
use Rattle.jd_proofs.specs.Answers.{trees_view}
use Rattle.jd_proofs.specs.Given.{names_view}
use Rattle.jd_proofs.proofs.Giving.{IsGiven}
use Rattle.jd_proofs.proofs.named.given.Given as goal

abbrev pub invariant-loop-proof : goal.invariant-loop-proof
invariant-loop-proof l =
    IsGiven (names_view l.names) (map proof_view l.fn.proofs.items) (map proof_view l.yielded) (map proof_view l.proof-iterator.rest.items) (trees_view l.trees.items)

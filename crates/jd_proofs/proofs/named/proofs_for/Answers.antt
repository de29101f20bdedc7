use Rattle.jd_bracketed.specs.Tokens.{tokens_of}
use Rattle.std.proofs.Common.{map}
use Rattle.jd_scripts.specs.ProofViews.{proof_view}
use Rattle.jd_proofs.specs.Given.{names_view}
use Rattle.jd_proofs.proofs.Answered.{answered}
use Rattle.jd_proofs.proofs.named.proofs_for.Goals as goal

pub returns-in-Ok : goal.returns-in-Ok
returns-in-Ok c =
    answered (names_view c.args.names.now) (tokens_of c.args.bytes.now) (map proof_view c.in-Ok.proofs.items) c.given.result c.in-Ok.ensures c.given.ensures.trees c.given.ensures.refused

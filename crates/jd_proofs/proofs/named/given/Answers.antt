use Rattle.std.proofs.Common.{sym, ap, ◌∙◌}
use Rattle.jd_scripts.specs.ProofViews.{proof_view}
use Rattle.jd_proofs.specs.Answers.{trees_view}
use Rattle.jd_proofs.specs.Outcomes.{UnknownObligation}
use Rattle.jd_proofs.specs.Given.{name_list, names_view}
use Rattle.jd_proofs.proofs.Giving.{gives_next, stops_next}
use Rattle.jd_proofs.proofs.named.given.Goals as goal

pub loop-proof-preserved : goal.loop-proof-preserved
loop-proof-preserved c =
    gives_next proof_view (names_view c.args.names.now) (name_list c.in_ok-places.places) c.args.proofs.items c.loop-proof.yielded c.loop-proof.proof-iterator.rest.items c.next.new.self.rest.items
    c.in-Some.proof (trees_view c.loop-proof.trees.items) (trees_view c.give.new.trees.items) c.requires.names c.requires.proofs c.in_ok-places.ensures c.in-Some.ensures.steps.0
    c.loop-proof.invariant c.in-Ok.ensures.given (sym c.in-Ok.ensures.known)

pub returns-in-Err-clause-refused : goal.returns-in-Err-clause-refused
returns-in-Err-clause-refused c =
    stops_next proof_view (names_view c.args.names.now) (name_list c.in_ok-places.places) c.args.proofs.items c.loop-proof.yielded c.loop-proof.proof-iterator.rest.items c.next.new.self.rest.items
    c.in-Some.proof (trees_view c.loop-proof.trees.items) c.in_ok-places.ensures c.in-Some.ensures.steps.0 c.loop-proof.invariant (sym c.in-Err.ensures.known)
    ∙ ap (λ name. UnknownObligation name.items) (sym c.in-Err.ensures.name)

use Rattle.std.proofs.Common.{Some, option_map, is_some, sym, ap, ◌∙◌}
use Rattle.std.proofs.lemmas.List.{length-map, map-set}
use Rattle.jd_scripts.specs.ProofViews.{proof_view}
use Rattle.jd_proofs.specs.Answers.{tree_view, trees_view}
use Rattle.jd_proofs.proofs.Giving.{put_found, is_known}
use Rattle.jd_proofs.proofs.named.give.Goals as goal

pub returns-clause-given : goal.returns-clause-given
returns-clause-given c =
    map-set (option_map tree_view) c.args.trees.now.items c.in-Some.place (Some c.args.proof.tree)
    ∙ put_found (proof_view c.args.proof) c.args.proof.name c.args.places.now.keys (trees_view c.args.trees.now.items) c.as_slice.result.now c.get_index_of.result c.in-Some.place
    c.as_slice.ensures.value c.get_index_of.ensures.index c.in-Some.is (length-map c.args.trees.now.items (option_map tree_view) ∙ c.requires)

pub returns-clause-known : goal.returns-clause-known
returns-clause-known c =
    sym (is_known c.args.proof.name.items c.as_slice.result.now c.args.places.now.keys c.get_index_of.result _ c.as_slice.ensures.value c.get_index_of.ensures.found (ap is_some c.in-Some.is))

pub returns-in_default-clause-known : goal.returns-in_default-clause-known
returns-in_default-clause-known c =
    sym (is_known c.args.proof.name.items c.as_slice.result.now c.args.places.now.keys c.get_index_of.result _ c.as_slice.ensures.value c.get_index_of.ensures.found (ap is_some c.in_default.is))

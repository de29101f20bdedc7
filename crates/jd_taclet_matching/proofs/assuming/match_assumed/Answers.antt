use Rattle.std.proofs.Common.{map, option_map, sym, ◌∙◌}
use Rattle.std.proofs.lemmas.List.{length-map}
use Rattle.jd_model.specs.Sequents.{place_view, sequent_view}
use Rattle.jd_schema_matching.specs.PartViews.{bindings}
use Rattle.jd_schema_trees.specs.TacletViews.{assumption}
use Rattle.jd_taclet_matching.proofs.AtPlaces.{none_assumed}
use Rattle.jd_taclet_matching.proofs.assuming.match_assumed.Goals as goal

pub returns-then-assumes-places : goal.returns-then-assumes-places
returns-then-assumes-places c =
    sym (none_assumed (sequent_view c.args.sequent.now) (option_map place_view c.args.own.now) (map assumption c.args.assumes.now) (map (option_map place_view) c.args.places.now) (bindings c.args.found.now)
    (λ e. c.if-assumes-places.true (sym (length-map c.args.assumes.now assumption) ∙ e ∙ length-map c.args.places.now (option_map place_view))))

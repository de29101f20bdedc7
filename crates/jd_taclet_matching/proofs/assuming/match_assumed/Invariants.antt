use Rattle.std.proofs.Common.{◌≡◌, drop, length, map, option_map}
use Rattle.jd_model.specs.Sequents.{place_view, sequent_view}
use Rattle.jd_schema_matching.specs.PartViews.{bindings}
use Rattle.jd_schema_matching.specs.Tested.{tests}
use Rattle.jd_schema_trees.specs.TacletViews.{assumption}
use Rattle.jd_taclet_stages.specs.Stages.{match_assumed}
use Rattle.jd_taclet_matching.proofs.assuming.match_assumed.Given as goal

abbrev pub invariant-loop-i : goal.invariant-loop-i
invariant-loop-i l =
    (length l.assumes ≡ length l.places)
    × (match_assumed tests (sequent_view l.sequent) (option_map place_view l.own) (map assumption (drop l.i l.assumes)) (map (option_map place_view) (drop l.i l.places)) (bindings l.found)
    ≡ match_assumed tests (sequent_view l.sequent) (option_map place_view l.own) (map assumption l.assumes) (map (option_map place_view) l.places) (bindings l.fn.found))

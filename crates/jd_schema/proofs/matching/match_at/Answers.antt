use Rattle.std.proofs.Common.{option_map, ◌≡◌}
use Rattle.std.proofs.lemmas.Result.{IfOk-weaker}
use Rattle.jd_model.specs.Places.{at_place}
use Rattle.jd_model.specs.Sequents.{place_view, sequent_view}
use Rattle.jd_schema.specs.Matches.{IsMatch, found_in}
use Rattle.jd_schema.specs.Parts.{insts_view}
use Rattle.jd_schema_trees.specs.TacletViews.{taclet}
use Rattle.jd_schema.proofs.Deciding.{is_match}
use Rattle.jd_schema.proofs.matching.match_at.Goals as goal

pub returns : goal.returns
returns c = λ p.
    IfOk-weaker _ (λ o. option_map insts_view o ≡ found_in (taclet c.args.row.now).find (at_place (sequent_view c.args.sequent.now) (place_view c.args.place.now))) (λ o. IsMatch p (taclet c.args.row.now).find (at_place (sequent_view c.args.sequent.now) (place_view c.args.place.now)) (option_map insts_view o))
    (λ o e. is_match p (taclet c.args.row.now).find (at_place (sequent_view c.args.sequent.now) (place_view c.args.place.now)) (option_map insts_view o) c.requires e) c.match_there.ensures

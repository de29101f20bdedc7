use Rattle.std.proofs.Common.{All, map, option_map, subst}
use Rattle.jd_model.specs.Sequents.{place_view, sequent_view}
use Rattle.jd_taclet_premises.proofs.Standing.{both_stand}
use Rattle.jd_taclet_premises.specs.Premises.{StandsIn}
use Rattle.jd_taclet_premises.specs.Views.{goal_view}
use Rattle.jd_taclet_premises.proofs.making.premises.Goals as goal

pub copied-requires : goal.copied-requires
copied-requires c =
    let stands = StandsIn (sequent_view c.args.sequent) (option_map (λ q. place_view q.now) c.args.place) in
    (both_stand stands c.pop.new.self.items c.in-Some.last (subst (λ l. All stands (map goal_view l)) c.in-Some.ensures.items c.requires)).0

pub premise-requires : goal.premise-requires
premise-requires c =
    let stands = StandsIn (sequent_view c.args.sequent) (option_map (λ q. place_view q.now) c.args.place) in
    (both_stand stands c.pop.new.self.items c.in-Some.last (subst (λ l. All stands (map goal_view l)) c.in-Some.ensures.items c.requires)).1

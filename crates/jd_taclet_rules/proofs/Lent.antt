-- A place that is lent is the place, and a row that is lent is the row.
use Rattle.std.proofs.Common.{Bor, None, Option, Some, ap, option_map, refl, ◌≡◌, ◌∙◌}
use Rattle.std.specs.Option.{option_copied}
use Rattle.jd_model.specs.Sequents.{place_view}
use Rattle.jd_model.specs.declared.sequent.Place.{Place}

lent : (o : Option (Bor Place)) → option_map (λ (q : Bor Place). place_view q.now) o ≡ option_map place_view (option_copied o)
lent None = refl
lent (Some q) = refl

pub same_place : (place : Option Place) (o : Option (Bor Place)) → option_copied o ≡ place → option_map (λ (q : Bor Place). place_view q.now) o ≡ option_map place_view place
same_place place o e = lent o ∙ ap (option_map place_view) e

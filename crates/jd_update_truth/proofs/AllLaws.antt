-- The laws.
use Rattle.std.proofs.Common.{[], refl}
use Rattle.jd_model.specs.Truth.{InvTruth}
use Rattle.jd_model.proofs.Modalities.{both_ways}
use Rattle.jd_update_truth.specs.UpdateLaws.{replaced, ReplacedValues, ReplacedLocations, PushedUnder, PushedUpdate, SimplifiedFormula, DeadPairsDropped}
use Rattle.jd_update_truth.proofs.Replacements.{replace_value, replace_within, replaced_holds}
use Rattle.jd_update_truth.proofs.Pushed.{push_truth, update_truth, live_truth}

pub replaced_values : ReplacedValues
replaced_values i s b q o t = replace_value i s (replaced i s b q) t b q (replaced_holds i s b q o)

pub replaced_locations : ReplacedLocations
replaced_locations i s b q o l x = replace_within i s (replaced i s b q) l b q (replaced_holds i s b q o) x

pub pushed_under : PushedUnder
pushed_under g d i s b q o a w = both_ways (push_truth g d (InvTruth g d) i a w s (replaced i s b q) b q (replaced_holds i s b q o))

pub pushed_update : PushedUpdate
pushed_update g d i s b u o a w = both_ways (update_truth g d (InvTruth g d) i u o a w s b)

pub simplified_formula : SimplifiedFormula
simplified_formula g d i s b a w = both_ways (push_truth g d (InvTruth g d) i a w s s b [] (λ x. refl))

pub dead_pairs_dropped : DeadPairsDropped
dead_pairs_dropped g d i s b u a = both_ways (live_truth g d (InvTruth g d) i u a s b)

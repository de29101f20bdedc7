use Rattle.std.proofs.Common.{◌≡◌, ◌+◌, ◌<◌, length, Some}
use Rattle.jd_ancestry.specs.Walks.{IsNumbered, ancestor}
use Rattle.jd_ancestry.proofs.numbering.number_from.Given as goal

abbrev pub invariant-loop-step : goal.invariant-loop-step
invariant-loop-step l = record {
  numbers : IsNumbered l.parents l.fn.depths l.depths l.start l.step (l.lowest + l.count);
  there : l.step < l.count → ancestor l.parents l.step l.start ≡ Some l.node;
  inside : l.node < length l.parents;
}

use Rattle.jd_components.specs.Numberings.{IsNumbering}
use Rattle.jd_components.proofs.numbering.number_by_first.Given as goal

abbrev pub invariant-loop-label : goal.invariant-loop-label
invariant-loop-label l = IsNumbering l.labels l.given.items l.numbers.items l.count l.label-index

-- What a clause says of a loop or of a class (JML Reference Manual, 8.2, 13.2).
use Rattle.std.specs.Prelude.{List, [], ◌∷◌}
use Rattle.jd_syntax.specs.SpecTrees.{PlainSpec, PlainLocation, PlainClause, Assignable, LoopInvariant, Decreases, Invariant}

abbrev pub loop_invariant_in : PlainClause → List PlainSpec
loop_invariant_in (LoopInvariant at e) = e ∷ []
loop_invariant_in c = []

abbrev pub measure_in : PlainClause → List PlainSpec
measure_in (Decreases at e) = e ∷ []
measure_in c = []

abbrev pub invariant_in : PlainClause → List PlainSpec
invariant_in (Invariant at e) = e ∷ []
invariant_in c = []

abbrev pub locations_in : PlainClause → List PlainLocation
locations_in (Assignable at ls) = ls
locations_in c = []

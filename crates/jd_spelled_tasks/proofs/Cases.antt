-- What holds of each clause of a declaration holds of those of each of its cases.
use Rattle.std.proofs.Common.{List, None, Option, Some, [], ◌∷◌}
use Rattle.std.specs.List.{AllByRecursion as Every}
use Rattle.jd_java_names.proofs.Every.{every_append}
use Rattle.jd_specifications.specs.WrittenCases.{cases_from, joined, more}
use Rattle.jd_syntax.specs.SpecTrees.{Also, Assignable, Behavior, Diverges, Ensures, ExceptionalBehavior, MeasuredBy, NormalBehavior, PlainClause, Requires, Signals, SignalsOnly}

module _ (P : PlainClause → Type 0) where
  abbrev MaybeEvery : Option (List PlainClause) → Type 0
  MaybeEvery None = Unit {0}
  MaybeEvery (Some cs) = Every P cs

  joined_every : (sofar : Option (List PlainClause)) (rest : List (List PlainClause)) → MaybeEvery sofar → Every (λ l. Every P l) rest → Every (λ l. Every P l) (joined sofar rest)
  joined_every None rest h g = g
  joined_every (Some cs) rest h g = (h, g)

  more_every : (sofar : Option (List PlainClause)) (c : PlainClause) → MaybeEvery sofar → P c → MaybeEvery (more sofar c)
  more_every None c h g = (g, tt)
  more_every (Some cs) c h g = every_append P cs (c ∷ []) h (g, tt)

  every_case : (sofar : Option (List PlainClause)) (cs : List PlainClause) → MaybeEvery sofar → Every P cs → Every (λ l. Every P l) (cases_from sofar cs)
  every_case sofar [] s h = joined_every sofar [] s tt
  every_case sofar (Also at ∷ cs) s h = joined_every sofar (cases_from None cs) s (every_case None cs tt h.1)
  every_case sofar (Requires at e ∷ cs) s h = every_case (more sofar (Requires at e)) cs (more_every sofar (Requires at e) s h.0) h.1
  every_case sofar (Ensures at e ∷ cs) s h = every_case (more sofar (Ensures at e)) cs (more_every sofar (Ensures at e) s h.0) h.1
  every_case sofar (Signals at c x e ∷ cs) s h = every_case (more sofar (Signals at c x e)) cs (more_every sofar (Signals at c x e) s h.0) h.1
  every_case sofar (SignalsOnly at xs ∷ cs) s h = every_case (more sofar (SignalsOnly at xs)) cs (more_every sofar (SignalsOnly at xs) s h.0) h.1
  every_case sofar (Assignable at ls ∷ cs) s h = every_case (more sofar (Assignable at ls)) cs (more_every sofar (Assignable at ls) s h.0) h.1
  every_case sofar (MeasuredBy at e ∷ cs) s h = every_case (more sofar (MeasuredBy at e)) cs (more_every sofar (MeasuredBy at e) s h.0) h.1
  every_case sofar (Diverges at b ∷ cs) s h = every_case (more sofar (Diverges at b)) cs (more_every sofar (Diverges at b) s h.0) h.1
  every_case sofar (NormalBehavior at ∷ cs) s h = every_case (more sofar (NormalBehavior at)) cs (more_every sofar (NormalBehavior at) s h.0) h.1
  every_case sofar (ExceptionalBehavior at ∷ cs) s h = every_case (more sofar (ExceptionalBehavior at)) cs (more_every sofar (ExceptionalBehavior at) s h.0) h.1
  every_case sofar (Behavior at ∷ cs) s h = every_case (more sofar (Behavior at)) cs (more_every sofar (Behavior at) s h.0) h.1
  every_case sofar (c ∷ cs) s h = every_case sofar cs s h.1

  pub each_case : (cs : List PlainClause) → Every P cs → Every (λ l. Every P l) (cases_from None cs)
  each_case cs h = every_case None cs tt h

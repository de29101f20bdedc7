-- What one clause says of a case.
use Rattle.std.specs.Prelude.{Bool, Option, Some, None}
use Rattle.jd_syntax.specs.SpecTrees.{PlainClause, Diverges, NormalBehavior, ExceptionalBehavior}
use Rattle.jd_model.specs.Cases.{Behaviour, NormalOnly, ExceptionalOnly}

abbrev pub behaviour_in : PlainClause → Option Behaviour
behaviour_in (NormalBehavior at) = Some NormalOnly
behaviour_in (ExceptionalBehavior at) = Some ExceptionalOnly
behaviour_in c = None

abbrev pub diverges_in : PlainClause → Option Bool
diverges_in (Diverges at b) = Some b
diverges_in c = None

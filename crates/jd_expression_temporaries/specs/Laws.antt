-- What is made of an expression adds temporaries alone.
use Rattle.std.specs.Prelude.{List}
use Rattle.jd_syntax.specs.JavaTrees.{JavaExpr}
use Rattle.jd_bodies.specs.declared.place.Place.{Place}
use Rattle.jd_bodies.specs.Codes.{code_of}
use Rattle.jd_bodies.specs.Declarations.{Declarations}
use Rattle.jd_bodies.specs.Scopes.{Local}
use Rattle.jd_bodies.specs.Variables.{Progress}
use Rattle.jd_expression_temporaries.specs.Growing.{Grows}

abbrev pub ExpressionsAddTemporaries : Type 0
ExpressionsAddTemporaries = (d : Declarations) (place : Place) (locals : List Local) (e : JavaExpr) (p : Progress) → Grows p (code_of d place locals e p).0

-- That a field of `this` is not null.
use Rattle.jd_syntax.specs.JavaTypes.{PlainIdentifier}
use Rattle.jd_syntax.specs.SpecTrees.{PlainSpec, Infix, Field, This, Null}
use Rattle.jd_syntax.specs.declared.java.InfixOperator.TheVariants as operators

-- `this.x != null`, at the place of the field's name
abbrev pub not_null : PlainIdentifier → PlainSpec
not_null x = Infix x.at operators.NotEqual (Field x.at (This x.at) x) (Null x.at)

-- What a value is as a part of a node; something else where it is none of the kind that the node has there.
use Rattle.std.specs.Prelude.{Bool, true, false, List, [], Option, Some, None}
use Rattle.jd_syntax.specs.JavaTypes.{PlainIdentifier, PlainWritten, IntType}
use Rattle.jd_syntax.specs.SpecTrees as jml
use Rattle.jd_syntax.specs.SpecTrees.{PlainSpec, PlainSpecType, BigInt, Java, PlainLocation, PlainClause}
use Rattle.jd_jml_values.specs.Values.{PlainSuffix, PlainEnd, AllFieldsEnd, PlainValue, Expression, Suffixes, Expressions, Named, Typed, Dimension, Steps, Locations, Clauses, Names}

abbrev pub expression_of : PlainValue → PlainSpec
expression_of (Expression e) = e
expression_of _ = jml.Null 0

abbrev pub some_expression : PlainValue → Option PlainSpec
some_expression (Expression e) = Some e
some_expression _ = None

abbrev pub suffixes_of : PlainValue → List PlainSuffix
suffixes_of (Suffixes ss) = ss
suffixes_of _ = []

abbrev pub expressions_of : PlainValue → List PlainSpec
expressions_of (Expressions es) = es
expressions_of _ = []

-- the arguments of a call
abbrev pub arguments_of : PlainValue → Option (List PlainSpec)
arguments_of (Expressions es) = Some es
arguments_of _ = None

abbrev pub name_of : PlainValue → PlainIdentifier
name_of (Named x) = x
name_of _ = record { at = 0; name = [] }

abbrev pub some_name : PlainValue → Option PlainIdentifier
some_name (Named x) = Some x
some_name _ = None

abbrev pub type_of : PlainValue → PlainWritten
type_of (Typed t) = t
type_of _ = record { at = 0; written = IntType }

-- the type of a bound variable
abbrev pub bound_type_of : PlainValue → PlainSpecType
bound_type_of (Typed t) = Java t
bound_type_of _ = BigInt

abbrev pub is_dimension : PlainValue → Bool
is_dimension Dimension = true
is_dimension _ = false

abbrev pub steps_of : PlainValue → List PlainSuffix
steps_of (Steps ss end) = ss
steps_of _ = []

abbrev pub end_of : PlainValue → PlainEnd
end_of (Steps ss end) = end
end_of _ = AllFieldsEnd

abbrev pub locations_of : PlainValue → List PlainLocation
locations_of (Locations ls) = ls
locations_of _ = []

abbrev pub clauses_of : PlainValue → List PlainClause
clauses_of (Clauses cs) = cs
clauses_of _ = []

abbrev pub names_of : PlainValue → List PlainIdentifier
names_of (Names xs) = xs
names_of _ = []

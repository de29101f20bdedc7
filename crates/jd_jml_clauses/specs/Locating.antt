-- Locations, from their operands and what stands behind those.
use Rattle.std.specs.Prelude.{ℕ, List, [], ◌∷◌, Some, None}
use Rattle.jd_syntax.specs.JavaTypes.{PlainIdentifier}
use Rattle.jd_syntax.specs.SpecTrees.{PlainSpec, PlainLocation, OwnField, FieldOf, AllFields, Element, Range, AllElements}
use Rattle.jd_jml_values.specs.Values as values
use Rattle.jd_jml_values.specs.Values.{PlainSuffix, PlainEnd, FieldEnd, AllFieldsEnd, ElementEnd, RangeEnd, AllElementsEnd, PlainValue, Steps, Invoked, Bound}
use Rattle.jd_jml_expressions.specs.Applying.{all_applied, named}

-- the location that begins at that place and ends so behind its operand
abbrev pub location : ℕ → PlainSpec → PlainEnd → PlainLocation
location at e (FieldEnd x) = FieldOf at e x
location at e AllFieldsEnd = AllFields at e
location at e (ElementEnd i) = Element at e i
location at e (RangeEnd i j) = Range at e i j
location at e AllElementsEnd = AllElements at e

-- with members and elements before the end
abbrev pub located : ℕ → PlainSpec → List PlainSuffix → PlainEnd → PlainLocation
located at e ss end = location at (all_applied e ss) end

-- a name alone, which is a field's; else a variable, or a call, with what stands behind it
abbrev pub named_location : PlainIdentifier → PlainValue → PlainLocation
named_location x (Steps ss end) = located x.at (named x None) ss end
named_location x (Invoked es ss end) = located x.at (named x (Some es)) ss end
named_location x _ = OwnField x.at x.name

-- a member, and what stands behind it
abbrev pub member_step : PlainIdentifier → PlainValue → PlainValue
member_step x (Steps ss end) = Steps (values.Member x ∷ ss) end
member_step x (Invoked es ss end) = Steps (values.Method x es ∷ ss) end
member_step x _ = Steps [] (FieldEnd x)

-- an index, and what stands behind it
abbrev pub index_step : PlainSpec → PlainValue → PlainValue
index_step i (Steps ss end) = Steps (values.Element i ∷ ss) end
index_step i (Bound j) = Steps [] (RangeEnd i j)
index_step i _ = Steps [] (ElementEnd i)

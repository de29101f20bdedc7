-- What the code's values show. Of a list the last part comes first in the code.
use Rattle.std.specs.Prelude.{◌≡◌, List, [], map, reverse, IfOk}
use Rattle.std.specs.declared.result.Result.{Result}
use Rattle.std.specs.declared.vec.Vec.{Vec}
use Rattle.std.specs.declared.boxed.Box.{Box}
use Rattle.std.specs.declared.alloc.Global.{Global}
use Rattle.jd_base.specs.declared.memory.NoMemory.{NoMemory}
use Rattle.jd_grammar.specs.declared.piles.NodeParts.{NodeParts}
use Rattle.jd_syntax.specs.JavaTypes.{identifier_view, written_view}
use Rattle.jd_syntax.specs.SpecTrees.{PlainSpec, spec_view, spec_type_view, location_view, clause_view}
use Rattle.jd_syntax.specs.declared.spec.SpecExpr.{SpecExpr}
use Rattle.jd_jml_values.specs.declared.values.Suffix.{Suffix}
use Rattle.jd_jml_values.specs.declared.values.Suffix.TheVariants as suffixes
use Rattle.jd_jml_values.specs.declared.values.Start.{Start}
use Rattle.jd_jml_values.specs.declared.values.Start.TheVariants as starts
use Rattle.jd_jml_values.specs.declared.values.End.{End}
use Rattle.jd_jml_values.specs.declared.values.End.TheVariants as ends
use Rattle.jd_jml_values.specs.declared.values.Value.{Value}
use Rattle.jd_jml_values.specs.declared.values.Value.TheVariants as values
use Rattle.jd_jml_values.specs.Values.{PlainSuffix, Infix, InstanceOf, Choice, Implies, Equivalent, Member, Method, Element, PlainStart, Inside, Cast, Quantified, QuantifiedIn, Sum, PlainEnd, FieldEnd, AllFieldsEnd, ElementEnd, RangeEnd, AllElementsEnd, PlainValue, Nothing, Expression, Suffixes, Started, ArrayOperand, Expressions, Named, Typed, Dimension, BigInteger, Steps, Invoked, Bound, Locations, Clauses, Names}

-- a list whose last part comes first
abbrev pub backwards : {A B : Type 0} → (A → B) → Vec A Global → List B
backwards view xs = reverse (map view xs.items)

abbrev pub in_order : {A B : Type 0} → (A → B) → Vec A Global → List B
in_order view xs = map view xs.items

-- an expression in a box
abbrev pub boxed_view : Box SpecExpr Global → PlainSpec
boxed_view e = spec_view e.value

abbrev pub suffix_view : Suffix → PlainSuffix
suffix_view (suffixes.Infix o e) = Infix o (boxed_view e)
suffix_view (suffixes.InstanceOf t) = InstanceOf (written_view t)
suffix_view (suffixes.Choice a b) = Choice (boxed_view a) (boxed_view b)
suffix_view (suffixes.Implies e) = Implies (boxed_view e)
suffix_view (suffixes.Equivalent e) = Equivalent (boxed_view e)
suffix_view (suffixes.Member x) = Member (identifier_view x)
suffix_view (suffixes.Method x es) = Method (identifier_view x) (in_order spec_view es)
suffix_view (suffixes.Element e) = Element (boxed_view e)

abbrev pub start_view : Start → PlainStart
start_view (starts.Inside e) = Inside (boxed_view e)
start_view (starts.Cast t e) = Cast (written_view t) (boxed_view e)
start_view (starts.Quantified q t x e) = Quantified q (spec_type_view t) (identifier_view x) (boxed_view e)
start_view (starts.QuantifiedIn q t x r e) = QuantifiedIn q (spec_type_view t) (identifier_view x) (boxed_view r) (boxed_view e)
start_view (starts.Sum x a b e) = Sum (identifier_view x) (boxed_view a) (boxed_view b) (boxed_view e)

abbrev pub end_view : End → PlainEnd
end_view (ends.Field x) = FieldEnd (identifier_view x)
end_view ends.AllFields = AllFieldsEnd
end_view (ends.Element i) = ElementEnd (boxed_view i)
end_view (ends.Range i j) = RangeEnd (boxed_view i) (boxed_view j)
end_view ends.AllElements = AllElementsEnd

abbrev pub value_view : Value → PlainValue
value_view values.Nothing = Nothing
value_view (values.Expression e) = Expression (boxed_view e)
value_view values.NoSuffixes = Suffixes []
value_view (values.Suffixes ss) = Suffixes (backwards suffix_view ss)
value_view (values.Started s ss) = Started (start_view s) (backwards suffix_view ss)
value_view (values.ArrayOperand e) = ArrayOperand (boxed_view e)
value_view (values.Expressions es) = Expressions (backwards spec_view es)
value_view (values.Named x) = Named (identifier_view x)
value_view (values.Typed t) = Typed (written_view t)
value_view values.Dimension = Dimension
value_view values.BigInteger = BigInteger
value_view (values.Steps ss end) = Steps (backwards suffix_view ss) (end_view end)
value_view (values.Invoked es ss end) = Invoked (backwards spec_view es) (backwards suffix_view ss) (end_view end)
value_view (values.Bound e) = Bound (boxed_view e)
value_view (values.Locations ls) = Locations (backwards location_view ls)
value_view (values.Clauses cs) = Clauses (backwards clause_view cs)
value_view (values.Names xs) = Names (backwards identifier_view xs)

abbrev pub parts_view : NodeParts Value → NodeParts PlainValue
parts_view parts = record { first = value_view parts.first; second = value_view parts.second; third = value_view parts.third; fourth = value_view parts.fourth }

-- where memory does not run out, the result shows this
abbrev pub Gives : {A B : Type 0} → (A → B) → Result A NoMemory → B → Type 0
Gives view r x = IfOk r (λ v. view v ≡ x)

-- Values whose literals fit, and what they are as parts of nodes.
use Rattle.std.proofs.Common.{List, None, Option, Some, [], ◌∷◌}
use Rattle.std.specs.List.{AllByRecursion as Every}
use Rattle.jd_grammar.specs.Nodes.{all_of, filled}
use Rattle.jd_grammar.specs.declared.piles.NodeParts.{NodeParts}
use Rattle.jd_jml_literals.specs.Fitting.{ClauseFits, LocationFits, SpecFits}
use Rattle.jd_jml_values.specs.Parts.{arguments_of, clauses_of, end_of, expression_of, expressions_of, locations_of, some_expression, steps_of, suffixes_of}
use Rattle.jd_jml_values.specs.Values as values
use Rattle.jd_jml_values.specs.Values.{Nothing, PlainEnd, PlainStart, PlainSuffix, PlainValue}
use Rattle.jd_syntax.specs.SpecTrees.{PlainSpec}

abbrev pub SuffixFits : PlainSuffix → Type 0
SuffixFits (values.Infix o r) = SpecFits r
SuffixFits (values.InstanceOf t) = Unit {0}
SuffixFits (values.Choice a b) = SpecFits a × SpecFits b
SuffixFits (values.Implies r) = SpecFits r
SuffixFits (values.Equivalent r) = SpecFits r
SuffixFits (values.Member x) = Unit {0}
SuffixFits (values.Method x es) = Every SpecFits es
SuffixFits (values.Element i) = SpecFits i

abbrev pub StartFits : PlainStart → Type 0
StartFits (values.Inside e) = SpecFits e
StartFits (values.Cast t e) = SpecFits e
StartFits (values.Quantified q t x e) = SpecFits e
StartFits (values.QuantifiedIn q t x r e) = SpecFits r × SpecFits e
StartFits (values.Sum x a b e) = SpecFits a × SpecFits b × SpecFits e

abbrev pub EndFits : PlainEnd → Type 0
EndFits (values.FieldEnd x) = Unit {0}
EndFits values.AllFieldsEnd = Unit {0}
EndFits (values.ElementEnd i) = SpecFits i
EndFits (values.RangeEnd i j) = SpecFits i × SpecFits j
EndFits values.AllElementsEnd = Unit {0}

abbrev pub ValueFits : PlainValue → Type 0
ValueFits (values.Expression e) = SpecFits e
ValueFits (values.Suffixes ss) = Every SuffixFits ss
ValueFits (values.Started s ss) = StartFits s × Every SuffixFits ss
ValueFits (values.ArrayOperand e) = SpecFits e
ValueFits (values.Expressions es) = Every SpecFits es
ValueFits (values.Steps ss end) = Every SuffixFits ss × EndFits end
ValueFits (values.Invoked es ss end) = Every SpecFits es × Every SuffixFits ss × EndFits end
ValueFits (values.Bound e) = SpecFits e
ValueFits (values.Locations ls) = Every LocationFits ls
ValueFits (values.Clauses cs) = Every ClauseFits cs
ValueFits v = Unit {0}

-- ---- parts

pub record PartsFit (parts : NodeParts PlainValue) : Type 0 where
  pub first : ValueFits parts.first
  pub second : ValueFits parts.second
  pub third : ValueFits parts.third
  pub fourth : ValueFits parts.fourth

pub parts_fit : (vs : List PlainValue) → Every ValueFits vs → PartsFit (filled (all_of Nothing) vs)
parts_fit [] h = record { first = tt; second = tt; third = tt; fourth = tt }
parts_fit (a ∷ []) h = record { first = h.0; second = tt; third = tt; fourth = tt }
parts_fit (a ∷ b ∷ []) h = record { first = h.0; second = h.1.0; third = tt; fourth = tt }
parts_fit (a ∷ b ∷ c ∷ []) h = record { first = h.0; second = h.1.0; third = h.1.1.0; fourth = tt }
parts_fit (a ∷ b ∷ c ∷ d ∷ more) h = record { first = h.0; second = h.1.0; third = h.1.1.0; fourth = h.1.1.1.0 }

pub expression_part : (v : PlainValue) → ValueFits v → SpecFits (expression_of v)
expression_part (values.Expression e) h = h
expression_part v h = tt

abbrev pub MaybeFits : Option PlainSpec → Type 0
MaybeFits None = Unit {0}
MaybeFits (Some e) = SpecFits e

pub some_expression_part : (v : PlainValue) → ValueFits v → MaybeFits (some_expression v)
some_expression_part (values.Expression e) h = h
some_expression_part v h = tt

pub suffixes_part : (v : PlainValue) → ValueFits v → Every SuffixFits (suffixes_of v)
suffixes_part (values.Suffixes ss) h = h
suffixes_part v h = tt

pub expressions_part : (v : PlainValue) → ValueFits v → Every SpecFits (expressions_of v)
expressions_part (values.Expressions es) h = h
expressions_part v h = tt

abbrev pub MaybeAllFit : Option (List PlainSpec) → Type 0
MaybeAllFit None = Unit {0}
MaybeAllFit (Some es) = Every SpecFits es

pub arguments_part : (v : PlainValue) → ValueFits v → MaybeAllFit (arguments_of v)
arguments_part (values.Expressions es) h = h
arguments_part v h = tt

pub steps_part : (v : PlainValue) → ValueFits v → Every SuffixFits (steps_of v)
steps_part (values.Steps ss end) h = h.0
steps_part v h = tt

pub end_part : (v : PlainValue) → ValueFits v → EndFits (end_of v)
end_part (values.Steps ss end) h = h.1
end_part v h = tt

pub locations_part : (v : PlainValue) → ValueFits v → Every LocationFits (locations_of v)
locations_part (values.Locations ls) h = h
locations_part v h = tt

pub clauses_part : (v : PlainValue) → ValueFits v → Every ClauseFits (clauses_of v)
clauses_part (values.Clauses cs) h = h
clauses_part v h = tt

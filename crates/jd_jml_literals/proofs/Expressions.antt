-- Nodes of expressions have literals that fit where their parts have, and where the first of their tokens is one that does.
use Rattle.std.proofs.Common.{List, None, Option, Some, [], ◌∷◌, ℕ}
use Rattle.std.specs.List.{AllByRecursion as Every}
use Rattle.jd_grammar.specs.declared.piles.NodeParts.{NodeParts}
use Rattle.jd_java_names.proofs.Every.{every_append}
use Rattle.jd_jml_expressions.specs.Applying.{all_applied, applied, begun, halves, joined, named, quantified, sum}
use Rattle.jd_jml_expressions.specs.Meaning.{begun_at, followed, int_cast, meaning, parenthesis}
use Rattle.jd_jml_expressions.specs.declared.action.Action.{Action}
use Rattle.jd_jml_expressions.specs.declared.action.Action.TheVariants as actions
use Rattle.jd_jml_literals.proofs.Values.{MaybeAllFit, MaybeFits, PartsFit, StartFits, SuffixFits, ValueFits, arguments_part, expression_part, expressions_part, some_expression_part, suffixes_part}
use Rattle.jd_jml_literals.specs.Fitting.{LiteralFits, SpecFits, SpecsFit}
use Rattle.jd_jml_tokens.specs.Lexemes.{PlainLexeme, number_of, place_of}
use Rattle.jd_jml_values.specs.Parts.{arguments_of, bound_type_of, expression_of, name_of, some_expression, suffixes_of}
use Rattle.jd_jml_values.specs.Values as values
use Rattle.jd_jml_values.specs.Values.{PlainStart, PlainSuffix, PlainValue}
use Rattle.jd_syntax.specs.JavaTypes.{PlainIdentifier}
use Rattle.jd_syntax.specs.SpecTrees as jml
use Rattle.jd_syntax.specs.SpecTrees.{PlainSpec, PlainSpecType, specs_of}
use Rattle.jd_syntax.specs.declared.spec.Quantifier.{Quantifier}

specs_fit : (es : List PlainSpec) → Every SpecFits es → SpecsFit (specs_of es)
specs_fit [] h = tt
specs_fit (e ∷ es) h = (h.0, specs_fit es h.1)

-- ---- operands with what stands behind them

applied_fits : (e : PlainSpec) (s : PlainSuffix) → SpecFits e → SuffixFits s → SpecFits (applied e s)
applied_fits e (values.Infix o r) h g = (h, g)
applied_fits e (values.InstanceOf t) h g = h
applied_fits e (values.Choice a b) h g = (h, g.0, g.1)
applied_fits e (values.Implies r) h g = (h, g)
applied_fits e (values.Equivalent r) h g = (h, g)
applied_fits e (values.Member x) h g = h
applied_fits e (values.Method x es) h g = (h, specs_fit es g)
applied_fits e (values.Element i) h g = (h, g)

pub all_applied_fit : (e : PlainSpec) (ss : List PlainSuffix) → SpecFits e → Every SuffixFits ss → SpecFits (all_applied e ss)
all_applied_fit e [] h g = h
all_applied_fit e (s ∷ ss) h g = all_applied_fit (applied e s) ss (applied_fits e s h g.0) g.1

pub named_fits : (x : PlainIdentifier) (o : Option (List PlainSpec)) → MaybeAllFit o → SpecFits (named x o)
named_fits x None h = tt
named_fits x (Some es) h = specs_fit es h

joined_fits : (x : PlainIdentifier) (o : Option (List PlainSpec)) → MaybeAllFit o → SuffixFits (joined x o)
joined_fits x None h = tt
joined_fits x (Some es) h = h

begun_fits : (at : ℕ) (s : PlainStart) → StartFits s → SpecFits (begun at s)
begun_fits at (values.Inside e) h = h
begun_fits at (values.Cast t e) h = h
begun_fits at (values.Quantified q t x e) h = h
begun_fits at (values.QuantifiedIn q t x r e) h = h
begun_fits at (values.Sum x a b e) h = h

pub begun_at_fits : (at : ℕ) (v : PlainValue) → ValueFits v → SpecFits (begun_at at v)
begun_at_fits at (values.Started s ss) h = all_applied_fit (begun at s) ss (begun_fits at s h.0) h.1
begun_at_fits at v h = tt

quantified_fits : (q : Quantifier) (t : PlainSpecType) (x : PlainIdentifier) (e : PlainSpec) (o : Option PlainSpec) → SpecFits e → MaybeFits o → StartFits (quantified q t x e o)
quantified_fits q t x e None h g = h
quantified_fits q t x e (Some r) h g = (h, g)

halves_fit : (e : PlainSpec) → SpecFits e → SpecFits (halves e).0 × SpecFits (halves e).1
halves_fit (jml.Infix at o a b) h = h
halves_fit e h = (h, tt)

sum_fits : (x : PlainIdentifier) (range e : PlainSpec) → SpecFits range → SpecFits e → StartFits (sum x range e)
sum_fits x range e h g =
    let both = halves_fit range h in
    ((halves_fit (halves range).0 both.0).0, (halves_fit (halves range).1 both.1).1, g)

-- ---- what stands behind `(`

parenthesis_fits : (e : PlainSpec) (v : PlainValue) → SpecFits e → ValueFits v → ValueFits (parenthesis e v)
parenthesis_fits e (values.Expression operand) h g = (g, tt)
parenthesis_fits e (values.Suffixes ss) h g = (h, g)
parenthesis_fits e v h g = (h, tt)

cast_fits : (ts : List PlainLexeme) (v : PlainValue) → ValueFits v → ValueFits (int_cast ts v)
cast_fits ts (values.ArrayOperand e) h = (h, tt)
cast_fits ts (values.Expression e) h = (h, tt)
cast_fits ts v h = (tt, tt)

followed_fits : (v : PlainValue) (more : List PlainSuffix) → ValueFits v → Every SuffixFits more → ValueFits (followed v more)
followed_fits (values.Started s ss) more h g = (h.0, every_append SuffixFits ss more h.1 g)
followed_fits v more h g = tt

-- ---- actions

pub acts : (a : Action) (ts : List PlainLexeme) (parts : NodeParts PlainValue) → PartsFit parts → LiteralFits (number_of ts) → ValueFits (meaning a ts parts)
acts actions.Nothing ts parts g n = tt
acts actions.First ts parts g n = g.first
acts actions.Identifier ts parts g n = tt
acts actions.Dimension ts parts g n = tt
acts actions.BigInteger ts parts g n = tt
acts actions.IntType ts parts g n = tt
acts actions.BooleanType ts parts g n = tt
acts actions.ArrayType ts parts g n = tt
acts actions.ClassType ts parts g n = tt
acts actions.Number ts parts g n = n
acts (actions.Boolean b) ts parts g n = tt
acts actions.Null ts parts g n = tt
acts actions.This ts parts g n = tt
acts actions.Result ts parts g n = tt
acts actions.Old ts parts g n = expression_part parts.first g.first
acts actions.Fresh ts parts g n = expression_part parts.first g.first
acts actions.InvariantFor ts parts g n = expression_part parts.first g.first
acts actions.Operand ts parts g n = all_applied_fit (expression_of parts.first) (suffixes_of parts.second) (expression_part parts.first g.first) (suffixes_part parts.second g.second)
acts actions.Name ts parts g n =
    all_applied_fit (named (name_of parts.first) (arguments_of parts.second)) (suffixes_of parts.third)
    (named_fits (name_of parts.first) (arguments_of parts.second) (arguments_part parts.second g.second)) (suffixes_part parts.third g.third)
acts actions.Begun ts parts g n = begun_at_fits (place_of 0 ts) parts.first g.first
acts (actions.Prefix op) ts parts g n = expression_part parts.first g.first
acts actions.NoSuffixes ts parts g n = tt
acts (actions.Infix op) ts parts g n = (expression_part parts.first g.first, suffixes_part parts.second g.second)
acts actions.InstanceOf ts parts g n = (tt, suffixes_part parts.second g.second)
acts actions.Choice ts parts g n = ((expression_part parts.first g.first, expression_part parts.second g.second), tt)
acts actions.Implies ts parts g n = (expression_part parts.first g.first, tt)
acts actions.Equivalent ts parts g n = (expression_part parts.first g.first, suffixes_part parts.second g.second)
acts actions.Member ts parts g n = (joined_fits (name_of parts.first) (arguments_of parts.second) (arguments_part parts.second g.second), suffixes_part parts.third g.third)
acts actions.Element ts parts g n = (expression_part parts.first g.first, suffixes_part parts.second g.second)
acts actions.Parenthesis ts parts g n = parenthesis_fits (expression_of parts.first) parts.second (expression_part parts.first g.first) g.second
acts actions.IntCast ts parts g n = cast_fits ts parts.first g.first
acts actions.BooleanCast ts parts g n = (expression_part parts.first g.first, tt)
acts actions.ArrayOperand ts parts g n = expression_part parts.first g.first
acts actions.Followed ts parts g n = followed_fits parts.first (suffixes_of parts.second) g.first (suffixes_part parts.second g.second)
acts (actions.Quantified q) ts parts g n =
    (quantified_fits q (bound_type_of parts.first) (name_of parts.second) (expression_of parts.third) (some_expression parts.fourth) (expression_part parts.third g.third) (some_expression_part parts.fourth g.fourth), tt)
acts actions.Sum ts parts g n = (sum_fits (name_of parts.first) (expression_of parts.second) (expression_of parts.third) (expression_part parts.second g.second) (expression_part parts.third g.third), tt)
acts actions.NoExpressions ts parts g n = tt
acts actions.Expressions ts parts g n = (expression_part parts.first g.first, expressions_part parts.second g.second)

-- Nodes of clauses and locations have literals that fit where their parts have.
use Rattle.std.proofs.Common.{List, None, Some, ◌++◌, ℕ}
use Rattle.std.specs.List.{AllByRecursion as Every}
use Rattle.jd_grammar.specs.declared.piles.NodeParts.{NodeParts}
use Rattle.jd_java_names.proofs.Every.{every_append}
use Rattle.jd_jml_clauses.specs.Locating.{index_step, located, location, member_step, named_location}
use Rattle.jd_jml_clauses.specs.Meaning.{all_clauses, asserted, meaning, word}
use Rattle.jd_jml_clauses.specs.declared.action.Action.{Action}
use Rattle.jd_jml_clauses.specs.declared.action.Action.TheVariants as actions
use Rattle.jd_jml_clauses.specs.declared.action.Assertion.{Assertion}
use Rattle.jd_jml_clauses.specs.declared.action.Assertion.TheVariants as assertions
use Rattle.jd_jml_clauses.specs.declared.action.Word.{Word}
use Rattle.jd_jml_clauses.specs.declared.action.Word.TheVariants as words
use Rattle.jd_jml_expressions.specs.Applying.{all_applied, named}
use Rattle.jd_jml_expressions.specs.Meaning.{begun_at}
use Rattle.jd_jml_literals.proofs.Expressions.{all_applied_fit, begun_at_fits, named_fits}
use Rattle.jd_jml_literals.proofs.Values.{EndFits, PartsFit, SuffixFits, ValueFits, clauses_part, end_part, expression_part, expressions_part, locations_part, steps_part}
use Rattle.jd_jml_literals.specs.Fitting.{ClauseFits, LocationFits, SpecFits}
use Rattle.jd_jml_tokens.specs.Lexemes.{PlainLexeme, place_of}
use Rattle.jd_jml_values.specs.Parts.{clauses_of, end_of, expression_of, locations_of, name_of, steps_of}
use Rattle.jd_jml_values.specs.Values as values
use Rattle.jd_jml_values.specs.Values.{PlainEnd, PlainSuffix, PlainValue}
use Rattle.jd_syntax.specs.JavaTypes.{PlainIdentifier}
use Rattle.jd_syntax.specs.SpecTrees.{PlainSpec}

-- ---- locations

location_fits : (at : ℕ) (e : PlainSpec) (end : PlainEnd) → SpecFits e → EndFits end → LocationFits (location at e end)
location_fits at e (values.FieldEnd x) h g = h
location_fits at e values.AllFieldsEnd h g = h
location_fits at e (values.ElementEnd i) h g = (h, g)
location_fits at e (values.RangeEnd i j) h g = (h, g.0, g.1)
location_fits at e values.AllElementsEnd h g = h

located_fits : (at : ℕ) (e : PlainSpec) (ss : List PlainSuffix) (end : PlainEnd) → SpecFits e → Every SuffixFits ss → EndFits end → LocationFits (located at e ss end)
located_fits at e ss end h g f = location_fits at (all_applied e ss) end (all_applied_fit e ss h g) f

named_location_fits : (x : PlainIdentifier) (v : PlainValue) → ValueFits v → LocationFits (named_location x v)
named_location_fits x (values.Steps ss end) h = located_fits x.at (named x None) ss end (named_fits x None tt) h.0 h.1
named_location_fits x (values.Invoked es ss end) h = located_fits x.at (named x (Some es)) ss end (named_fits x (Some es) h.0) h.1 h.2
named_location_fits x v h = tt

member_fits : (x : PlainIdentifier) (v : PlainValue) → ValueFits v → ValueFits (member_step x v)
member_fits x (values.Steps ss end) h = ((tt, h.0), h.1)
member_fits x (values.Invoked es ss end) h = ((h.0, h.1), h.2)
member_fits x v h = (tt, tt)

index_fits : (i : PlainSpec) (v : PlainValue) → SpecFits i → ValueFits v → ValueFits (index_step i v)
index_fits i (values.Steps ss end) h g = ((h, g.0), g.1)
index_fits i (values.Bound j) h g = (tt, (h, g))
index_fits i v h g = (tt, h)

-- ---- clauses

all_clauses_fit : (parts : NodeParts PlainValue) → PartsFit parts → Every ClauseFits (all_clauses parts)
all_clauses_fit parts g =
    every_append ClauseFits (clauses_of parts.first) (clauses_of parts.second ++ clauses_of parts.third) (clauses_part parts.first g.first)
    (every_append ClauseFits (clauses_of parts.second) (clauses_of parts.third) (clauses_part parts.second g.second) (clauses_part parts.third g.third))

asserted_fits : (at : ℕ) (a : Assertion) (e : PlainSpec) → SpecFits e → ClauseFits (asserted at a e)
asserted_fits at assertions.Requires e h = h
asserted_fits at assertions.Ensures e h = h
asserted_fits at assertions.MeasuredBy e h = h
asserted_fits at assertions.LoopInvariant e h = h
asserted_fits at assertions.Decreases e h = h
asserted_fits at assertions.Invariant e h = h

word_fits : (at : ℕ) (w : Word) → ClauseFits (word at w)
word_fits at words.Also = tt
word_fits at words.NormalBehavior = tt
word_fits at words.ExceptionalBehavior = tt
word_fits at words.Behavior = tt
word_fits at words.Pure = tt
word_fits at words.Helper = tt
word_fits at words.Nullable = tt
word_fits at words.NonNull = tt
word_fits at words.SpecPublic = tt
word_fits at words.SpecProtected = tt

-- ---- actions

pub acts : (a : Action) (ts : List PlainLexeme) (parts : NodeParts PlainValue) → PartsFit parts → ValueFits (meaning a ts parts)
acts actions.AllClauses ts parts g = all_clauses_fit parts g
acts (actions.Word w) ts parts g = (word_fits (place_of 0 ts) w, all_clauses_fit parts g)
acts (actions.Asserts a) ts parts g = (asserted_fits (place_of 0 ts) a (expression_of parts.first) (expression_part parts.first g.first), tt)
acts actions.Signals ts parts g = (expression_part parts.third g.third, tt)
acts actions.SignalsOnly ts parts g = (tt, tt)
acts actions.Assignable ts parts g = (locations_part parts.first g.first, tt)
acts actions.Diverges ts parts g = (tt, tt)
acts actions.NoNames ts parts g = tt
acts actions.Names ts parts g = tt
acts actions.NothingAssigned ts parts g = (tt, tt)
acts actions.EverythingAssigned ts parts g = (tt, tt)
acts actions.Locations ts parts g = every_append LocationFits (locations_of parts.first) (locations_of parts.second) (locations_part parts.first g.first) (locations_part parts.second g.second)
acts actions.NamedLocation ts parts g = (named_location_fits (name_of parts.first) parts.second g.second, tt)
acts actions.OperandLocation ts parts g =
    (located_fits (place_of 0 ts) (expression_of parts.first) (steps_of parts.second) (end_of parts.second) (expression_part parts.first g.first) (steps_part parts.second g.second) (end_part parts.second g.second), tt)
acts actions.BegunLocation ts parts g =
    (located_fits (place_of 0 ts) (begun_at (place_of 0 ts) parts.first) (steps_of parts.second) (end_of parts.second) (begun_at_fits (place_of 0 ts) parts.first g.first) (steps_part parts.second g.second) (end_part parts.second g.second), tt)
acts actions.Invoked ts parts g = (expressions_part parts.first g.first, steps_part parts.second g.second, end_part parts.second g.second)
acts actions.AllFields ts parts g = (tt, tt)
acts actions.AllElements ts parts g = (tt, tt)
acts actions.MemberStep ts parts g = member_fits (name_of parts.first) parts.second g.second
acts actions.IndexStep ts parts g = index_fits (expression_of parts.first) parts.second (expression_part parts.first g.first) g.second
acts actions.Bound ts parts g = expression_part parts.first g.first

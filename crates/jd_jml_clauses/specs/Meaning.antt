-- What a node of clauses or locations stands for, by its action, its tokens from the first on, and what its parts stand for.
use Rattle.std.specs.Prelude.{ℕ, List, [], ◌∷◌, ◌++◌, Bool, false}
use Rattle.jd_grammar.specs.declared.piles.NodeParts.{NodeParts}
use Rattle.jd_jml_tokens.specs.Lexemes.{PlainLexeme, place_of}
use Rattle.jd_syntax.specs.SpecTrees as jml
use Rattle.jd_syntax.specs.SpecTrees.{PlainSpec, PlainClause, Signals, SignalsOnly, Assignable, Diverges, Nothing, Everything}
use Rattle.jd_jml_values.specs.Values.{PlainValue, Steps, AllFieldsEnd, AllElementsEnd, Invoked, Bound, Locations, Clauses, Names}
use Rattle.jd_jml_values.specs.Parts.{expression_of, expressions_of, name_of, some_name, steps_of, end_of, locations_of, clauses_of, names_of}
use Rattle.jd_jml_expressions.specs.Meaning.{begun_at}
use Rattle.jd_jml_clauses.specs.declared.action.Action.{Action}
use Rattle.jd_jml_clauses.specs.declared.action.Action.TheVariants as actions
use Rattle.jd_jml_clauses.specs.declared.action.Assertion.{Assertion}
use Rattle.jd_jml_clauses.specs.declared.action.Assertion.TheVariants as assertions
use Rattle.jd_jml_clauses.specs.declared.action.Word.{Word}
use Rattle.jd_jml_clauses.specs.declared.action.Word.TheVariants as words
use Rattle.jd_jml_clauses.specs.Locating.{located, named_location, member_step, index_step}

-- the clauses of all parts
abbrev pub all_clauses : NodeParts PlainValue → List PlainClause
all_clauses parts = clauses_of parts.first ++ (clauses_of parts.second ++ clauses_of parts.third)

-- the clause of one expression that begins at that place
abbrev pub asserted : ℕ → Assertion → PlainSpec → PlainClause
asserted at assertions.Requires e = jml.Requires at e
asserted at assertions.Ensures e = jml.Ensures at e
asserted at assertions.MeasuredBy e = jml.MeasuredBy at e
asserted at assertions.LoopInvariant e = jml.LoopInvariant at e
asserted at assertions.Decreases e = jml.Decreases at e
asserted at assertions.Invariant e = jml.Invariant at e

-- the word at that place
abbrev pub word : ℕ → Word → PlainClause
word at words.Also = jml.Also at
word at words.NormalBehavior = jml.NormalBehavior at
word at words.ExceptionalBehavior = jml.ExceptionalBehavior at
word at words.Behavior = jml.Behavior at
word at words.Pure = jml.Pure at
word at words.Helper = jml.Helper at
word at words.Nullable = jml.Nullable at
word at words.NonNull = jml.NonNull at
word at words.SpecPublic = jml.SpecPublic at
word at words.SpecProtected = jml.SpecProtected at

abbrev pub truth_of : PlainSpec → Bool
truth_of (jml.Boolean at b) = b
truth_of _ = false

-- ---- actions

abbrev pub meaning : Action → List PlainLexeme → NodeParts PlainValue → PlainValue
meaning actions.AllClauses ts parts = Clauses (all_clauses parts)
meaning (actions.Word w) ts parts = Clauses (word (place_of 0 ts) w ∷ all_clauses parts)
meaning (actions.Asserts a) ts parts = Clauses (asserted (place_of 0 ts) a (expression_of parts.first) ∷ [])
meaning actions.Signals ts parts = Clauses (Signals (place_of 0 ts) (name_of parts.first) (some_name parts.second) (expression_of parts.third) ∷ [])
meaning actions.SignalsOnly ts parts = Clauses (SignalsOnly (place_of 0 ts) (names_of parts.first) ∷ [])
meaning actions.Assignable ts parts = Clauses (Assignable (place_of 0 ts) (locations_of parts.first) ∷ [])
meaning actions.Diverges ts parts = Clauses (Diverges (place_of 0 ts) (truth_of (expression_of parts.first)) ∷ [])
meaning actions.NoNames ts parts = Names []
meaning actions.Names ts parts = Names (name_of parts.first ∷ names_of parts.second)
meaning actions.NothingAssigned ts parts = Locations (Nothing (place_of 0 ts) ∷ [])
meaning actions.EverythingAssigned ts parts = Locations (Everything (place_of 0 ts) ∷ [])
meaning actions.Locations ts parts = Locations (locations_of parts.first ++ locations_of parts.second)
meaning actions.NamedLocation ts parts = Locations (named_location (name_of parts.first) parts.second ∷ [])
meaning actions.OperandLocation ts parts =
    Locations (located (place_of 0 ts) (expression_of parts.first) (steps_of parts.second) (end_of parts.second) ∷ [])
meaning actions.BegunLocation ts parts =
    Locations (located (place_of 0 ts) (begun_at (place_of 0 ts) parts.first) (steps_of parts.second) (end_of parts.second) ∷ [])
meaning actions.Invoked ts parts = Invoked (expressions_of parts.first) (steps_of parts.second) (end_of parts.second)
meaning actions.AllFields ts parts = Steps [] AllFieldsEnd
meaning actions.AllElements ts parts = Steps [] AllElementsEnd
meaning actions.MemberStep ts parts = member_step (name_of parts.first) parts.second
meaning actions.IndexStep ts parts = index_step (expression_of parts.first) parts.second
meaning actions.Bound ts parts = Bound (expression_of parts.first)

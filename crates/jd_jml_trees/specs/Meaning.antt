-- The clauses that a derivation of JML stands for.
use Rattle.std.specs.Prelude.{ℕ, List, [], ◌∷◌, slice_index_or}
use Rattle.jd_grammar.specs.Folds.{values}
use Rattle.jd_grammar.specs.Grammars.{Forest}
use Rattle.jd_grammar.specs.Nodes.{all_of, filled}
use Rattle.jd_grammar.specs.declared.piles.NodeParts.{NodeParts}
use Rattle.jd_jml_tokens.specs.Lexemes.{PlainLexeme}
use Rattle.jd_syntax.specs.SpecTrees.{PlainClause}
use Rattle.jd_jml_values.specs.Values.{PlainValue, Nothing}
use Rattle.jd_jml_values.specs.Parts.{clauses_of}
use Rattle.jd_jml_expressions.specs.Meaning as expressions
use Rattle.jd_jml_clauses.specs.Meaning as clauses
use Rattle.jd_jml_trees.specs.declared.actions.Action.{Action}
use Rattle.jd_jml_trees.specs.declared.actions.Action.TheVariants as actions
use Rattle.jd_jml_trees.specs.declared.actions.TheConstants.{ACTIONS, NOTHING}

-- the action of the production of this number
abbrev pub action_of : ℕ → Action
action_of p = slice_index_or ACTIONS p NOTHING

abbrev pub meaning_by : Action → List PlainLexeme → NodeParts PlainValue → PlainValue
meaning_by (actions.Expression a) ts parts = expressions.meaning a ts parts
meaning_by (actions.Clause a) ts parts = clauses.meaning a ts parts

-- what a node of that production stands for, by its tokens from the first on and what its parts stand for
abbrev pub value_of_node : ℕ → List PlainLexeme → List PlainValue → PlainValue
value_of_node p ts parts = meaning_by (action_of p) ts (filled (all_of Nothing) parts)

abbrev pub first_value : List PlainValue → PlainValue
first_value [] = Nothing
first_value (v ∷ vs) = v

-- the clauses of a whole derivation, over its tokens
abbrev pub clauses_of_tree : Forest → List PlainLexeme → List PlainClause
clauses_of_tree f ts = clauses_of (first_value (values value_of_node f ts))

-- The tree that a file's derivation stands for.
use Rattle.std.specs.Prelude.{ℕ, List, [], ◌∷◌, slice_index_or}
use Rattle.jd_grammar.specs.Folds.{values}
use Rattle.jd_grammar.specs.Grammars.{Forest}
use Rattle.jd_grammar.specs.Nodes.{all_of, filled}
use Rattle.jd_grammar.specs.declared.piles.NodeParts.{NodeParts}
use Rattle.jd_java_tokens.specs.Contents.{PlainLexeme}
use Rattle.jd_syntax.specs.JavaTrees.{JavaUnit}
use Rattle.jd_java_values.specs.Values.{PlainValue, Nothing}
use Rattle.jd_java_values.specs.Parts.{classes_of}
use Rattle.jd_java_expressions.specs.Meaning as expressions
use Rattle.jd_java_statements.specs.Meaning as statements
use Rattle.jd_java_members.specs.Meaning as members
use Rattle.jd_java_trees.specs.declared.actions.Action.{Action}
use Rattle.jd_java_trees.specs.declared.actions.Action.TheVariants as actions
use Rattle.jd_java_trees.specs.declared.actions.TheConstants.{ACTIONS, NOTHING}

-- the action of the production of this number
abbrev pub action_of : ℕ → Action
action_of p = slice_index_or ACTIONS p NOTHING

abbrev pub meaning_by : Action → List PlainLexeme → NodeParts PlainValue → PlainValue
meaning_by (actions.Expression a) ts parts = expressions.meaning a ts parts
meaning_by (actions.Statement a) ts parts = statements.meaning a ts parts
meaning_by (actions.Member a) ts parts = members.meaning a ts parts

-- what a node of that production stands for, by its tokens from the first on and what its parts stand for
abbrev pub value_of_node : ℕ → List PlainLexeme → List PlainValue → PlainValue
value_of_node p ts parts = meaning_by (action_of p) ts (filled (all_of Nothing) parts)

abbrev pub first_value : List PlainValue → PlainValue
first_value [] = Nothing
first_value (v ∷ vs) = v

abbrev pub unit_by : PlainValue → JavaUnit
unit_by v = record { classes = classes_of v }

-- the tree of a whole derivation, over its tokens
abbrev pub unit_of : Forest → List PlainLexeme → JavaUnit
unit_of f ts = unit_by (first_value (values value_of_node f ts))

-- The clauses that derivations over such tokens stand for have literals that fit, and so have files that are read.
use Rattle.std.proofs.Common.{All, List, [], drop, length, subst, suc, take, zero, ◌-◌, ◌∷◌, ℕ}
use Rattle.std.specs.List.{AllByRecursion as Every}
use Rattle.std.proofs.lemmas.List.Elements.{All-head, All-tail}
use Rattle.jd_grammar.specs.Folds.{values}
use Rattle.jd_grammar.specs.Grammars.{Done, Forest, Leaf, Node, yield}
use Rattle.jd_grammar.specs.Nodes.{all_of, filled}
use Rattle.jd_grammar.specs.declared.piles.NodeParts.{NodeParts}
use Rattle.jd_java_names.proofs.Every.{every_drop, every_mapped}
use Rattle.jd_jml_literals.proofs.Clauses as of_clauses
use Rattle.jd_jml_literals.proofs.Expressions as of_expressions
use Rattle.jd_jml_literals.proofs.Tokens.{TokenFits, tokens_fit, zero_fits}
use Rattle.jd_jml_literals.proofs.Values.{PartsFit, ValueFits, clauses_part, parts_fit}
use Rattle.jd_jml_literals.specs.Fitting.{BlockFits, ClauseFits, LiteralFits, UnitFits}
use Rattle.jd_jml_literals.specs.Laws.{LiteralsOfJmlFit}
use Rattle.jd_jml_tokens.specs.Lexemes.{PlainLexeme, lexeme_of, lexemes_of, number_of}
use Rattle.jd_jml_trees.specs.Meaning.{action_of, clauses_of_tree, first_value, meaning_by, value_of_node}
use Rattle.jd_jml_trees.specs.declared.actions.Action.{Action}
use Rattle.jd_jml_trees.specs.declared.actions.Action.TheVariants as actions
use Rattle.jd_jml_values.specs.Values.{Nothing, PlainValue}
use Rattle.jd_jmlparse.specs.Filled.{HasClauses, block_tokens, blocks_of, tokens_from}
use Rattle.jd_lex.specs.Parts.{Token}
use Rattle.jd_source.specs.Sources.{IsSource}
use Rattle.jd_syntax.specs.JavaTrees.{JavaUnit}
use Rattle.jd_syntax.specs.SpecTrees.{PlainSpecBlock}

abbrev LexemeFits : PlainLexeme → Type 0
LexemeFits l = TokenFits l.token

number_fits : (ts : List PlainLexeme) → Every LexemeFits ts → LiteralFits (number_of ts)
number_fits [] h = zero_fits
number_fits (t ∷ ts) h = h.0

-- ---- nodes

acts : (a : Action) (ts : List PlainLexeme) (parts : NodeParts PlainValue) → PartsFit parts → LiteralFits (number_of ts) → ValueFits (meaning_by a ts parts)
acts (actions.Expression a) ts parts g n = of_expressions.acts a ts parts g n
acts (actions.Clause a) ts parts g n = of_clauses.acts a ts parts g

node_fits : (p : ℕ) (ts : List PlainLexeme) (vs : List PlainValue) → Every LexemeFits ts → Every ValueFits vs → ValueFits (value_of_node p ts vs)
node_fits p ts vs so h = acts (action_of p) ts (filled (all_of Nothing) vs) (parts_fit vs h) (number_fits ts so)

values_fit : (f : Forest) (ts : List PlainLexeme) → Every LexemeFits ts → Every ValueFits (values value_of_node f ts)
values_fit Done ts so = tt
values_fit (Leaf k f) ts so = values_fit f (drop 1 ts) (every_drop LexemeFits 1 ts so)
values_fit (Node p c f) ts so =
    (node_fits p ts (values value_of_node c ts) so (values_fit c ts so), values_fit f (drop (length (yield c)) ts) (every_drop LexemeFits (length (yield c)) ts so))

first_fits : (vs : List PlainValue) → Every ValueFits vs → ValueFits (first_value vs)
first_fits [] h = tt
first_fits (v ∷ vs) h = h.0

tree_fits : (f : Forest) (ts : List PlainLexeme) → Every LexemeFits ts → Every ClauseFits (clauses_of_tree f ts)
tree_fits f ts so = clauses_part (first_value (values value_of_node f ts)) (first_fits (values value_of_node f ts) (values_fit f ts so))

-- ---- blocks

every_take : {X : Type 0} (P : X → Type 0) (n : ℕ) (xs : List X) → Every P xs → Every P (take n xs)
every_take P zero xs h = tt
every_take P (suc n) [] h = tt
every_take P (suc n) (x ∷ xs) h = (h.0, every_take P n xs h.1)

some_fit : (ts : List Token) (from to : ℕ) → Every TokenFits ts → Every TokenFits (tokens_from ts from to)
some_fit ts from to so = every_take TokenFits (to - from) (drop from ts) (every_drop TokenFits from ts so)

block_fits : (ts : List Token) (b : PlainSpecBlock) → Every TokenFits ts → HasClauses ts b → BlockFits b
block_fits ts b so h =
    subst (Every ClauseFits) h.is
    (tree_fits h.tree (lexemes_of (block_tokens ts b)) (every_mapped TokenFits LexemeFits lexeme_of (λ t k. k) (block_tokens ts b) (some_fit ts b.from b.to so)))

blocks_fit : (ts : List Token) (bs : List PlainSpecBlock) → Every TokenFits ts → All (HasClauses ts) bs → Every BlockFits bs
blocks_fit ts [] so h = tt
blocks_fit ts (b ∷ bs) so h = (block_fits ts b so (All-head (HasClauses ts) b bs h), blocks_fit ts bs so (All-tail (HasClauses ts) b bs h))

-- ---- files

source_fits : (bytes : List ℕ) (tree : JavaUnit) → IsSource bytes tree → UnitFits tree
source_fits bytes tree s = blocks_fit s.tokens (blocks_of tree) (tokens_fit bytes s.tokens s.spelled) s.filled.read

pub trees_fit : LiteralsOfJmlFit
trees_fit [] [] h = tt
trees_fit [] (u ∷ us) h = absurd h
trees_fit (b ∷ bs) [] h = absurd h
trees_fit (b ∷ bs) (u ∷ us) h = (source_fits b u h.0, trees_fit bs us h.1)

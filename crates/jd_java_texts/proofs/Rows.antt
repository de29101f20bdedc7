-- What the nodes of a production have to show.
use Rattle.std.proofs.Common.{◌≡◌, ℕ, ◌+◌, List, [], ◌∷◌}
use Rattle.jd_grammar.specs.Grammars.{Production}
use Rattle.jd_grammar.specs.declared.piles.NodeParts.{NodeParts}
use Rattle.jd_grammar.specs.declared.table.Symbol.{Symbol}
use Rattle.jd_grammar.specs.declared.table.Symbol.TheVariants.{Token, Name}
use Rattle.jd_java_tokens.specs.Contents.{PlainLexeme}
use Rattle.jd_java_values.specs.Values as values
use Rattle.jd_java_values.specs.Values.{PlainValue}
use Rattle.jd_java_trees.specs.Meaning.{action_of, meaning_by}
use Rattle.jd_java_texts.specs.Kept.{rest, NodeTexts, no_texts, node_texts, IsProperNode}
use Rattle.jd_java_texts.proofs.Frames.{Shown}

-- the parts of a node show what their names say, and there are no others
abbrev pub Fits : List Symbol → NodeParts PlainValue → NodeParts NodeTexts → Type 0
Fits [] parts us = (parts.first ≡ values.Nothing) × (parts.second ≡ values.Nothing) × (parts.third ≡ values.Nothing) × (parts.fourth ≡ values.Nothing)
Fits (Token kind ∷ ss) parts us = Fits ss parts us
Fits (Name a ∷ ss) parts us = Shown a parts.first us.first × Fits ss (rest values.Nothing parts) (rest no_texts us)

-- then so does a node of that production
abbrev pub Shows : ℕ → Production → Type 0
Shows n r =
    (ts : List PlainLexeme) (parts : NodeParts PlainValue) (us : NodeParts NodeTexts) → Fits r.body parts us → IsProperNode (action_of n) parts
    → Shown r.head (meaning_by (action_of n) ts parts) (node_texts r ts us)

abbrev pub Each : ℕ → List Production → Type 0
Each n [] = Unit {0}
Each n (r ∷ rs) = Shows n r × Each (n + 1) rs

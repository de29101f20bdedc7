-- What is to be shown of each production.
use Rattle.std.proofs.Common.{◌≡◌, ℕ, ◌+◌, List, [], ◌∷◌}
use Rattle.jd_grammar.specs.Grammars.{Production}
use Rattle.jd_grammar.specs.declared.piles.NodeParts.{NodeParts}
use Rattle.jd_grammar.specs.declared.table.Symbol.{Symbol}
use Rattle.jd_grammar.specs.declared.table.Symbol.TheVariants.{Token, Name}
use Rattle.jd_java_tokens.specs.Contents.{PlainLexeme}
use Rattle.jd_java_values.specs.Values as values
use Rattle.jd_java_values.specs.Values.{PlainValue}
use Rattle.jd_java_attributes.specs.Rules.{row_of}
use Rattle.jd_java_attributes.specs.Judging.{PlainAttributes, nothing, attributes_by}
use Rattle.jd_java_trees.specs.Meaning.{action_of, meaning_by}
use Rattle.jd_java_texts.specs.Kept.{rest, IsProperNode}
use Rattle.jd_java_heights.proofs.Roles.{Tells}

-- the parts of a node tell what their names say, and there are no others
abbrev pub Fits : List Symbol → NodeParts PlainValue → NodeParts PlainAttributes → Type 0
Fits [] parts marks =
    (marks.first ≡ nothing) × (marks.second ≡ nothing) × (marks.third ≡ nothing) × (marks.fourth ≡ nothing)
    × (parts.first ≡ values.Nothing) × (parts.second ≡ values.Nothing) × (parts.third ≡ values.Nothing) × (parts.fourth ≡ values.Nothing)
Fits (Token kind ∷ ss) parts marks = Fits ss parts marks
Fits (Name a ∷ ss) parts marks = Tells a parts.first marks.first.form × Fits ss (rest values.Nothing parts) (rest nothing marks)

-- then so does a node of that production
abbrev pub Shows : ℕ → Production → Type 0
Shows n r =
    (ts : List PlainLexeme) (parts : NodeParts PlainValue) (marks : NodeParts PlainAttributes) → Fits r.body parts marks → IsProperNode (action_of n) parts
    → Tells r.head (meaning_by (action_of n) ts parts) (attributes_by (row_of n) ts marks).form

abbrev pub Each : ℕ → List Production → Type 0
Each n [] = Unit {0}
Each n (r ∷ rs) = Shows n r × Each (n + 1) rs

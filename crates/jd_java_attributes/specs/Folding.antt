-- The two parts of the attributes, each by itself.
use Rattle.std.specs.Prelude.{◌≡◌, ◌≤◌, ℕ, List, map}
use Rattle.jd_grammar.specs.Nodes.{all_of, filled}
use Rattle.jd_grammar.specs.declared.piles.NodeParts.{NodeParts}
use Rattle.jd_java_tokens.specs.Contents.{PlainLexeme}
use Rattle.jd_java_tokens.specs.Lexemes.{lexeme_view}
use Rattle.jd_java_tokens.specs.declared.lexeme.Lexeme.{Lexeme}
use Rattle.jd_java_attributes.specs.declared.form.Form.{Form}
use Rattle.jd_java_attributes.specs.declared.form.Asked.TheVariants as asks
use Rattle.jd_java_attributes.specs.declared.form.TheConstants.{EMPTY}
use Rattle.jd_java_attributes.specs.declared.heading.Told.{Told}
use Rattle.jd_java_attributes.specs.declared.heading.Told.TheVariants as tells
use Rattle.jd_java_attributes.specs.declared.rows.Rule.{Rule}
use Rattle.jd_java_attributes.specs.Forms.{tokens_of_both}
use Rattle.jd_java_attributes.specs.Rules.{row_of, high_at, made, with_high}
use Rattle.jd_java_attributes.specs.Headings.{PlainHeading, bare, told, heading_view}

-- the form of a node, from those of its parts
abbrev pub form_at : ℕ → List PlainLexeme → List Form → Form
form_at p ts forms = with_high ts (made (row_of p).2 (row_of p).0 ts (filled (all_of EMPTY) forms))

-- it has this form, with these tokens from its first on
abbrev pub IsFormAt : ℕ → List Lexeme → List Form → Form → Type 0
IsFormAt p ts forms v = v ≡ form_at p (map lexeme_view ts) forms

-- a production without tokens, whose nodes have the form of nothing where their parts do
pub record IsBlank (row : ℕ × ℕ × Rule) : Type 0 where
  pub empty : (ts : List PlainLexeme) → with_high ts (made row.2 row.0 ts (all_of EMPTY)) ≡ EMPTY

-- nothing behind the first part
abbrev pub alone : Form → NodeParts Form
alone f = record (all_of EMPTY) { first = f }

-- the same behind so many tokens
abbrev pub behind_tokens : ℕ → Form → Form
behind_tokens n f = record f { tokens = tokens_of_both n f.tokens }

-- an expression with nothing behind it has the form of its part where that is so
pub record IsSettled (f : Form) : Type 0 where
  pub adds_nothing : f.adds ≡ 0
  pub asks_nothing : f.asked ≡ asks.Nothing
  pub low : f.height ≤ 201
  pub marked : (ts : List PlainLexeme) → high_at ts f f.high ≡ f.high
  pub counted : f.tokens ≤ 4294967295

-- what a node tells of members, from what its parts do
abbrev pub heading_at : ℕ → List PlainLexeme → List PlainHeading → PlainHeading
heading_at p ts headings = told (row_of p).2 ts (filled (all_of bare) headings)

-- what nothing but a name tells
abbrev pub named : List ℕ → PlainHeading
named name = record bare { name = name }

abbrev pub told_view : Told → PlainHeading
told_view tells.Nothing = bare
told_view (tells.Name name) = named name.now
told_view (tells.More heading) = heading_view heading.value

abbrev pub told_views : NodeParts Told → NodeParts PlainHeading
told_views parts = record {
  first = told_view parts.first;
  second = told_view parts.second;
  third = told_view parts.third;
  fourth = told_view parts.fourth;
}

-- a node tells this, with these tokens from its first on
abbrev pub IsToldAt : ℕ → List Lexeme → List Told → Told → Type 0
IsToldAt p ts parts v = told_view v ≡ heading_at p (map lexeme_view ts) (map told_view parts)

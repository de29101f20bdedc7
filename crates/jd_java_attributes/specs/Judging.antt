-- The attributes of the nodes of a file.
use Rattle.std.specs.Prelude.{ℕ, List, [], ◌∷◌, Option}
use Rattle.jd_grammar.specs.Grammars.{Forest}
use Rattle.jd_grammar.specs.Folds.{values}
use Rattle.jd_grammar.specs.Nodes.{all_of, filled}
use Rattle.jd_java_tokens.specs.Contents.{PlainLexeme}
use Rattle.jd_java_attributes.specs.declared.form.Form.{Form}
use Rattle.jd_java_attributes.specs.declared.form.TheConstants.{EMPTY}
use Rattle.jd_java_attributes.specs.declared.heading.Heading.{Heading}
use Rattle.jd_java_attributes.specs.declared.nodes.Attributes.{Attributes}
use Rattle.jd_java_attributes.specs.declared.rows.Rule.{Rule}
use Rattle.jd_grammar.specs.declared.piles.NodeParts.{NodeParts}
use Rattle.jd_java_attributes.specs.Forms.{first_of}
use Rattle.jd_java_attributes.specs.Rules.{row_of, made, with_high}
use Rattle.jd_java_attributes.specs.Headings.{PlainHeading, bare, told, heading_view}

pub record PlainAttributes : Type 0 where
  pub form : Form
  pub heading : PlainHeading

abbrev pub attributes_view : Attributes → PlainAttributes
attributes_view a = record { form = a.form; heading = heading_view a.heading }

abbrev pub nothing : PlainAttributes
nothing = record { form = EMPTY; heading = bare }

-- the place of the first token with which no file goes on, if there is one
abbrev pub fault_of : PlainAttributes → Option ℕ
fault_of a = first_of a.form.fault a.heading.fault

-- how many names the body of a production has
abbrev pub names_of : ℕ → ℕ
names_of p = (row_of p).1

-- ---- of parts

abbrev pub forms : NodeParts Attributes → NodeParts Form
forms parts = record { first = parts.first.form; second = parts.second.form; third = parts.third.form; fourth = parts.fourth.form }

abbrev pub headings : NodeParts Attributes → NodeParts Heading
headings parts = record { first = parts.first.heading; second = parts.second.heading; third = parts.third.heading; fourth = parts.fourth.heading }

abbrev pub views : NodeParts Attributes → NodeParts PlainAttributes
views parts = record {
  first = attributes_view parts.first;
  second = attributes_view parts.second;
  third = attributes_view parts.third;
  fourth = attributes_view parts.fourth;
}

abbrev pub plain_forms : NodeParts PlainAttributes → NodeParts Form
plain_forms parts = record { first = parts.first.form; second = parts.second.form; third = parts.third.form; fourth = parts.fourth.form }

abbrev pub plain_headings : NodeParts PlainAttributes → NodeParts PlainHeading
plain_headings parts = record { first = parts.first.heading; second = parts.second.heading; third = parts.third.heading; fourth = parts.fourth.heading }

-- ---- of a node

-- by its production's row
abbrev pub attributes_by : ℕ × ℕ × Rule → List PlainLexeme → NodeParts PlainAttributes → PlainAttributes
attributes_by row ts parts = record {
  form = with_high ts (made row.2 row.0 ts (plain_forms parts));
  heading = told row.2 ts (plain_headings parts);
}

abbrev pub attributes : ℕ → List PlainLexeme → List PlainAttributes → PlainAttributes
attributes p ts parts = attributes_by (row_of p) ts (filled (all_of nothing) parts)

abbrev pub first_of_all : List PlainAttributes → PlainAttributes
first_of_all [] = nothing
first_of_all (a ∷ others) = a

-- of a whole tree, over its tokens
abbrev pub attributes_of : Forest → List PlainLexeme → PlainAttributes
attributes_of f ts = first_of_all (values attributes f ts)

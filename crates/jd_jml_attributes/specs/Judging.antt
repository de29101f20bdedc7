-- The attributes of the nodes of JML.
use Rattle.std.specs.Prelude.{ℕ, List, [], ◌∷◌}
use Rattle.jd_grammar.specs.Grammars.{Forest}
use Rattle.jd_grammar.specs.Folds.{values}
use Rattle.jd_grammar.specs.Nodes.{all_of, filled}
use Rattle.jd_grammar.specs.declared.piles.NodeParts.{NodeParts}
use Rattle.jd_jml_tokens.specs.Lexemes.{PlainLexeme}
use Rattle.jd_jml_attributes.specs.declared.form.Form.{Form}
use Rattle.jd_jml_attributes.specs.declared.rows.Rule.{Rule}
use Rattle.jd_jml_attributes.specs.Forms.{PlainForm, empty, form_view}
use Rattle.jd_jml_attributes.specs.Rules.{row_of, made, with_high}

-- how many names the body of a production has
abbrev pub names_of : ℕ → ℕ
names_of p = (row_of p).0

abbrev pub forms_view : NodeParts Form → NodeParts PlainForm
forms_view parts = record { first = form_view parts.first; second = form_view parts.second; third = form_view parts.third; fourth = form_view parts.fourth }

-- those of a node, by its production's rule
abbrev pub form_by : Rule → List PlainLexeme → NodeParts PlainForm → PlainForm
form_by rule ts parts = with_high ts (made rule ts parts)

abbrev pub form_of_node : ℕ → List PlainLexeme → List PlainForm → PlainForm
form_of_node p ts parts = form_by (row_of p).1 ts (filled (all_of empty) parts)

abbrev pub first_form : List PlainForm → PlainForm
first_form [] = empty
first_form (f ∷ fs) = f

-- those of a whole tree, over its tokens
abbrev pub form_of : Forest → List PlainLexeme → PlainForm
form_of f ts = first_form (values form_of_node f ts)

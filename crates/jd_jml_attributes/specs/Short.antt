-- Nodes for which nothing has to be taken off a fold's stack but parts that are nothing, as of levels of expressions without an
-- operator of theirs.
use Rattle.std.specs.Prelude.{◌≡◌, ◌≤◌, ℕ, List, map, Option, None}
use Rattle.jd_grammar.specs.Nodes.{all_of}
use Rattle.jd_grammar.specs.declared.piles.NodeParts.{NodeParts}
use Rattle.jd_jml_tokens.specs.Lexemes.{PlainLexeme, lexeme_view}
use Rattle.jd_jml_tokens.specs.declared.lexeme.Lexeme.{Lexeme}
use Rattle.jd_jml_attributes.specs.declared.form.Form.{Form}
use Rattle.jd_jml_attributes.specs.declared.form.Kind.TheVariants as kinds
use Rattle.jd_jml_attributes.specs.declared.rows.Rule.{Rule}
use Rattle.jd_jml_attributes.specs.Forms.{PlainForm, empty, form_view}
use Rattle.jd_jml_attributes.specs.Judging.{form_by, form_of_node}
use Rattle.jd_jml_attributes.specs.Rules.{high_at}

-- a node of a production has this form, with these tokens from its first on and these forms of its parts
abbrev pub IsFormAt : ℕ → List Lexeme → List Form → Form → Type 0
IsFormAt p ts forms v = form_view v ≡ form_of_node p (map lexeme_view ts) (map form_view forms)

-- the code's form of nothing
abbrev pub no_form : Form
no_form = record { height = 0; adds = 0; kind = kinds.Same; cast = None; fault = None; high = None }

-- nothing behind the first part
abbrev pub alone : PlainForm → NodeParts PlainForm
alone f = record (all_of empty) { first = f }

-- an expression with nothing behind it has the form of its part where that is so
pub record IsSettled (f : PlainForm) : Type 0 where
  pub adds_nothing : f.adds ≡ 0
  pub casts_nothing : f.cast ≡ None
  pub low : f.height ≤ 201
  pub marked : (ts : List PlainLexeme) → high_at ts f.height f.high ≡ f.high

-- nodes of this rule have the form of the first part where that is settled and nothing stands behind it, and that of nothing where
-- all parts have
pub record IsLevel (rule : Rule) : Type 0 where
  pub keeps : (f : PlainForm) → IsSettled f → (ts : List PlainLexeme) → form_by rule ts (alone f) ≡ f
  pub quiet : (ts : List PlainLexeme) → form_by rule ts (all_of empty) ≡ empty

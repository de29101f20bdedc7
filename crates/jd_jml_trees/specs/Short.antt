-- Nodes for which nothing has to be taken off a fold's stack.
use Rattle.std.specs.Prelude.{◌≡◌, ℕ, List, map}
use Rattle.jd_jml_tokens.specs.Lexemes.{lexeme_view}
use Rattle.jd_jml_tokens.specs.declared.lexeme.Lexeme.{Lexeme}
use Rattle.jd_jml_trees.specs.Meaning.{value_of_node}
use Rattle.jd_jml_values.specs.Views.{value_view}
use Rattle.jd_jml_values.specs.declared.values.Value.{Value}

-- a node of a production may stand for this value, with these tokens from its first on and these values of its parts
abbrev pub IsValueAt : ℕ → List Lexeme → List Value → Value → Type 0
IsValueAt p ts parts v = value_view v ≡ value_of_node p (map lexeme_view ts) (map value_view parts)

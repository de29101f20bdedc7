-- The tokens of an expression and of a statement side by side, and that their trees have the texts of these.
use Rattle.std.specs.Prelude.{◌≡◌, ℕ, List, [], ◌∷◌, ◌++◌, map}
use Rattle.std.specs.List.{flat_map}
use Rattle.jd_grammar.specs.Grammars.{Forest, yield, IsForest}
use Rattle.jd_grammar.specs.Folds.{values}
use Rattle.jd_grammar.specs.declared.table.Symbol.TheVariants.{Name}
use Rattle.jd_java_grammar.specs.Productions.{java_productions}
use Rattle.jd_java_grammar.specs.declared.names.TheConstants.{EXPRESSION, BLOCK_STATEMENT}
use Rattle.jd_java_tokens.specs.Contents.{PlainLexeme}
use Rattle.jd_java_values.specs.Values.{PlainValue}
use Rattle.jd_java_values.specs.Parts.{expression_of, statement_of}
use Rattle.jd_java_trees.specs.Meaning.{value_of_node, first_value}
use Rattle.jd_java_texts.specs.Texts.{Texts, expr_texts, stmt_texts}
use Rattle.jd_java_texts.specs.Kept.{token_text, IsProper}

-- of one token: a name as it stands, a number in decimal digits, nothing of JML and `final`, and all others in the spelling of their kind
abbrev pub lexeme_texts : PlainLexeme → Texts
lexeme_texts l = token_text l.kind (l ∷ [])

abbrev pub tokens_texts : List PlainLexeme → Texts
tokens_texts ls = flat_map lexeme_texts ls

-- the tokens at the leaves are these, and others stand behind them
abbrev pub IsOver : Forest → List PlainLexeme → Type 0
IsOver f ls = map (λ (l : PlainLexeme). l.kind) ls ≡ yield f

abbrev pub value_over : Forest → List PlainLexeme → PlainValue
value_over f ts = first_value (values value_of_node f ts)

pub record TokensAreKept : Type 0 where
  pub expression : (f : Forest) (after : List ℕ) (ls behind : List PlainLexeme) → IsForest java_productions f (Name EXPRESSION ∷ []) after → IsOver f ls → IsProper f (ls ++ behind)
      → expr_texts (expression_of (value_over f (ls ++ behind))) ≡ tokens_texts ls
  pub statement : (f : Forest) (after : List ℕ) (ls behind : List PlainLexeme) → IsForest java_productions f (Name BLOCK_STATEMENT ∷ []) after → IsOver f ls → IsProper f (ls ++ behind)
      → stmt_texts (statement_of (value_over f (ls ++ behind))) ≡ tokens_texts ls

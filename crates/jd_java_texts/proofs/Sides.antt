-- The trees of expressions and of statements have the texts of their tokens.
use Rattle.std.proofs.Common.{◌≡◌, ℕ, List, [], ◌∷◌, ◌++◌, refl, sym, ap, ◌∙◌}
use Rattle.jd_grammar.specs.Grammars.{Forest, IsForest}
use Rattle.jd_grammar.specs.Folds.{values}
use Rattle.jd_grammar.specs.declared.table.Symbol.TheVariants.{Name}
use Rattle.jd_java_grammar.specs.Productions.{java_productions}
use Rattle.jd_java_grammar.specs.declared.names.TheConstants.{EXPRESSION, BLOCK_STATEMENT}
use Rattle.jd_java_tokens.specs.Contents.{PlainLexeme}
use Rattle.jd_java_values.specs.Parts.{expression_of, statement_of}
use Rattle.jd_java_trees.specs.Meaning.{value_of_node, first_value}
use Rattle.jd_java_texts.specs.Texts.{expr_texts, stmt_texts}
use Rattle.jd_java_texts.specs.Kept.{texts_of_node, first_of_all, IsProper}
use Rattle.jd_java_texts.specs.Tokens.{tokens_texts, IsOver, value_over}
use Rattle.jd_java_texts.proofs.Shapes.{expr_text, stmt_text}
use Rattle.jd_java_texts.proofs.Trees.{AllShown, shown}
use Rattle.jd_java_texts.proofs.Leaves.{over_tokens}

pub expression_kept : (f : Forest) (after : List ℕ) (ls behind : List PlainLexeme) → IsForest java_productions f (Name EXPRESSION ∷ []) after → IsOver f ls → IsProper f (ls ++ behind)
    → expr_texts (expression_of (value_over f (ls ++ behind))) ≡ tokens_texts ls
expression_kept f after ls behind h over q = by (shown f (Name EXPRESSION ∷ []) after (ls ++ behind) h q)
  where
    by : AllShown (Name EXPRESSION ∷ []) (values value_of_node f (ls ++ behind)) (values texts_of_node f (ls ++ behind)) → expr_texts (expression_of (value_over f (ls ++ behind))) ≡ tokens_texts ls
    by ([], e, g, k) = absurd k
    by (p ∷ ps, e, g, k) =
        ap (λ vs. expr_texts (expression_of (first_value vs))) e
        ∙ sym (expr_text p.0 p.1.texts k.0)
        ∙ sym (ap (λ us. (first_of_all us).texts) g)
        ∙ over_tokens f EXPRESSION after ls behind refl h over

pub statement_kept : (f : Forest) (after : List ℕ) (ls behind : List PlainLexeme) → IsForest java_productions f (Name BLOCK_STATEMENT ∷ []) after → IsOver f ls → IsProper f (ls ++ behind)
    → stmt_texts (statement_of (value_over f (ls ++ behind))) ≡ tokens_texts ls
statement_kept f after ls behind h over q = by (shown f (Name BLOCK_STATEMENT ∷ []) after (ls ++ behind) h q)
  where
    by : AllShown (Name BLOCK_STATEMENT ∷ []) (values value_of_node f (ls ++ behind)) (values texts_of_node f (ls ++ behind)) → stmt_texts (statement_of (value_over f (ls ++ behind))) ≡ tokens_texts ls
    by ([], e, g, k) = absurd k
    by (p ∷ ps, e, g, k) =
        ap (λ vs. stmt_texts (statement_of (first_value vs))) e
        ∙ sym (stmt_text p.0 p.1.texts k.0)
        ∙ sym (ap (λ us. (first_of_all us).texts) g)
        ∙ over_tokens f BLOCK_STATEMENT after ls behind refl h over

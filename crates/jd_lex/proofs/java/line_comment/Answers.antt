use Rattle.std.proofs.Common.{ap, take, subst, ◌∙◌, false, List, ℕ}
use Rattle.jd_lex.specs.Parts.{jml_text}
use Rattle.jd_lex.specs.Lexing.{CommentFault}
use Rattle.jd_lex.specs.View.{CommentAdded, Refuses}
use Rattle.jd_lex.proofs.Steps.{java_line_took, java_line_fault}
use Rattle.jd_lex.proofs.java.line_comment.Goals as goal

pub returns-in-Ok : goal.returns-in-Ok
returns-in-Ok c =
    let body = c.split_at-2.ensures.front ∙ ap (take c.line_len-n.result) c.split_at.ensures.back in
    java_line_took c.args.at c.args.bytes.now c.args.out.now.items c.comment_tokens.new.out.items c.line_len-n.result c.requires.start c.line_len-n.ensures
    (subst (λ (b : List ℕ). CommentAdded c.args.at (jml_text false b) c.args.out.now.items c.comment_tokens.new.out.items) body c.in-Ok.ensures)

pub returns-in-Err : goal.returns-in-Err
returns-in-Err c =
    let body = c.split_at-2.ensures.front ∙ ap (take c.line_len-n.result) c.split_at.ensures.back in
    java_line_fault c.args.at c.args.bytes.now c.line_len-n.result c.requires.start c.line_len-n.ensures c.in-Err.e
    (subst (λ (b : List ℕ). Refuses (CommentFault c.args.at (jml_text false b)) c.in-Err.e) body c.in-Err.ensures)

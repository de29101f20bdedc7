use Rattle.std.proofs.Common.{ap, take, subst, ◌∙◌, true, List, ℕ}
use Rattle.jd_lex.specs.Parts.{jml_text}
use Rattle.jd_lex.specs.Lexing.{CommentFault}
use Rattle.jd_lex.specs.View.{CommentAdded, Refuses}
use Rattle.jd_lex.proofs.Steps.{java_block_took, java_block_fault}
use Rattle.jd_lex.proofs.java.block_comment.Goals as goal

pub returns-in-Ok : goal.returns-in-Ok
returns-in-Ok c =
    let body = c.split_at-in-Some.ensures.front ∙ ap (take c.in-Some.n) c.split_at.ensures.back in
    java_block_took c.args.at c.args.bytes.now c.args.out.now.items c.comment_tokens.new.out.items c.in-Some.n c.requires.start c.in-Some.ensures
    (subst (λ (b : List ℕ). CommentAdded c.args.at (jml_text true b) c.args.out.now.items c.comment_tokens.new.out.items) body c.in-Ok.ensures)

pub returns-in-Err : goal.returns-in-Err
returns-in-Err c =
    let body = c.split_at-in-Some.ensures.front ∙ ap (take c.in-Some.n) c.split_at.ensures.back in
    java_block_fault c.args.at c.args.bytes.now c.in-Some.n c.requires.start c.in-Some.ensures c.in-Err.e
    (subst (λ (b : List ℕ). Refuses (CommentFault c.args.at (jml_text true b)) c.in-Err.e) body c.in-Err.ensures)

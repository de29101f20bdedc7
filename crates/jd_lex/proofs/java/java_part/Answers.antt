use Rattle.std.proofs.Common.{Ok, sym, false}
use Rattle.jd_lex.specs.declared.starts.Start.TheVariants.{White, WordStart, NumberStart, LineComment, BlockComment, SignStart}
use Rattle.jd_lex.proofs.Steps.{java_step, white_took}
use Rattle.jd_lex.proofs.java.java_part.Goals as goal

pub returns-in-White : goal.returns-in-White
returns-in-White c =
    let out = c.args.out.now.items in
    java_step White c.args.at c.args.bytes.now out out (Ok c.white_len.result) (sym c.in-White.ensures) c.requires.some (white_took false c.args.at c.args.bytes.now out c.white_len.result (sym c.in-White.ensures) c.white_len.ensures)

pub returns-in-WordStart : goal.returns-in-WordStart
returns-in-WordStart c = java_step WordStart c.args.at c.args.bytes.now c.args.out.now.items c.word_part.new.out.items c.word_part.result (sym c.in-WordStart.ensures) c.requires.some c.word_part.ensures

pub returns-in-NumberStart : goal.returns-in-NumberStart
returns-in-NumberStart c = java_step NumberStart c.args.at c.args.bytes.now c.args.out.now.items c.number_part.new.out.items c.number_part.result (sym c.in-NumberStart.ensures) c.requires.some c.number_part.ensures

pub returns-in-LineComment : goal.returns-in-LineComment
returns-in-LineComment c = java_step LineComment c.args.at c.args.bytes.now c.args.out.now.items c.line_comment.new.out.items c.line_comment.result (sym c.in-LineComment.ensures) c.requires.some c.line_comment.ensures

pub returns-in-BlockComment : goal.returns-in-BlockComment
returns-in-BlockComment c = java_step BlockComment c.args.at c.args.bytes.now c.args.out.now.items c.block_comment.new.out.items c.block_comment.result (sym c.in-BlockComment.ensures) c.requires.some c.block_comment.ensures

pub returns-in-SignStart : goal.returns-in-SignStart
returns-in-SignStart c = java_step SignStart c.args.at c.args.bytes.now c.args.out.now.items c.sign_part.new.out.items c.sign_part.result (sym c.in-SignStart.ensures) c.requires.some c.sign_part.ensures

use Rattle.std.proofs.Common.{Ok, sym, true}
use Rattle.jd_lex.specs.declared.starts.Start.TheVariants.{White, WordStart, NumberStart, LineComment, BlockComment, SignStart}
use Rattle.jd_lex.proofs.Steps.{jml_step, white_took, jml_line_took}
use Rattle.jd_lex.proofs.jml.jml_part.Goals as goal

pub returns-in-White-clause-step : goal.returns-in-White-clause-step
returns-in-White-clause-step c =
    let out = c.args.out.now.items in
    jml_step White c.args.at c.args.bytes.now out out (Ok c.white_len.result) (sym c.in-White.ensures) c.requires.some (white_took true c.args.at c.args.bytes.now out c.white_len.result (sym c.in-White.ensures) c.white_len.ensures)

pub returns-in-WordStart-clause-step : goal.returns-in-WordStart-clause-step
returns-in-WordStart-clause-step c = jml_step WordStart c.args.at c.args.bytes.now c.args.out.now.items c.word_part.new.out.items c.word_part.result (sym c.in-WordStart.ensures) c.requires.some c.word_part.ensures

pub returns-in-NumberStart-clause-step : goal.returns-in-NumberStart-clause-step
returns-in-NumberStart-clause-step c = jml_step NumberStart c.args.at c.args.bytes.now c.args.out.now.items c.number_part.new.out.items c.number_part.result (sym c.in-NumberStart.ensures) c.requires.some c.number_part.ensures

pub returns-in-LineComment-clause-step : goal.returns-in-LineComment-clause-step
returns-in-LineComment-clause-step c =
    let out = c.args.out.now.items in
    jml_step LineComment c.args.at c.args.bytes.now out out (Ok _) (sym c.in-LineComment.ensures) c.requires.some (jml_line_took c.args.at c.args.bytes.now out c.line_len.result (sym c.in-LineComment.ensures) c.line_len.ensures)

pub returns-in-BlockComment-clause-step : goal.returns-in-BlockComment-clause-step
returns-in-BlockComment-clause-step c = jml_step BlockComment c.args.at c.args.bytes.now c.args.out.now.items c.jml_block.new.out.items c.jml_block.result (sym c.in-BlockComment.ensures) c.requires.some c.jml_block.ensures.step

pub returns-in-SignStart-clause-step : goal.returns-in-SignStart-clause-step
returns-in-SignStart-clause-step c = jml_step SignStart c.args.at c.args.bytes.now c.args.out.now.items c.sign_part.new.out.items c.sign_part.result (sym c.in-SignStart.ensures) c.requires.some c.sign_part.ensures

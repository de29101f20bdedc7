use Rattle.jd_lex.proofs.Steps.{jml_block_took, jml_open_step}
use Rattle.jd_lex.proofs.jml.jml_block.Goals as goal

pub returns-in-Some-clause-step : goal.returns-in-Some-clause-step
returns-in-Some-clause-step c = jml_block_took c.args.at c.args.bytes.now c.args.out.now.items c.in-Some.n c.requires.start c.in-Some.ensures.len

pub returns-in-None-clause-step : goal.returns-in-None-clause-step
returns-in-None-clause-step c = jml_open_step c.args.at c.args.bytes.now c.args.out.now.items c.sign_part.new.out.items c.sign_part.result c.requires.start c.in-None.ensures.len c.sign_part.ensures

use Rattle.jd_lex.specs.View.{tokens_view}
use Rattle.jd_syntax.specs.JavaTrees.{unit_view}
use Rattle.jd_jmlparse.proofs.Filled.{fills, refused}
use Rattle.jd_jmlparse.proofs.fill.fill_specs.Goals as goal

pub returns-in-None-clause-filled : goal.returns-in-None-clause-filled
returns-in-None-clause-filled c = fills (tokens_view c.args.tokens.now) (unit_view c.args.unit) (unit_view c.fill_unit.new.unit) c.in-None.ensures.same c.in-None.ensures.goes

pub returns-in-Some-clause-refused : goal.returns-in-Some-clause-refused
returns-in-Some-clause-refused c = refused (tokens_view c.args.tokens.now) (unit_view c.args.unit) (unit_view c.fill_unit.new.unit) c.in-Some.cause c.refusal_for.result c.in-Some.ensures.same c.in-Some.ensures.goes c.refusal_for.ensures

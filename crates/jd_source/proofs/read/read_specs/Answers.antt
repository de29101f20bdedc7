use Rattle.jd_lex.specs.View.{tokens_view}
use Rattle.jd_syntax.specs.JavaTrees.{unit_view}
use Rattle.jd_source.proofs.Refusing.{of_specs}
use Rattle.jd_source.proofs.read.read_specs.Goals as goal

pub returns-in-Err-clause-refused : goal.returns-in-Err-clause-refused
returns-in-Err-clause-refused c =
    of_specs c.args.bytes.now (tokens_view c.args.tokens.now) (unit_view c.args.java) c.in-Err.e c.requires.spelled (c.tokens_are_slices.ensures.slices c.args.bytes.now (tokens_view c.args.tokens.now) c.requires.spelled) c.requires.read c.in-Err.ensures.refused

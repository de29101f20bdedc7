use Rattle.std.proofs.Common.{[], ◌∷◌, Option, Some, sym, subst}
use Rattle.jd_lex.specs.View.{tokens_view}
use Rattle.jd_syntax.specs.SpecTrees.{spec_block_view}
use Rattle.jd_jmlparse.specs.Filling.{Goes}
use Rattle.jd_jmlparse.specs.declared.fill.refused.Cause.{Cause}
use Rattle.jd_jmlparse.proofs.Blocks.{passes}
use Rattle.jd_jmlparse.proofs.fill.blocks.fill_block.Goals as goal

pub returns-in-Some-clause-goes : goal.returns-in-Some-clause-goes
returns-in-Some-clause-goes c =
    let ts = tokens_view c.args.tokens.now in
    let bs = spec_block_view c.args.block.now ∷ [] in
    subst (λ (first : Option Cause). Goes ts first bs (Some c.in-Some.cause)) (sym c.in-Some.is) (passes ts c.in-Some.cause bs)

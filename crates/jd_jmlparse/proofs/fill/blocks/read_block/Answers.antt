use Rattle.std.proofs.Common.{List, map, subst}
use Rattle.jd_lex.specs.View.{tokens_view}
use Rattle.jd_lex.specs.Parts as lexed
use Rattle.jd_syntax.specs.SpecTrees.{clause_view, spec_block_view}
use Rattle.jd_jmlparse.specs.Filled.{tokens_from}
use Rattle.jd_jmlparse.specs.Parses.{Reads, Refuses}
use Rattle.jd_jmlparse.proofs.Blocks.{reads, refuses}
use Rattle.jd_jmlparse.proofs.fill.blocks.read_block.Goals as goal

pub returns-in-Ok-clause-goes : goal.returns-in-Ok-clause-goes
returns-in-Ok-clause-goes c =
    let cs = map clause_view c.in-Ok.clauses.items in
    let b = record (spec_block_view c.args.block.now) { clauses = cs } in
    reads (tokens_view c.args.tokens.now) b (subst (λ (us : List lexed.Token). Reads b.place us cs) c.tokens_between-found.ensures c.in-Ok.ensures.read)

pub returns-in-Err-clause-goes : goal.returns-in-Err-clause-goes
returns-in-Err-clause-goes c =
    let b = spec_block_view c.args.block.now in
    let ts = tokens_view c.args.tokens.now in
    let us = tokens_from ts b.from b.to in
    refuses ts b c.cause_of.result (c.cause_of.ensures b.place us (subst (λ (vs : List lexed.Token). Refuses b.place vs c.in-Err.refusal) c.tokens_between-found.ensures c.in-Err.ensures.refused))

use Rattle.std.proofs.Common.{length, sym}
use Rattle.std.proofs.lemmas.List.{length-map}
use Rattle.jd_lex.specs.View.{token_view, tokens_view}
use Rattle.jd_source.proofs.Counting.{as_few}
use Rattle.jd_source.proofs.Refusing.{of_tokens}
use Rattle.jd_source.proofs.read.read_tokens.Goals as goal

pub parse_unit-requires : goal.parse_unit-requires
parse_unit-requires c =
    as_few c.args.bytes.now (tokens_view c.args.tokens.now) (length c.args.tokens.now) c.requires.within (c.tokens_are_slices.ensures.slices c.args.bytes.now (tokens_view c.args.tokens.now) c.requires.spelled) (c.tokens_are_slices.ensures.in_order c.args.bytes.now (tokens_view c.args.tokens.now) c.requires.spelled) (sym (length-map c.args.tokens.now token_view))

pub returns-in-Err-clause-refused : goal.returns-in-Err-clause-refused
returns-in-Err-clause-refused c =
    of_tokens c.args.bytes.now (tokens_view c.args.tokens.now) c.in-Err.e c.requires.spelled (c.tokens_are_slices.ensures.slices c.args.bytes.now (tokens_view c.args.tokens.now) c.requires.spelled) c.in-Err.ensures.refused

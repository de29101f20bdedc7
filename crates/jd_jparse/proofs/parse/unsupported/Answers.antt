use Rattle.std.proofs.Common.{refl}
use Rattle.jd_lex.specs.View.{token_view}
use Rattle.jd_jparse.proofs.Tokens.{token_there}
use Rattle.jd_jparse.proofs.parse.unsupported.Goals as goal

pub returns-in-Ok : goal.returns-in-Ok
returns-in-Ok c = (
  refl,
  record {
    number = c.args.number;
    first = c.requires.first;
    token = token_view c.index-tokens-number.result;
    there = token_there c.args.tokens.now c.index-tokens-number.result c.args.number c.requires.within c.index-tokens-number.is;
    place = refl;
    text = c.in-Ok.ensures;
  },
)

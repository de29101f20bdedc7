use Rattle.std.proofs.Common.{◌≤◌, length, ◌∙◌, rules}
use Rattle.jd_bracketed.proofs.Pieces.{none_left}
use Rattle.jd_bracketed.proofs.tokens.first_token.Goals as goal

pub returns : goal.returns
returns c =
    let none : length c.loop-rest.rest.now ≤ 0 = search rules in
    c.loop-rest.invariant.0 ∙ none_left c.loop-rest.in_comment c.loop-rest.at c.loop-rest.rest.now none

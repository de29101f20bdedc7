use Rattle.jd_grammar.proofs.Counting.{under_set}
use Rattle.jd_grammar.proofs.piles.set_under.Goals as goal

pub returns-in-Some : goal.returns-in-Some
returns-in-Some g c = λ others v m t. record {
  none_waits = t.none_waits;
  is = under_set c.args.piles.now others v m c.args.under c.in-Some.top.now _ t c.args.piles.now.piles.ok.0 c.in-Some.ensures.value;
}

use Rattle.jd_grammar.proofs.Orders as orders
use Rattle.jd_grammar.proofs.laws.one_order.Goals as goal

pub returns : goal.returns
returns c t start tokens a b passed st h i = orders.one_order passed.sets t start tokens a b passed.passes st h i

use Rattle.jd_grammar.proofs.Forests as forests
use Rattle.jd_grammar.proofs.laws.one_tree.Goals as goal

pub returns : goal.returns
returns c g f h symbols after before i j e = forests.one_tree g f h symbols after before i j e

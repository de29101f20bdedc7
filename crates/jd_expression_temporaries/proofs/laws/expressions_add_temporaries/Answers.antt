use Rattle.jd_expression_temporaries.proofs.Expressions.{code_grows}
use Rattle.jd_expression_temporaries.proofs.laws.expressions_add_temporaries.Goals as goal

pub returns : goal.returns
returns c = code_grows

use Rattle.std.proofs.lemmas.Result.{IfOk-weaker}
use Rattle.jd_jml_attributes.proofs.Views.{judged}
use Rattle.jd_jml_attributes.proofs.nodes.judge.Goals as goal

pub returns : goal.returns
returns c tree is = IfOk-weaker c.value_of.result _ _ (λ f h. judged tree.forest c.args.lexemes.now f h) (c.value_of.ensures tree is)

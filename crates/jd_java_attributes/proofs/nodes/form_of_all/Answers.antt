use Rattle.std.proofs.lemmas.Result.{IfOk-weaker}
use Rattle.jd_java_attributes.proofs.Views.{form_stands}
use Rattle.jd_java_attributes.proofs.nodes.form_of_all.Goals as goal

pub returns : goal.returns
returns c tree is = IfOk-weaker c.value_of.result _ _ (λ f h. form_stands tree.forest c.args.lexemes.now f h) (c.value_of.ensures tree is)

use Rattle.jd_variable_words.proofs.Declared.{method_words}
use Rattle.jd_variable_words.proofs.laws.variables_are_called_by_words.Goals as goal

pub returns : goal.returns
returns c = method_words

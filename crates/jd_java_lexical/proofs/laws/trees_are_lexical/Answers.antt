use Rattle.jd_java_lexical.proofs.Declared.{constants, constructors, methods, parameters}
use Rattle.jd_java_lexical.proofs.laws.trees_are_lexical.Goals as goal

pub returns : goal.returns
returns c = record { methods = methods; parameters = parameters; constructors = constructors; constants = constants }

use Rattle.std.proofs.Common.{refl}
use Rattle.jd_java_grammar.specs.Java.{java}
use Rattle.jd_java_grammar.proofs.java_table.Goals as goal

pub returns : goal.returns
unfolding java
returns c = refl

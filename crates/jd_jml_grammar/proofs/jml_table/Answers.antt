use Rattle.std.proofs.Common.{refl}
use Rattle.jd_jml_grammar.specs.Jml.{jml}
use Rattle.jd_jml_grammar.proofs.jml_table.Goals as goal

pub returns : goal.returns
unfolding jml
returns c = refl

use Rattle.jd_jml_meaning.specs.InvariantFormulas.{setting_of}
use Rattle.std.proofs.Common.{[]}
use Rattle.jd_jml_meaning.proofs.Spelled.{spelled}
use Rattle.jd_jml_meaning.proofs.terms_have_values.Goals as goal

pub returns : goal.returns
returns c p sp i s w st t b e = spelled (setting_of p (λ k. [])) sp i s w st t b e

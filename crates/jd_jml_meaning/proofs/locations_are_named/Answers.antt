use Rattle.std.proofs.Common.{[]}
use Rattle.jd_jml_meaning.specs.InvariantFormulas.{setting_of}
use Rattle.jd_jml_meaning.proofs.Located.{located_all}
use Rattle.jd_jml_meaning.proofs.locations_are_named.Goals as goal

pub returns : goal.returns
returns c p sp i s w st t b ls o f = located_all (setting_of p (λ k. [])) sp i s w st t b ls o f

use Rattle.std.proofs.Common.{◌∙◌}
use Rattle.jd_scripts.specs.Scripts.{names_of}
use Rattle.jd_script.specs.ProofViews.{proofs_view}
use Rattle.jd_script.proofs.NameSets.{is_among}
use Rattle.jd_script.proofs.proofs.Proofs.has.Goals as goal

pub returns : goal.returns
returns c = c.contains.ensures ∙ is_among c.args.name.now c.args.self.now.names.keys (names_of (proofs_view c.args.self.now)) c.requires

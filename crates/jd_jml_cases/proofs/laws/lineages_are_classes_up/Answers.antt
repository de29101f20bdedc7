use Rattle.jd_jml_cases.proofs.Lineages as lineages
use Rattle.jd_jml_cases.proofs.laws.lineages_are_classes_up.Goals as goal

pub returns : goal.returns
returns c = lineages.lineages_are_classes_up

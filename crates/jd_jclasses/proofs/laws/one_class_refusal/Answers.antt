use Rattle.jd_jclasses.proofs.Refusals as refusals
use Rattle.jd_jclasses.proofs.laws.one_class_refusal.Goals as goal

pub returns : goal.returns
returns c = refusals.one_class_refusal

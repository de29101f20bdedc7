use Rattle.jd_answer.proofs.ScriptKinds.{duplicate_told}
use Rattle.jd_answer.proofs.script.kind_of.Goals as goal

pub returns-in_ok-named_kind-in-DuplicateProof : goal.returns-in_ok-named_kind-in-DuplicateProof
returns-in_ok-named_kind-in-DuplicateProof c = duplicate_told c.args.refusal.now c.in-DuplicateProof.name c.in_ok-named_kind-in-DuplicateProof.field-0.items c.deref.result.now c.in-DuplicateProof.is c.deref.ensures.value c.in_ok-named_kind-in-DuplicateProof.ensures

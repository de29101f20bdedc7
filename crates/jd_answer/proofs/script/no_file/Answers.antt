use Rattle.jd_answer.proofs.ScriptKinds.{kind_told}
use Rattle.jd_answer.proofs.script.no_file.Goals as goal

pub returns-in_ok-refusal_line-in-Some : goal.returns-in_ok-refusal_line-in-Some
returns-in_ok-refusal_line-in-Some c = kind_told c.args.file.now c.args.refusal.now c.in_ok-kind_of.field-0 c.in-Some.kind c.deref.result.now _ c.in_ok-kind_of.ensures c.in-Some.is c.deref.ensures.value c.in_ok-refusal_line-in-Some.ensures

use Rattle.jd_files.proofs.OneRefusal as files
use Rattle.jd_files.proofs.laws.one_refusal.Goals as goal

pub returns : goal.returns
returns c =
    let laws : files.FileLaws = record { source = c.one_source.ensures; no_fault = c.one_answer.ensures.no_fault; classes = c.one_class_refusal.ensures } in
    record { one = files.one laws; not_refused = files.not_refused laws; one_list = files.one_list laws }

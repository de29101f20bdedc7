use Rattle.jd_syntax.specs.JavaTrees.{method_view}
use Rattle.jd_jml_written.specs.Marked.{marks_of}
use Rattle.jd_jml_written.proofs.CaseParts.{one_more}
use Rattle.jd_jml_written.proofs.cases.with_current.Goals as goal

pub returns-in-Some : goal.returns-in-Some
returns-in-Some c =
    one_more c.ended.result c.case_with.result c.args.sofar c.in-Some.clauses c.args.at.number.0 (marks_of (method_view c.args.at.method.now)) c.in-Some.is c.ended.ensures (c.case_with.ensures (marks_of (method_view c.args.at.method.now)) c.marks_of.ensures)

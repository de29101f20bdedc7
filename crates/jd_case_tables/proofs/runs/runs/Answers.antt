use Rattle.std.proofs.Common.{◌≡◌, arith, length}
use Rattle.jd_jclasses.specs.Classes.{parents}
use Rattle.jd_jml_cases.proofs.Listing.{class_count}
use Rattle.jd_case_tables.specs.Running.{class_runs}
use Rattle.jd_case_tables.proofs.Lists.{number_more, numbers_made}
use Rattle.jd_case_tables.proofs.runs.runs.Goals as goal

pub loop-class-preserved : goal.loop-class-preserved
loop-class-preserved g c = λ units tables are.
    number_more (class_runs units (g.D.Declares.declarations c.args.d.now)) c.loop-class.class _ _ (c.loop-class.invariant units tables are) (c.in_ok-add_class.ensures units tables are)

pub returns : goal.returns
returns g c = λ units tables are.
    let all : c.loop-class.class ≡ length (parents units) = omega (arith, c.loop-class-test.false, c.loop-class.auto.class-end, c.class_count-class-end.ensures, class_count units c.args.classes.now tables) in
    numbers_made (class_runs units (g.D.Declares.declarations c.args.d.now)) c.loop-class.class (length (parents units)) _ all (c.loop-class.invariant units tables are)

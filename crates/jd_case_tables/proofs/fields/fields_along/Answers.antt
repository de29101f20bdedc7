use Rattle.std.proofs.Common.{arith}
use Rattle.jd_jml_cases.proofs.Listing.{class_count}
use Rattle.jd_case_tables.proofs.fields.fields_along.Goals as goal

pub returns-else-class-class_count : goal.returns-else-class-class_count
returns-else-class-class_count g c = λ units tables inside. absurd (omega (arith, inside, c.if-class-class_count.false, c.class_count.ensures, class_count units c.args.classes.now tables))

use Rattle.std.proofs.Common.{arith}
use Rattle.jd_jinfos.specs.Views.{class_info_view}
use Rattle.jd_case_obligations.proofs.ClassNames.{no_text, text_at}
use Rattle.jd_case_obligations.proofs.names.class_text.Goals as goal

pub returns-then-class-class_count : goal.returns-then-class-class_count
returns-then-class-class_count c = λ units tables. text_at units c.args.class.0 (class_info_view c.class.result.now) _ (c.class.ensures units tables) c.as_slice.ensures.value

pub returns-else-class-class_count : goal.returns-else-class-class_count
returns-else-class-class_count c = λ units tables. no_text units c.args.classes.now c.args.class.0 tables (omega (arith, c.if-class-class_count.false, c.class_count.ensures))

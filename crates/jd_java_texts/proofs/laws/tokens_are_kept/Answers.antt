use Rattle.jd_java_texts.proofs.Sides.{expression_kept, statement_kept}
use Rattle.jd_java_texts.proofs.laws.tokens_are_kept.Goals as goal

pub returns : goal.returns
returns c = record { expression = expression_kept; statement = statement_kept }

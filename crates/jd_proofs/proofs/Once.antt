-- A text has one outcome.
use Rattle.std.proofs.Common.{refl, sym, ap, ◌∙◌}
use Rattle.jd_scripts.specs.Answers.{most_levels, most_steps}
use Rattle.jd_scripts.proofs.Once.{one_answer}
use Rattle.jd_proofs.specs.Outcomes.{outcome}
use Rattle.jd_proofs.specs.Laws.{OneOutcome}

pub one_outcome : OneOutcome
one_outcome = record {
  some = λ names bytes.
      let a = one_answer.some most_steps most_levels bytes in (outcome names a.0, record { answer = a.0; answered = a.1; is = refl });
  one = λ names bytes o other a b.
      a.is ∙ ap (outcome names) (one_answer.one most_steps most_levels bytes a.answer b.answer a.answered b.answered) ∙ sym b.is;
}

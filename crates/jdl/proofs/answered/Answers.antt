use Rattle.jdl.proofs.Replay.{obligations_are_taken}
use Rattle.jdl.proofs.answered.Goals as goal

pub answer_to-requires : goal.answer_to-requires
answer_to-requires g c = record { accepts = λ q t. (c.in-Ok.ensures, obligations_are_taken c.first_tasks_are_spelled.ensures q t) }

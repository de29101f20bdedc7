use Rattle.jd_spelled_trees.proofs.Words.{constant_is_known, literal_is_known, variable_is_known}
use Rattle.jd_spelled_trees.proofs.laws.given_words_are_known.Goals as goal

pub returns : goal.returns
returns c = record { number = literal_is_known; constant = constant_is_known; variable = variable_is_known }

use Rattle.jd_written.proofs.Integers.{integer_word, one_integer}
use Rattle.jd_written.proofs.laws.integers_are_words.Goals as goal

pub returns : goal.returns
returns c = record { writable = integer_word; one_integer = one_integer }

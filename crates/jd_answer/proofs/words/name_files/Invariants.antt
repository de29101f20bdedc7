use Rattle.std.proofs.Common.{◌≡◌, take}
use Rattle.std.specs.List.{list_all}
use Rattle.jd_answer.specs.Words.{is_file_name, word_texts}
use Rattle.jd_answer.proofs.words.name_files.Given as goal

abbrev pub invariant-loop-word : goal.invariant-loop-word
invariant-loop-word l = l.all ≡ list_all is_file_name (take l.word-index (word_texts l.words))

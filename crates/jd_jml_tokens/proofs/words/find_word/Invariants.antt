use Rattle.jd_jml_tokens.specs.Words.{words}
use Rattle.jd_jml_tokens.proofs.words.find_word.Given as goal

abbrev pub ghost-find_by_length : goal.ghost-find_by_length
ghost-find_by_length a = words

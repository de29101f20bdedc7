use Rattle.jd_java_tokens.specs.Words.{reserved_words}
use Rattle.jd_java_tokens.proofs.words.find_reserved_word.Given as goal

abbrev pub ghost-find_by_length : goal.ghost-find_by_length
ghost-find_by_length a = reserved_words

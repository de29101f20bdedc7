use Rattle.jd_java_tokens.specs.Words.{used_signs}
use Rattle.jd_java_tokens.proofs.words.find_used_sign.Given as goal

abbrev pub ghost-find_by_length : goal.ghost-find_by_length
ghost-find_by_length a = used_signs

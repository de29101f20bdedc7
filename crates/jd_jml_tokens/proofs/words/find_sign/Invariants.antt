use Rattle.jd_jml_tokens.specs.Words.{used_signs}
use Rattle.jd_jml_tokens.proofs.words.find_sign.Given as goal

abbrev pub ghost-find_by_length : goal.ghost-find_by_length
ghost-find_by_length a = used_signs

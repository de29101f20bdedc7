use Rattle.jd_jml_reprinted.proofs.Back.{texts_are_tokens, read_back, printed_back}
use Rattle.jd_jml_reprinted.proofs.Whole.{spelled_whole}
use Rattle.jd_jml_reprinted.proofs.laws.printed_is_read.Goals as goal

pub returns : goal.returns
returns c =
    let t = c.derivations_are_trimmed.ensures in
    let l = c.leaves_tell_all.ensures in
    let k = c.texts_are_kept.ensures in
    let p = c.faultless_is_proper.ensures in
    record { whole = spelled_whole; texts = texts_are_tokens t l k p; again = read_back t l k p; printed_text = printed_back t l k p c.clauses_are_spelled.ensures }

use Rattle.jd_written.proofs.Reading.{tokens_read, one_text, expression_read}
use Rattle.std.proofs.Common.{true}
use Rattle.jd_written.proofs.laws.read_back.Goals as goal

pub returns : goal.returns
returns c = record {
  tokens = λ ts h. tokens_read true 0 ts h;
  one_text = one_text;
  expression = expression_read;
}

use Rattle.std.proofs.Common.{ap}
use Rattle.jd_written.specs.Written.{Text, empty_text}
use Rattle.jd_written.proofs.Writing.{written_all, write_all-append}
use Rattle.jd_written.proofs.laws.written_in_parts.Goals as goal

pub returns : goal.returns
returns c = record {
  from = written_all;
  whole = λ ts. ap (λ (text : Text). text.0) (written_all empty_text ts);
  in_parts = write_all-append;
}

use Rattle.std.proofs.Common.{◌≡◌, ◌≤◌, length, map}
use Rattle.std.specs.List.{All}
use Rattle.jd_base.specs.Faults.{SameContents, SameCounts, StaySteady}
use Rattle.jd_files.specs.Files.{file_limit}
use Rattle.jd_answer.specs.Words.{word_texts}
use Rattle.jd_answer.proofs.Files.{AreReadTo}
use Rattle.jd_answer.proofs.answer.read_files.Given as goal

abbrev pub invariant-loop-name : goal.invariant-loop-name
invariant-loop-name g l = record {
  read : AreReadTo (g.L.Library.contents l.fn.library) (word_texts l.names) l.name-index (map (λ f. f.items) l.files.items);
  many : length l.files.items ≡ l.name-index;
  within : All (λ f. length f.items ≤ file_limit) l.files.items;
  contents : SameContents (g.L.Library.contents l.fn.library) (g.L.Library.contents l.library);
  counts : SameCounts (g.L.Library.faults l.fn.library) (g.L.Library.faults l.library);
  steady : StaySteady (g.L.Library.steady l.fn.library) (g.L.Library.steady l.library);
}

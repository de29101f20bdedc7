-- That bytes are one file at most, or are refused for one reason.
use Rattle.std.specs.Prelude.{◌≡◌, ℕ, List}
use Rattle.jd_syntax.specs.JavaTrees.{JavaUnit}
use Rattle.jd_source.specs.Sources.{IsSource, Reason, IsReason, SameReason}

pub record OneSource : Type 0 where
  pub one_tree : (bytes : List ℕ) (t u : JavaUnit) → IsSource bytes t → IsSource bytes u → t ≡ u
  pub not_refused : (bytes : List ℕ) (t : JavaUnit) (r : Reason) → IsSource bytes t → IsReason bytes r → ⊥
  pub one_reason : (bytes : List ℕ) (r s : Reason) → IsReason bytes r → IsReason bytes s → SameReason r s

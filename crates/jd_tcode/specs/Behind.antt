-- What stands first in brackets, and what stands behind it.
use Rattle.std.specs.Prelude.{ℕ, List, [], ◌∷◌, Option, Some, None}
use Rattle.jd_syntax.specs.Sxs.{BracketedList, Atom, Brackets, NoneBracketed, BracketedThen}
use Rattle.jd_tforms.specs.Reading.{Read}

abbrev pub first_word : BracketedList → Option (List ℕ)
first_word NoneBracketed = None
first_word (BracketedThen (Atom w) xs) = Some w
first_word (BracketedThen (Brackets ys) xs) = None

abbrev pub rest_of : List Read → List Read
rest_of [] = []
rest_of (r ∷ rs) = rs

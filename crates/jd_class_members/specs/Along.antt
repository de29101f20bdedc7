-- The constructor of a class, as a list.
use Rattle.std.specs.Prelude.{ℕ, List, [], ◌∷◌, Option, Some, None}
use Rattle.jd_syntax.specs.JavaTrees.{JavaUnit}
use Rattle.jd_programs.specs.Members.{own}

abbrev pub listed : Option ℕ → List ℕ
listed None = []
listed (Some m) = m ∷ []

-- the constructor that a class declares itself
abbrev pub constructor_of : List JavaUnit → ℕ → List ℕ
constructor_of units c = listed (own units c).constructor

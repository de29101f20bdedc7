-- Temporaries that are added behind the variables that are there, with no parameter or local.
use Rattle.std.specs.Prelude.{List, [], ◌++◌, ◌∷◌, ◌≡◌, ℕ}
use Rattle.std.specs.List.{AllByRecursion}
use Rattle.jd_syntax.specs.Names.{Declared}
use Rattle.jd_bodies.specs.Variables.{Progress}

-- its text begins with the mark
abbrev pub BeginsWithMark : List ℕ → Type 0
BeginsWithMark [] = ⊥
BeginsWithMark (b ∷ bs) = b ≡ 39

abbrev pub IsTemporary : Declared → Type 0
IsTemporary v = BeginsWithMark v.name.text

pub record Grows (p q : Progress) : Type 0 where
  pub more : List Declared
  pub is : q.variables ≡ p.variables ++ more
  pub marked : AllByRecursion IsTemporary more
  pub names : q.names ≡ p.names

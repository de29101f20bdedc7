-- How numbers and places are written.
use Rattle.std.specs.Prelude.{ℕ, ◌+◌, ◌<◌, ◌≤◌, List, [], ◌∷◌, ◌++◌, map, Option, Some, None, codes}
use Rattle.std.specs.List.{All}
use Rattle.std.specs.Int.Digits.{digits_of}
use Rattle.jd_model.specs.Sequents.{PlainPlace}
use Rattle.jd_model.specs.declared.sequent.Side.{Side}
use Rattle.jd_model.specs.declared.sequent.Side.TheVariants.{Left, Right}

-- a positive number in decimal digits
unfoldable pub decimal : ℕ → List ℕ
decimal n = map (λ d. 48 + d) (digits_of 10 n)

-- numbers of children, each behind a dot
abbrev pub written_path : List ℕ → List ℕ
written_path [] = []
written_path (n ∷ ns) = 46 ∷ (decimal n ++ written_path ns)

-- `L` or `R`
abbrev pub letter_of : Side → ℕ
letter_of Left = 76
letter_of Right = 82

-- `-`, or a letter and numbers, as `R1.4.2`
abbrev pub written_place : Option PlainPlace → List ℕ
written_place None = codes "-"
written_place (Some p) = letter_of p.side ∷ (decimal p.index ++ written_path p.path)

-- a number of one to nine digits
abbrev pub IsIndex : ℕ → Type 0
IsIndex n = (0 < n) × (n ≤ 999999999)

abbrev pub IsPlace : Option PlainPlace → Type 0
IsPlace None = Unit {0}
IsPlace (Some p) = IsIndex p.index × All IsIndex p.path

-- How a text is read as a number or a place, byte by byte.
use Rattle.std.specs.Prelude.{ℕ, ◌+◌, ◌-◌, ◌*◌, ◌==◌, ◌&&◌, nat_lt, nat_le, cond, List, [], ◌∷◌, ◌++◌, Option, Some, None, option_and_then}
use Rattle.jd_model.specs.Sequents.{PlainPlace}
use Rattle.jd_model.specs.declared.sequent.Side.{Side}
use Rattle.jd_model.specs.declared.sequent.Side.TheVariants.{Left, Right}

-- the number with one digit more
abbrev pub with_digit : ℕ → ℕ → Option ℕ
with_digit n b = cond (nat_le 48 b && nat_lt b 58 && nat_lt 0 (n * 10 + (b - 48)) && nat_le (n * 10 + (b - 48)) 999999999) (Some (n * 10 + (b - 48))) None

-- the numbers between dots, of which some are done and the last is read so far as n
unfoldable pub numbers : List ℕ → List ℕ → ℕ → Option (List ℕ)
numbers [] done n = cond (n == 0) None (Some (done ++ n ∷ []))
numbers (b ∷ bs) done n =
    cond (b == 46) (cond (n == 0) None (numbers bs (done ++ n ∷ []) 0)) (option_and_then (numbers bs done) (with_digit n b))

abbrev pub only_one : List ℕ → Option ℕ
only_one [] = None
only_one (n ∷ []) = Some n
only_one (n ∷ (m ∷ ns)) = None

-- one number
unfoldable pub read_number : List ℕ → Option ℕ
read_number bs = option_and_then only_one (numbers bs [] 0)

abbrev pub place_at : Side → List ℕ → Option (Option PlainPlace)
place_at side [] = None
place_at side (n ∷ ns) = Some (Some (record { side = side; index = n; path = ns }))

abbrev pub nothing_more : List ℕ → Option (Option PlainPlace)
nothing_more [] = Some None
nothing_more (b ∷ bs) = None

abbrev pub sided : Side → List ℕ → Option (Option PlainPlace)
sided side bs = option_and_then (place_at side) (numbers bs [] 0)

unfoldable pub read_place : List ℕ → Option (Option PlainPlace)
read_place [] = None
read_place (b ∷ bs) =
    cond (b == 45) (nothing_more bs) (cond (b == 76) (sided Left bs) (cond (b == 82) (sided Right bs) None))

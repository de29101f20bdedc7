-- Two lists side by side.
use Rattle.std.specs.Prelude.{ℕ, List, [], ◌∷◌, cond, Option, Some, None}
use Rattle.std.specs.Str.{bytes_eq}

-- the first that stands beside this word
abbrev pub find_beside : {H : Type 0} → List H → List (List ℕ) → List ℕ → Option H
find_beside [] vs w = None
find_beside (h ∷ hs) [] w = None
find_beside (h ∷ hs) (v ∷ vs) w = cond (bytes_eq v w) (Some h) (find_beside hs vs w)

-- Rows of values, filled one after the other.
use Rattle.std.specs.Prelude.{◌≡◌, ◌≢◌, ◌⊎◌, ℕ, ◌<◌, List, length, get_or, Option}
use Rattle.std.specs.Option.{option_or}
use Rattle.jd_nearest.specs.Nearest.{IsInherited, column}

-- where the node's row had nothing, it has what its parent's has, and all else is as before
pub record IsRowFilled (width : ℕ) (old new : List (Option ℕ)) (node parent : ℕ) : Type 0 where
  pub row : (k : ℕ) → k < width → column width new k node ≡ option_or (column width old k node) (column width old k parent)
  pub others : (a k : ℕ) → k < width → a ≢ node → column width new k a ≡ column width old k a

-- so many nodes of the order have what they take from the nearest, and each other has this or its own
pub record AreFilled (parents : List (Option ℕ)) (width : ℕ) (own values : List (Option ℕ)) (order : List (ℕ × ℕ)) (done : ℕ) : Type 0 where
  pub count : length values ≡ length own
  pub filled : (j k : ℕ) (d : ℕ × ℕ) → j < done → k < width → IsInherited parents (column width own k) (get_or order j d).1 (column width values k (get_or order j d).1)
  pub others : (a k : ℕ) → a < length parents → k < width → (column width values k a ≡ column width own k a) ⊎ IsInherited parents (column width own k) a (column width values k a)

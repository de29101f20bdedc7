-- What a class sees of what it and its ancestors have of their own.
use Rattle.std.specs.Prelude.{ℕ, zero, suc, ◌+◌, Bool, cond, List, Option, Some, None, if◌then◌else◌, nat_eq, nat_le, option_map, slice_index}
use Rattle.jd_ancestry.specs.Walks.{parent_of}

-- how many classes stand at a class and above it
abbrev pub steps : List ℕ → ℕ → ℕ
steps depths c = slice_index depths c + 1

-- its own, or else that of the class above
abbrev pub or_above : {A : Type 0} → (ℕ → Option A) → Option ℕ → Option A → Option A
or_above next above (Some a) = Some a
or_above next None None = None
or_above next (Some p) None = next p

-- the nearest that has one, among so many classes from this one up
abbrev pub nearest : {A : Type 0} → List (Option ℕ) → (ℕ → Option A) → ℕ → ℕ → Option A
nearest parents own zero c = None
nearest parents own (suc n) c = or_above (nearest parents own n) (parent_of parents c) (own c)

-- the class itself, where it is this one
abbrev pub it_is : ℕ → ℕ → Option ℕ
it_is above c = cond (nat_eq c above) (Some c) None

-- ---- the nearest class that two both extend

module _ (parents : List (Option ℕ)) (depths : List ℕ) where
  -- the lower one goes a step up
  abbrev pub one_up : ℕ → ℕ → Option (ℕ × ℕ)
  one_up a b = if nat_le (steps depths b) (steps depths a) then option_map (λ p. (p, b)) (parent_of parents a) else option_map (λ p. (a, p)) (parent_of parents b)

  abbrev pub met : (ℕ → ℕ → ℕ) → Option (ℕ × ℕ) → ℕ
  met next None = 0
  met next (Some p) = next p.0 p.1

  abbrev pub meeting : ℕ → ℕ → ℕ → ℕ
  meeting zero a b = 0
  meeting (suc n) a b = if nat_eq a b then a else met (meeting n) (one_up a b)
